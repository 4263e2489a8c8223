-- A plan carried out uncut: what its steps take is there (`Ready`), so each copy is written whole, one after the other, and the pair is settled.
-- Where a step fails, the copy at work goes on in another block (`work_failed`), and the other copy stands or comes as before.
-- Assumes nothing.
use mathlib.Core.Bool.{Bool, true, false, cond}
use mathlib.Core.List.{List, [], ◌∷◌}
use mathlib.Core.Logic.{◌≢◌}
use mathlib.Core.Path.{◌≡◌, refl, sym, ap, ◌∙◌, subst}
use Prim.Native.Nat.{ℕ, zero, suc, ◌+◌, ◌*◌}
use native.Mathlib.Omega.{arith}
use lib.ListN.{length}
use Rattle.chip.specs.Large.{bitmap_bytes, pages_of}
use Rattle.chip.specs.declared.LargeChip.{LargeChip}
use Rattle.chip.specs.declared.Refusal.TheVariants.{Length}
use Rattle.bbt.specs.declared.Kind.{Kind}
use Rattle.bbt.specs.declared.Kind.TheVariants.{Primary, Mirror}
use Rattle.bbt.specs.CarriedOut.{job_count, one_more, step_count, Carried, all_done, one_done, one_failed, ReadsAs, EndsSettled}
use Rattle.bbt.specs.Copies.{Table}
use Rattle.bbt.specs.Failures.{failure}
use Rattle.bbt.specs.Histories.{Snapshot, snapshot, with_failed, answer, asked}
use Rattle.bbt.specs.Lent.{call_lent}
use Rattle.bbt.specs.Pages.{View}
use Rattle.bbt.specs.Plans.{Step, Job, idle, single, double, Plan, fresh, writes, copy_steps, job_steps, zero_first, steps_of, step_at, Answer, refuse, plan, Reading, reading, holds, Call, for_update, plan_by_rules}
use Rattle.bbt.specs.Regions.{Region, view}
use Rattle.bbt.proofs.Failing.{Turn, first_copy, last_copy, Doing, doing_second, doing_only, job_at, failures_more, Held, held_turn}
use Rattle.bbt.proofs.Forms.{Sole, sole_clear, sole_in, sole_fit, sole_length, sole_apart}
use Rattle.bbt.proofs.LeftPages.{Judged, judge, primary_kind, mirror_kind}
use Rattle.bbt.proofs.Numbering.{Tracked, track_first, track_next, track_numbered}
use Rattle.bbt.proofs.Placing.{did, broke, Placing, place_start, place_fill, place_retire}
use Rattle.bbt.proofs.Planning.{in_force, plan_is, Asked, Update, no_news, news, updates, settled_reading, reading_settled, plan_asked, Ready, nothing_to_do, one_to_place, both_to_place}
use Rattle.bbt.proofs.Ready.{plan_ready}
use Rattle.bbt.proofs.Retires.{step_retires}
use Rattle.bbt.proofs.Searches.{no_confusion}
use Rattle.bbt.proofs.Working.{Role, first_primary, last_primary, last_mirror, last_role, rest_of, Work, Worked, still, finished, work_first, work_done, work_failed}

-- ---- the number of steps
length_writes : (n p b : ℕ) (k : Kind) (t : Table) (rest : List Step) → length (writes n p b k t rest) ≡ n + length rest
unfolding writes
length_writes zero p b k t rest = omega arith
length_writes (suc n) p b k t rest = omega (arith, length_writes n (suc p) b k t rest)

length_two : (P b : ℕ) (k : Kind) (c : ℕ) (j : Kind) (t : Table) → length (copy_steps P b k t (copy_steps P c j t [])) ≡ 2 * P + 2
unfolding copy_steps
length_two P b k c j t = omega (arith, length_writes P 0 b k t (copy_steps P c j t []), length_writes P 0 c j t [])

length_job : (P : ℕ) (j : Job) → length (job_steps P j) ≡ job_count P j
unfolding job_steps copy_steps
length_job P (idle v) = refl
length_job P (single k b g t) = omega (arith, length_writes P 0 b k t [])
length_job P (double p m t) = length_two P _ _ _ _ t

length_first : (bs : List ℕ) (es : List Step) → length (zero_first bs es) ≡ one_more bs (length es)
length_first [] es = refl
length_first (b ∷ bs) es = omega arith

length_steps : (P : ℕ) (q : Plan) → length (steps_of P q) ≡ step_count P q
length_steps P q = length_first q.failed (job_steps P q.job) ∙ ap (one_more q.failed) (length_job P q.job)

-- a copy being written has a step left
has_step : {chip : LargeChip} {r : Region chip} {k j : Kind} {b g : ℕ} {x c : Table} {rest es : List Step} → Placing r k j b g x c rest es → es ≢ []
has_step (place_start w t cl ft hb ne) e = no_confusion (cc)
has_step (place_fill n q h w f) e = no_confusion (cc)
has_step (place_retire w t cl hz nz nb ft hb ne) e = no_confusion (cc)

-- ---- a plan made anew has a failed block
failure_retires : (chip : LargeChip) (R : View) {z : Plan} (a : Answer) (i : ℕ) → failure chip R a i ≡ plan z → z.failed ≢ []
unfolding failure
failure_retires chip R (refuse r) i e = λ f. no_confusion (cc)
failure_retires chip R (plan q) i e = step_retires chip R q (step_at (steps_of (pages_of chip) q) i) e

module _ {chip : LargeChip} (ok : Judged chip) (call : Call) where
  anew_retires : (a : Snapshot chip) (i : ℕ) (z : Plan) → answer call (with_failed a i) ≡ plan z → z.failed ≢ []
  anew_retires a i z e = go (call_lent chip call) (sym (plan_is ok (with_failed a i) call) ∙ e)
    where
      go : (t : Bool) → cond t (in_force call (with_failed a i)) (refuse Length) ≡ plan z → z.failed ≢ []
      go true h =
          failure_retires chip (view a.from) (in_force call a) i
          (sym (failures_more chip (view a.from) (plan_by_rules chip (view a.from) call) a.failed i) ∙ h)
      go false h = λ f. no_confusion (cc)

  -- where no block has failed, the plan is the first
  carried_same : {a : Snapshot chip} {q z : Plan} {i : ℕ} {es : List Step} {r u : Region chip} → Carried call a q i es r u z → z.failed ≡ [] → z ≡ q
  carried_same all_done f = refl
  carried_same (one_done s sp d on) f = carried_same on f
  carried_same {a} {i = i} (one_failed s q' sp d an on) f =
      let e : _ ≡ q' = carried_same on f in
      absurd (anew_retires a i q' an (ap (λ (p : Plan). p.failed) (sym e) ∙ f))

  -- ---- one copy, carried out
  -- it stands, in block b, and so does the other; from there the rest is carried out, by the plan in force
  record Stood (u : Region chip) (d : Turn) (k j : Kind) (g : ℕ) (x c : Table) (z : Plan) : Type 0 where
    s : Region chip
    a : Snapshot chip
    q : Plan
    i : ℕ
    b : ℕ
    carried : Carried call a q i (rest_of (pages_of chip) d g x) s u z
    made : answer call a ≡ plan q
    tracked : Tracked call a i (rest_of (pages_of chip) d g x)
    twin : Sole s j g c
    copy : Sole s k b x
    held : Held s call a d k b g x

  carry_copy : {d : Turn} {k j : Kind} {b g : ℕ} {x c : Table} {a : Snapshot chip} {q z : Plan} {i : ℕ} {es : List Step} {r u : Region chip}
      → Carried call a q i es r u z → answer call a ≡ plan q → Tracked call a i es → Work r call a es d k j b g x c → Stood u d k j g x c z
  carry_copy all_done m t w = absurd (has_step w.placing refl)
  carry_copy {d} {k} {j} {b} {g} {x} {c} {a} {q} {z} {i} {u = u} (one_done {e = e} {es = es} s sp dn on) m t w =
      go (λ v. carry_copy on m (track_next t) v) (work_done ok s w sp t (did s (asked call a i) e (track_numbered ok t).by_image dn))
    where
      go : (Work s call a es d k j b g x c → Stood u d k j g x c z) → Worked s call a es d k j b g x c → Stood u d k j g x c z
      go rec (still v l) = rec v
      go rec (finished r y v h o) =
          record {
            s = s;
            a = a;
            q = q;
            i = suc i;
            b = b;
            carried = subst (λ (es : List Step). Carried call a q (suc i) es s u z) r on;
            made = m;
            tracked = subst (λ (es : List Step). Tracked call a (suc i) es) r (track_next t);
            twin = y;
            copy = v;
            held = o;
          }
  carry_copy {b = b} {a = a} {i = i} {r = r} (one_failed {e = e} s q' sp ct an on) m t w =
      let v = work_failed ok s w sp t (broke r s (asked call a i) e (track_numbered ok t).by_image ct) q' an in
      carry_copy {b = v.0} on an (track_first call (with_failed a i) q' an) v.1

  -- ---- the last copy: both hold its table
  record Both (u : Region chip) (x : Table) (z : Plan) : Type 0 where
    p : ℕ
    m : ℕ
    primary : Sole u Primary p x
    mirror : Sole u Mirror m x
    reads : ReadsAs z.job u

  last_both : {k j : Kind} {b g : ℕ} {x : Table} {u : Region chip} {z : Plan} → Role last_copy k j → Doing last_copy k b g x z.job → Sole u j g x → Sole u k b x
      → Both u x z
  last_both {b = b} {g = g} {x = x} {u = u} {z = z} o d y v = go o z.job d y v refl
    where
      go : {k j : Kind} → Role last_copy k j → (w : Job) → Doing last_copy k b g x w → Sole u j g x → Sole u k b x → z.job ≡ w → Both u x z
      go last_primary w doing_only y v e =
          record { p = b; m = g; primary = v; mirror = y; reads = rw e (settled_reading v y) }
      go last_mirror w doing_only y v e =
          record { p = g; m = b; primary = y; mirror = v; reads = rw e (settled_reading y v) }
      go last_mirror w doing_second y v e =
          record { p = g; m = b; primary = y; mirror = v; reads = rw e (settled_reading y v) }

  last_done : {a : Snapshot chip} {q z : Plan} {i b g : ℕ} {k j : Kind} {x : Table} {s u : Region chip} → Carried call a q i [] s u z → answer call a ≡ plan q
      → Role last_copy k j → Held s call a last_copy k b g x → Sole s j g x → Sole s k b x → Both u x z
  last_done {a} {q} {b = b} {g = g} {k = k} {x = x} all_done m o h y v =
      let e : plan h.q ≡ plan q = sym (plan_is ok a call ∙ rw (h.lent, h.forced)) ∙ m in
      let w : h.q ≡ q = cc in
      last_both o (subst (λ (p : Plan). Doing last_copy k b g x p.job) w h.doing) y v

  carry_last : {k j : Kind} {b g : ℕ} {x : Table} {a : Snapshot chip} {q z : Plan} {i : ℕ} {es : List Step} {r u : Region chip}
      → Carried call a q i es r u z → answer call a ≡ plan q → Tracked call a i es → Work r call a es last_copy k j b g x x → Both u x z
  unfolding rest_of
  carry_last on m t w = let f = carry_copy on m t w in last_done f.carried f.made w.role f.held f.twin f.copy

  -- one copy after the other
  carry_both : {p m : ℕ} {x y t : Table} {q z : Plan} {r u : Region chip} → Sole r Primary p x → Sole r Mirror m y → length t.bitmap ≡ bitmap_bytes chip
      → q ≡ fresh (double p m t) → Asked r call q → answer call (snapshot r) ≡ plan q → Carried call (snapshot r) q 0 (steps_of (pages_of chip) q) r u z → Both u t z
  unfolding rest_of copy_steps job_at
  carry_both {p} {m} {y = y} {t = t} {q} {z} {r} {u} v w len e h a on =
      let tr : Tracked call (snapshot r) 0 (steps_of (pages_of chip) q) = track_first call (snapshot r) q a in
      let f : Stood u first_copy Primary Mirror m t y z =
      carry_copy on a tr (subst (λ (q : Plan). Work r call (snapshot r) (steps_of (pages_of chip) q) first_copy Primary Mirror p m t y) (sym e)
      (work_first ok p first_primary len w (sole_clear ok v) (sole_fit ok v) (sole_in ok v) (sole_apart ok mirror_kind v w) h.lent (h.first ∙ ap plan e))) in
      let n = f.copy in
      let o = f.twin in
      carry_last f.carried f.made f.tracked (record {
        role = last_mirror;
        full = len;
        placing = place_start refl n (sole_clear ok o) (sole_fit ok o) (sole_in ok o) (sole_apart ok primary_kind o n);
        held = held_turn ok f.held;
      })

  -- ---- a plan
  no_steps : {a : Snapshot chip} {q z : Plan} {i : ℕ} {r u : Region chip} → Carried call a q i [] r u z → ReadsAs q.job r → ReadsAs z.job u
  no_steps all_done h = h

  same_reading : {a : Snapshot chip} {q z : Plan} {i : ℕ} {r u : Region chip} {x : Reading} → Carried call a q i [] r u z → reading chip (view r) ≡ x
      → reading chip (view u) ≡ x
  same_reading all_done h = h

  carry_plan : {r u : Region chip} {q z : Plan} (j : Job) → q ≡ fresh j → Ready r j → Asked r call q → answer call (snapshot r) ≡ plan q
      → Carried call (snapshot r) q 0 (steps_of (pages_of chip) q) r u z → ReadsAs z.job u
  unfolding job_steps job_at
  carry_plan {r} {u} {q} {z} j e (nothing_to_do {p} {m} {v} {t} x y w) h a on =
      let c : Carried call (snapshot r) (fresh (idle v)) 0 [] r u z = subst (λ (q : Plan). Carried call (snapshot r) q 0 (steps_of (pages_of chip) q) r u z) e on in
      no_steps c (p, m, t, settled_reading x y, w)
  carry_plan {r} {q = q} j e (one_to_place {k} {j = i} {b} {g} {c} o t cl ft hb ne) h a on =
      (carry_last on a (track_first call (snapshot r) q a)
      (subst (λ (q : Plan). Work r call (snapshot r) (steps_of (pages_of chip) q) last_copy k i b g c c) (sym e)
      (work_first ok b (last_role o) (sole_length ok t) t cl ft hb ne h.lent (h.first ∙ ap plan e)))).reads
  carry_plan j e (both_to_place x y len) h a on = (carry_both x y len e h a on).reads

  -- ---- an update ends with the new table; with no block failed, in the old one's blocks
  carry_update : {r u : Region chip} {o n : Table} {p m : ℕ} {q z : Plan} (j : Job) → q ≡ fresh j → Update chip o n p m j → Sole r Primary p o → Sole r Mirror m o
      → Asked r call q → answer call (snapshot r) ≡ plan q → Carried call (snapshot r) q 0 (steps_of (pages_of chip) q) r u z
      → (p' : ℕ) × (m' : ℕ) × (reading chip (view u) ≡ holds p' m' n) × (z.failed ≡ [] → (p' ≡ p) × (m' ≡ m))
  unfolding job_steps
  carry_update {r} {u} {o} {n} {p} {m} {q} {z} j e (no_news w) x y h a on =
      let c : Carried call (snapshot r) (fresh (idle o.version)) 0 [] r u z =
      subst (λ (q : Plan). Carried call (snapshot r) q 0 (steps_of (pages_of chip) q) r u z) e on in
      (p, m, same_reading c (settled_reading x y) ∙ ap (holds p m) (sym w), λ f. (refl, refl))
  carry_update {r} {u} {o} {n} {p} {m} {q} {z} j e (news w) x y h a on =
      let b = carry_both x y w.full e h a on in
      let now : reading chip (view u) ≡ holds b.p b.m n = settled_reading b.primary b.mirror in (
        b.p,
        b.m,
        now,
        λ f.
            let s : z ≡ fresh (double p m n) = carried_same on f ∙ e in
            let old : reading chip (view u) ≡ holds p m n = subst (λ (q : Plan). ReadsAs q.job u) s b.reads in
            let k : holds b.p b.m n ≡ holds p m n = sym now ∙ old in
            (cc, cc),
      )

pub ends_settled : EndsSettled
ends_settled n size chip e = record {
  after = length_steps (pages_of chip);
  settled = λ call q z r u h c.
      let y = plan_ready ok r call q h in
      carry_plan ok call y.0 y.1 y.2 (plan_asked ok r call q h) h c;
  updates = λ w q z r u p m o now h c.
      let s = reading_settled r p m o now in
      let a = plan_asked ok r (for_update w) q h in
      let x = updates ok r p m o w q s.0 s.1 a in
      carry_update ok (for_update w) x.0 x.1 x.2 s.0 s.1 a h c;
}
  where
    ok : Judged chip
    ok = judge n size chip e

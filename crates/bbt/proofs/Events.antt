-- Every event keeps the invariant under demand 3.
-- Assumes nothing.
use mathlib.Core.Bool.{true, true≢false}
use mathlib.Core.List.{List, [], ◌∷◌}
use mathlib.Core.Logic.{◌≢◌}
use mathlib.Core.Path.{◌≡◌, refl, sym, ap, ◌∙◌, subst}
use Prim.Native.Nat.{ℕ, suc}
use native.Mathlib.Decide.{ℕ_discrete}
use lib.ListN.{length}
use Rattle.chip.specs.Large.{bitmap_bytes, pages_of}
use Rattle.chip.specs.declared.LargeChip.{LargeChip}
use Rattle.bbt.specs.declared.Kind.{Kind}
use Rattle.bbt.specs.declared.Kind.TheVariants.{Primary, Mirror}
use Rattle.bbt.specs.Copies.{Table, good, table}
use Rattle.bbt.specs.Histories.{OthersKept, Last, pending, as_planned, NewPrimary, Closes, was_complete, was_not, AfterStep, Snapshot, snapshot, with_failed, Hand, holding, World, world, answer, asked, Event, plan_refused, update_planned, recovery_planned, step_done, step_cut, cut_between, step_failed, step_given_up, no_step_left, no_plan}
use Rattle.bbt.specs.Plans.{Step, Job, single, Plan, fresh, job_steps, steps_of, copy_steps, plan, updated, recovery, Call, for_update, for_recovery, plan_by_rules}
use Rattle.bbt.specs.PowerCuts.{NotGoodKept}
use Rattle.bbt.specs.Regions.{Region, view}
use Rattle.bbt.proofs.Failing.{first_copy, last_copy, job_at, held_turn}
use Rattle.bbt.proofs.Forms.{Sole, Missing, Sound, twins, ahead, one_left, Whole, sole_same, sole_clear, sole_in, sole_fit, sole_length, sole_apart, sound_same, whole_copy}
use Rattle.bbt.proofs.LeftPages.{Judged, Twin, primary_kind, mirror_kind}
use Rattle.bbt.proofs.Numbering.{InHand, Tracked, track_numbered}
use Rattle.bbt.proofs.Placing.{Did, did, Broke, broke, place_start, Remains, unchanged, lacks, whole}
use Rattle.bbt.proofs.Planning.{News, Update, no_news, news, updates, next_differs, sole_table, reading_settled, plan_first, Asked, plan_asked, Ready, nothing_to_do, one_to_place, both_to_place, Of, recovers, sound_settled}
use Rattle.bbt.proofs.Ready.{plan_ready}
use Rattle.bbt.proofs.Searches.{nowhere_find, only_find, Unique}
use Rattle.bbt.proofs.Working.{first_primary, last_mirror, kinds, last_role, rest_of, Worked, still, finished, work_first, work_frame, work_done, work_cut, work_failed, work_twin}
use Rattle.bbt.proofs.Invariant.{Copying, Current, Half, Inv, Mode, Recovering, back, both_sound, close_current, copying, inv, kept_same, new_half, new_kept, no_hand, old_half, place_ends, recovered, recovering, renewing, resting, the_new, the_old, the_one, update_over, whole_kept, whole_new}

-- ---- when no new primary is complete
module _ {chip : LargeChip} (ok : Judged chip) where
  -- where there is no good primary
  missing_not : {r : Region chip} (n : Table) → length n.bitmap ≡ bitmap_bytes chip → Missing r Primary → ¬ NewPrimary r n
  missing_not {r} n len h w =
      true≢false (sym (whole_copy ok n primary_kind len w.whole).0
      ∙ nowhere_find chip.region (good (pages_of chip) (view r) Primary) h.not_found w.block w.in_region)

  news_differ : {o n : Table} → News chip o n → o ≢ n
  news_differ {o} {n} w e = next_differs o.version w.old_byte (sym w.newer ∙ ap (λ (t : Table). t.version) (sym e))

  -- where the one good primary holds the old one
  old_not : {r : Region chip} {o n : Table} {p : ℕ} → News chip o n → Sole r Primary p o → ¬ NewPrimary r n
  old_not {r} {o} {n} {p} w h q =
      let g = whole_copy ok n primary_kind w.full q.whole in
      news_differ w (at (ℕ_discrete q.block p) g (only_find chip.region (good (pages_of chip) (view r) Primary) p h.found))
    where
      at : Dec (q.block ≡ p) → (good (pages_of chip) (view r) Primary q.block ≡ true) × (table (pages_of chip) (view r) q.block ≡ n)
          → Unique chip.region (good (pages_of chip) (view r) Primary) p → o ≡ n
      at (yes e) g u = sym h.content ∙ (ap (table (pages_of chip) (view r)) (sym e) ∙ g.1)
      at (no d) g u = absurd (true≢false (sym g.0 ∙ u.no_other q.block q.in_region d))

  -- ---- once the plan is out of hand
  record Rest (s : Region chip) (l : Last) (f : Table) : Type 0 where
    c : Table
    is : Current l c
    sound : Sound s c
    not_good_kept : NotGoodKept chip f c

  new_rest : {r : Region chip} {o n f : Table} {l' : Last} → NotGoodKept chip f n → Sound r n → NewPrimary r n → Closes r (pending o n) l' → Rest r l' f
  new_rest {n = n} k a h (was_complete s) = record { c = n; is = the_new; sound = a; not_good_kept = k }
  new_rest k a h (was_not s) = absurd (s h)

  half_rest : {r : Region chip} {m : ℕ} {o n : Table} {l' : Last} → News chip o n → Half r m o n → Closes r (pending o n) l' → Rest r l' o
  half_rest w (old_half a h) (was_complete s) = absurd (h s)
  half_rest {o = o} w (old_half a h) (was_not s) = record { c = o; is = the_old; sound = a; not_good_kept = kept_same chip o }
  half_rest w (new_half x y h) cl = new_rest w.not_good_kept (ahead x y w.newer) h cl

  copy_stands : {r : Region chip} {v : List ℕ} {a : Snapshot chip} {es : List Step} {n : Table} → Copying r v a es n → NewPrimary r n
  copy_stands {n = n} x = whole_new n (sole_in ok (work_twin ok x.work)) x.stays

  close : {r : Region chip} {h : Hand chip} {l l' : Last} {f : Table} → Mode r h l f → Closes r l l' → Rest r l' f
  close {f = f} (resting i u s) cl = record { c = f; is = close_current u cl; sound = s; not_good_kept = kept_same chip f }
  close {f = f} (recovered u x y) cl = record { c = f; is = close_current u cl; sound = twins x y; not_good_kept = kept_same chip f }
  close {f = f} (recovering x) cl = record { c = f; is = close_current x.now cl; sound = x.sound; not_good_kept = kept_same chip f }
  close (renewing x) cl = half_rest x.new x.half cl
  close {f = f} (copying x) cl = new_rest (kept_same chip f) x.sound (copy_stands x) cl

  -- what a recovery would settle on
  half_sound : {r : Region chip} {m : ℕ} {o n : Table} → News chip o n → Half r m o n → (c : Table) × Sound r c
  half_sound {o = o} w (old_half a h) = (o, a)
  half_sound {n = n} w (new_half x y h) = (n, ahead x y w.newer)

  pub mode_sound : {r : Region chip} {h : Hand chip} {l : Last} {f : Table} → Mode r h l f → (c : Table) × Sound r c
  mode_sound {f = f} (resting i u s) = (f, s)
  mode_sound {f = f} (recovered u x y) = (f, twins x y)
  mode_sound {f = f} (recovering x) = (f, x.sound)
  mode_sound (renewing x) = half_sound x.new x.half
  mode_sound {f = f} (copying x) = (f, x.sound)

  -- the table that is settled, if any is
  half_settled : {r : Region chip} {k : ℕ} {o n t : Table} {p m : ℕ} → News chip o n → Half r k o n → Sole r Primary p t → Sole r Mirror m t → t ≡ o
  half_settled w (old_half a h) x y = sound_settled ok a x y
  half_settled {r} {p = p} w (new_half a b h) x y = absurd (old_not w (subst (λ (z : Table). Sole r Primary p z) (sole_table b y) x) h)

  pub mode_settled : {r : Region chip} {h : Hand chip} {l : Last} {f t : Table} {p m : ℕ} → Mode r h l f → Sole r Primary p t → Sole r Mirror m t → t ≡ f
  mode_settled (resting i u s) x y = sound_settled ok s x y
  mode_settled (recovered u a b) x y = sound_settled ok (twins a b) x y
  mode_settled (recovering w) x y = sound_settled ok w.sound x y
  mode_settled (renewing w) x y = half_settled w.new w.half x y
  mode_settled (copying w) x y = sound_settled ok w.sound x y

  -- ---- a step, done
  record After (r : Region chip) (h : Hand chip) (l : Last) (f : Table) : Type 0 where
    c : Table
    mode : Mode r h l c
    not_good_kept : NotGoodKept chip f c

  recovered_by : {s : Region chip} {a : Snapshot chip} {i : ℕ} {l : Last} {c : Table} {k j : Kind} {b g : ℕ} → Twin k j → Current l c
      → Sole s j g c → Sole s k b c → Mode s (holding for_recovery a i []) l c
  recovered_by primary_kind u x y = recovered u y x
  recovered_by mirror_kind u x y = recovered u x y

  recovering_done : {s : Region chip} {a : Snapshot chip} {i : ℕ} {es : List Step} {l l' : Last} {c : Table} {k j : Kind} {b g : ℕ} → Twin k j → Current l c
      → Worked s for_recovery a es last_copy k j b g c c → AfterStep s es l l' → Mode s (holding for_recovery a i es) l' c
  unfolding rest_of
  recovering_done {l = l} {l' = l'} {k = k} {j = j} {b = b} {g = g} o u (still w y) en =
      let e = place_ends l l' w.placing en in
      rw e (recovering (record { k = k; j = j; b = b; g = g; work = w; now = u; sound = one_left o y }))
  recovering_done {s} {l = l} {l' = l'} o u (finished e x y h z) en =
      let d : Closes s l l' = rw e at en in
      rw e (recovered_by o (close_current u d) x y)

  update_ended : {s : Region chip} {v : List ℕ} {a : Snapshot chip} {i : ℕ} {es : List Step} {l : Last} {f : Table} → es ≡ [] → Rest s l f
      → After s (holding (for_update v) a i es) l f
  update_ended e y = record { c = y.c; not_good_kept = y.not_good_kept; mode = rw e (resting update_over y.is y.sound) }

  copying_done : {s : Region chip} {v : List ℕ} {a : Snapshot chip} {i : ℕ} {es : List Step} (o : Table) {n : Table} {l' : Last} {p m : ℕ} → Whole s Primary p n
      → Worked s (for_update v) a es last_copy Mirror Primary m p n n → AfterStep s es (pending o n) l' → After s (holding (for_update v) a i es) l' n
  unfolding rest_of
  copying_done o {n} {l'} {p} {m} st (still w y) en =
      let e = place_ends (pending o n) l' w.placing en in
      record { c = n; not_good_kept = kept_same chip n; mode = rw e (copying (record { p = p; m = m; work = w; sound = one_left mirror_kind y; stays = st })) }
  copying_done {s} o {n} {l'} st (finished e x y h z) en =
      let d : Closes s (pending o n) l' = rw e at en in
      update_ended e (new_rest (kept_same chip n) (twins x y) (whole_new n (sole_in ok x) st) d)

  renewing_done : {s : Region chip} {v : List ℕ} {a : Snapshot chip} {i : ℕ} {es : List Step} {o n : Table} {l' : Last} {p m : ℕ} → News chip o n
      → Worked s (for_update v) a es first_copy Primary Mirror p m n o → AfterStep s es (pending o n) l' → After s (holding (for_update v) a i es) l' o
  unfolding rest_of copy_steps
  renewing_done {o = o} {n = n} {l' = l'} {p = p} {m = m} nw (still w y) en =
      let e = place_ends (pending o n) l' w.placing en in
      record {
        c = o;
        not_good_kept = kept_same chip o;
        mode = rw e (renewing (record { p = p; m = m; work = w; half = old_half (one_left primary_kind y) (missing_not n nw.full y.lacking); new = nw }));
      }
  renewing_done {s} {v} {a} {o = o} {n = n} {l' = l'} {p = p} {m = m} nw (finished e y z h q) en =
      let d : l' ≡ pending o n = rw e at en in
      record {
        c = n;
        not_good_kept = nw.not_good_kept;
        mode = rw (e, d) (copying (record {
          p = p;
          m = m;
          work = record {
            role = last_mirror;
            full = nw.full;
            placing = place_start refl z (sole_clear ok y) (sole_fit ok y) (sole_in ok y) (sole_apart ok primary_kind y z);
            held = held_turn ok q;
          };
          sound = ahead z y nw.newer;
          stays = h;
        }));
      }

  -- the mirror's steps do not touch the new primary
  copy_stays : {r : Region chip} (s : Region chip) {v : List ℕ} {a : Snapshot chip} {e : Step} {es : List Step} {n : Table} (x : Copying r v a (e ∷ es) n)
      → OthersKept e r s → Whole s Primary x.p n
  copy_stays s {n = n} x sp = let f = work_frame ok s x.work sp in whole_kept n f.1 (sole_in ok (work_twin ok x.work)) f.2 x.stays

  done_mode : {r : Region chip} (s : Region chip) {k : Call} {a : Snapshot chip} {i : ℕ} {e : Step} (es : List Step) (l l' : Last) {f : Table}
      → Tracked k a i (e ∷ es) → Mode r (holding k a i (e ∷ es)) l f → OthersKept e r s → Did e s → AfterStep s es l l' → After s (holding k a (suc i) es) l' f
  done_mode s es l l' {f} t (recovering x) sp d en =
      record { c = f; not_good_kept = kept_same chip f; mode = recovering_done (kinds x.work.role) x.now (work_done ok s x.work sp t d) en }
  done_mode s es l l' t (renewing x) sp d en = renewing_done x.new (work_done ok s x.work sp t d) en
  done_mode s es l l' t (copying {o = o} x) sp d en = copying_done o (copy_stays s x sp) (work_done ok s x.work sp t d) en
  done_mode s es l l' t (resting none _ _) sp d en = elim none [ ]

  -- ---- a step, cut or failed
  remains_sound : {r s : Region chip} {k j : Kind} {b g : ℕ} {c : Table} → Twin k j → Sound r c → Remains r s k j b g c c → Sound s c
  remains_sound {r} {s} o a (unchanged f) = sound_same ok r s f a
  remains_sound o a (lacks l) = one_left o l
  remains_sound o a (whole x y h) = both_sound o x y

  -- the new primary was being written: the old table is held, or the page was the last and is complete
  remains_half : {r s : Region chip} {p m : ℕ} {o n : Table} → News chip o n → Half r m o n → Remains r s Primary Mirror p m n o → Half s m o n
  remains_half {r} {s} {n = n} w (old_half a h) (unchanged f) = old_half (sound_same ok r s f a) (λ z. h (new_kept s r n (back f) z))
  remains_half {r} {s} {n = n} w (new_half x y h) (unchanged f) = new_half (sole_same ok r s f x) (sole_same ok r s f y) (new_kept r s n f h)
  remains_half {n = n} w h (lacks l) = old_half (one_left primary_kind l) (missing_not n w.full l.lacking)
  remains_half {n = n} w h (whole x y z) = new_half y x (whole_new n (sole_in ok y) z)

  cut_mode : {r : Region chip} (s : Region chip) {k : Call} {a : Snapshot chip} {i : ℕ} {e : Step} {es : List Step} {l l' : Last} {f : Table}
      → Mode r (holding k a i (e ∷ es)) l f → OthersKept e r s → Broke e r s → Closes s l l' → Rest s l' f
  cut_mode s {f = f} (recovering x) sp d cl =
      record {
        c = f;
        is = close_current x.now cl;
        not_good_kept = kept_same chip f;
        sound = remains_sound (kinds x.work.role) x.sound (work_cut ok s x.work sp d);
      }
  cut_mode s (renewing x) sp d cl = half_rest x.new (remains_half x.new x.half (work_cut ok s x.work sp d)) cl
  cut_mode s {f = f} (copying x) sp d cl =
      new_rest (kept_same chip f) (remains_sound mirror_kind x.sound (work_cut ok s x.work sp d))
      (whole_new f (sole_in ok (work_twin ok x.work)) (copy_stays s x sp)) cl
  cut_mode s (resting none _ _) sp d cl = elim none [ ]

  -- failed, and the plan was made anew
  fail_mode : {r : Region chip} (s : Region chip) {k : Call} {a : Snapshot chip} {i : ℕ} {e : Step} {es : List Step} {l : Last} {f : Table} (q : Plan)
      → Tracked k a i (e ∷ es) → Mode r (holding k a i (e ∷ es)) l f → OthersKept e r s → Broke e r s → answer k (with_failed a i) ≡ plan q
      → Mode s (holding k (with_failed a i) 0 (steps_of (pages_of chip) q)) l f
  fail_mode s q t (recovering x) sp d p =
      let w = work_failed ok s x.work sp t d q p in
      recovering (record {
        k = x.k;
        j = x.j;
        b = w.0;
        g = x.g;
        work = w.1;
        now = x.now;
        sound = remains_sound (kinds x.work.role) x.sound (work_cut ok s x.work sp d);
      })
  fail_mode s q t (renewing x) sp d p =
      let w = work_failed ok s x.work sp t d q p in
      renewing (record { p = w.0; m = x.m; work = w.1; half = remains_half x.new x.half (work_cut ok s x.work sp d); new = x.new })
  fail_mode s q t (copying x) sp d p =
      let w = work_failed ok s x.work sp t d q p in
      copying (record { p = x.p; m = w.0; work = w.1; sound = remains_sound mirror_kind x.sound (work_cut ok s x.work sp d); stays = copy_stays s x sp })
  fail_mode s q t (resting none _ _) sp d p = elim none [ ]

  -- ---- a plan, made
  planned_update : {r : Region chip} (v : List ℕ) (p m : ℕ) (o n : Table) (j : Job) → Sole r Primary p o → Sole r Mirror m o → Asked r (for_update v) (fresh j)
      → Update chip o n p m j → Mode r (holding (for_update v) (snapshot r) 0 (steps_of (pages_of chip) (fresh j))) (as_planned o n j) o
  unfolding as_planned job_steps job_at
  planned_update v p m o n j x y h (no_news e) = resting update_over the_one (twins x y)
  planned_update v p m o n j x y h (news w) =
      renewing (record {
        p = p;
        m = m;
        work = work_first ok p first_primary w.full y (sole_clear ok x) (sole_fit ok x) (sole_in ok x) (sole_apart ok mirror_kind x y) h.lent h.first;
        half = old_half (twins x y) (old_not w x);
        new = w;
      })

  planned_recovery : {r : Region chip} {l : Last} {c : Table} (j : Job) → Current l c → Sound r c → Asked r for_recovery (fresh j) → Ready r j → Of c j
      → Mode r (holding for_recovery (snapshot r) 0 (steps_of (pages_of chip) (fresh j))) l c
  unfolding job_steps job_at
  planned_recovery {r} {l} j u s a (nothing_to_do {t = t} x y v) h =
      let e = sound_settled ok s x y in
      subst (λ (z : Table). Mode r (holding for_recovery (snapshot r) 0 []) l z) e (recovered (subst (λ (z : Table). Current l z) (sym e) u) x y)
  planned_recovery {r} {l} {c = c} j u s a (one_to_place {k} {j = i} {b} {g} {c = x} o t cl ft hb ne) h =
      let go : x ≡ c → Recovering r (snapshot r) (steps_of (pages_of chip) (fresh (single k b g x))) l x =
      λ e. record {
        k = k;
        j = i;
        b = b;
        g = g;
        work = work_first ok b (last_role o) (sole_length ok t) t cl ft hb ne a.lent a.first;
        now = subst (λ (z : Table). Current l z) (sym e) u;
        sound = subst (λ (z : Table). Sound r z) (sym e) s;
      } in
      subst (λ (z : Table). Mode r (holding for_recovery (snapshot r) 0 (steps_of (pages_of chip) (fresh (single k b g x)))) l z) h (recovering (go h))
  planned_recovery j u s a (both_to_place x y len) h = absurd h

  -- ---- an event
  pub record Next (w : World chip) (f : Table) : Type 0 where
    pub c : Table
    pub not_good_kept : NotGoodKept chip f c
    pub still : Inv w c

  pub recovery_planned_is : (r : Region chip) (q : Plan) → recovery chip (view r) ≡ plan q → answer for_recovery (snapshot r) ≡ plan q
  unfolding plan_by_rules
  recovery_planned_is r q e = plan_first ok r for_recovery refl ∙ e

  pub event : {r : Region chip} {h : Hand chip} {l : Last} {u : World chip} {f : Table} → InHand h → Mode r h l f → Event r l h u → Next u f
  event {f = f} t m (plan_refused c n e) = record { c = f; not_good_kept = kept_same chip f; still = inv m }
  event {f = f} t m no_step_left = record { c = f; not_good_kept = kept_same chip f; still = inv m }
  event {f = f} t m no_plan = record { c = f; not_good_kept = kept_same chip f; still = inv m }
  event {r} {f = f} t m (update_planned wanted p k o q a e) =
      let h = reading_settled r p k o e in
      let u = plan_asked ok r (for_update wanted) q a in
      let w = updates ok r p k o wanted q h.0 h.1 u in
      let z : o ≡ f = mode_settled m h.0 h.1 in
      record {
        c = o;
        not_good_kept = rw z (kept_same chip f);
        still =
            subst (λ (x : Plan). Inv (world r (holding (for_update wanted) (snapshot r) 0 (steps_of (pages_of chip) x)) (as_planned o (updated o wanted) x.job)) o)
            (sym w.1)
            (inv (planned_update wanted p k o (updated o wanted) w.0 h.0 h.1 (subst (λ (x : Plan). Asked r (for_update wanted) x) w.1 u) w.2));
      }
  event {r} t m (recovery_planned q l' a cl) =
      let z = close m cl in
      let w = recovers ok z.sound in
      let e : plan (fresh w.0) ≡ plan q = sym (recovery_planned_is r (fresh w.0) w.1) ∙ a in
      let i : fresh w.0 ≡ q = cc in
      let y = plan_ready ok r for_recovery q a in
      let v : y.0 ≡ w.0 = ap (λ (x : Plan). x.job) (sym (i ∙ y.1)) in
      record {
        c = z.c;
        not_good_kept = z.not_good_kept;
        still =
            subst (λ (x : Plan). Inv (world r (holding for_recovery (snapshot r) 0 (steps_of (pages_of chip) x)) l') z.c) (sym y.1)
            (inv (planned_recovery y.0 z.is z.sound (subst (λ (x : Plan). Asked r for_recovery x) y.1 (plan_asked ok r for_recovery q a)) y.2
            (subst (λ (x : Job). Of z.c x) (sym v) w.2)));
      }
  event {l = l} t m (step_done {c} {a} {i} {e} {es} s l' sp d en) =
      let x = track_numbered ok t in
      let z = done_mode s es l l' t m sp (did s (asked c a i) e x.by_image d) en in
      record { c = z.c; not_good_kept = z.not_good_kept; still = inv z.mode }
  event {r} t m (step_cut {c} {a} {i} {e} {es} s l' sp d cl) =
      let x = track_numbered ok t in
      let z = cut_mode s m sp (broke r s (asked c a i) e x.by_image d) cl in
      record { c = z.c; not_good_kept = z.not_good_kept; still = inv (resting no_hand z.is z.sound) }
  event {r} {f = f} t m (step_failed {c} {a} {i} {e} {es} s q sp d an) =
      let x = track_numbered ok t in
      record { c = f; not_good_kept = kept_same chip f; still = inv (fail_mode s q t m sp (broke r s (asked c a i) e x.by_image d) an) }
  event {r} t m (step_given_up {c} {a} {i} {e} {es} s l' y sp d an cl) =
      let x = track_numbered ok t in
      let z = cut_mode s m sp (broke r s (asked c a i) e x.by_image d) cl in
      record { c = z.c; not_good_kept = z.not_good_kept; still = inv (resting no_hand z.is z.sound) }
  event t m (cut_between l' cl) = let z = close m cl in record { c = z.c; not_good_kept = z.not_good_kept; still = inv (resting no_hand z.is z.sound) }

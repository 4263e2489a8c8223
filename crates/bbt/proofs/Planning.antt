-- What the library plans: a region's case says which good copies there are, so what it takes for the plan's steps is there (`Ready`), for
-- any region image; and from a sound region a recovery is planned, of the table that the region holds.
-- Assumes nothing.
use mathlib.Core.Bool.{Bool, true, false, not, ◌||◌, cond, true≢false}
use mathlib.Core.List.{List, [], ◌∷◌}
use mathlib.Core.Logic.{◌≢◌}
use mathlib.Core.Option.{Option, none, some}
use mathlib.Core.Path.{◌≡◌, refl, sym, ap, ◌∙◌, subst}
use Prim.Native.Nat.{ℕ, zero, suc, ◌+◌, ◌-◌, ◌%◌, ◌<◌}
use native.Mathlib.Omega.{arith}
use borrow.Author.Tests.{eqb-true, eq-eqb, ne_eqb, lt-ltb}
use lib.Dec.{eqb, ltb}
use lib.IntN.{ℤ, pos, negsuc}
use lib.ListN.{length, get_or}
use Rattle.bits.proofs.Both.{both_left, both_right, both_intro}
use Rattle.chip.specs.Large.{bitmap_bytes, pages_of, region_pages, region_bytes}
use Rattle.chip.specs.declared.LargeChip.{LargeChip}
use Rattle.chip.specs.declared.Refusal.TheVariants.{Length, Opposite}
use Rattle.bbt.specs.declared.Kind.{Kind}
use Rattle.bbt.specs.declared.Kind.TheVariants.{Primary, Mirror}
use Rattle.bbt.specs.Copies.{Table, table, reads_bad, Found, nowhere, only, several}
use Rattle.bbt.specs.Entries.{updated_bytes}
use Rattle.bbt.specs.Failures.{failures}
use Rattle.bbt.specs.Histories.{Snapshot, snapshot, answer, asked}
use Rattle.bbt.specs.Images.{plan_image}
use Rattle.bbt.specs.Lent.{region_lent, statuses_right, call_lent, lent_plan, planned, imaged}
use Rattle.bbt.specs.Pairs.{same, signed_of, difference, Case, no_pair, alone, settled, merging, differing, both_case, compared, case_of, copies, pair_case}
use Rattle.bbt.specs.Plans.{Reading, refused, holds, read_case, reading, Job, idle, single, double, Plan, fresh, Answer, refuse, plan, next_version, updated, update_from, update, member, is_free, target, other_kind, recover_to, anded, recover_newer, recover_case, recovery, Call, for_update, plan_by_rules}
use Rattle.bbt.specs.PowerCuts.{NotGoodKept}
use Rattle.bbt.specs.Regions.{Region, view}
use Rattle.bbt.proofs.Forms.{Sole, Missing, Clear, Room, Lacks, Sound, twins, ahead, one_left, sole_clear, sole_in, sole_fit, sole_length, sole_apart, missing_clear}
use Rattle.bbt.proofs.LeftPages.{Judged, Twin, primary_kind, mirror_kind, version_byte}
use Rattle.bbt.proofs.Searches.{no_confusion, all_intro, highest_some, highest_is, same_refl, same_eq}
use Rattle.bbt.proofs.Updating.{length_updated, length_anded, update_keeps}

-- a block that is not in a list is none of its blocks
pub member_apart : (x y : ℕ) (ys : List ℕ) → member x (y ∷ ys) ≡ false → (x ≢ y) × (member x ys ≡ false)
unfolding member
member_apart x y ys e = ((λ z. true≢false (sym (rw (eq-eqb x y z)) ∙ e)), go (eqb x y) e)
  where
    go : (t : Bool) → (t || member x ys) ≡ false → member x ys ≡ false
    go true h = absurd (true≢false h)
    go false h = h

not_true : (x : Bool) → not x ≡ true → x ≡ false
not_true true e = absurd (true≢false (sym e))
not_true false e = refl

-- ---- versions
pub next_differs : (v : ℕ) → v < 256 → next_version v ≢ v
unfolding next_version
next_differs v h e = omega arith

difference_zero : (v : ℕ) → difference v v ≡ pos 0
unfolding difference signed_of
difference_zero v = let e : (v + 256 - v) % 256 ≡ 0 = omega arith in rw e

difference_one : (v : ℕ) → v < 256 → difference (next_version v) v ≡ pos 1
unfolding difference signed_of next_version
difference_one v h = let e : ((v + 1) % 256 + 256 - v) % 256 ≡ 1 = omega arith in rw e

difference_none : (x y : ℕ) → x < 256 → y < 256 → difference x y ≡ pos 0 → x ≡ y
unfolding difference signed_of
difference_none x y hx hy e = go (ltb ((x + 256 - y) % 256) 128) e
  where
    go : (t : Bool) → cond t (pos ((x + 256 - y) % 256)) (negsuc (255 - (x + 256 - y) % 256)) ≡ pos 0 → x ≡ y
    go true a = let z : (x + 256 - y) % 256 ≡ 0 = cc in omega arith
    go false a = absurd (no_confusion (cc))

module _ {chip : LargeChip} where
  pub sole_version : {r : Region chip} {k : Kind} {b : ℕ} {t : Table} → Sole r k b t → t.version < 256
  unfolding table
  sole_version {r} {k} {b} h = subst (λ (t : Table). t.version < 256) h.content (version_byte r b 0)

  -- two that are the one good copy of a kind hold the same
  pub sole_table : {r : Region chip} {k : Kind} {a b : ℕ} {t u : Table} → Sole r k a t → Sole r k b u → u ≡ t
  sole_table {r} {k} {a} {b} x y =
      let q : only a ≡ only b = sym x.found ∙ y.found in
      let w : b ≡ a = cc in
      sym y.content ∙ (ap (table (pages_of chip) (view r)) w ∙ x.content)

  pub sole_missing : {r : Region chip} {k : Kind} {a : ℕ} {t : Table} → Sole r k a t → Missing r k → ⊥
  sole_missing {a = a} x y = let q : only a ≡ nowhere = sym x.found ∙ y.not_found in no_confusion (cc)

  -- ---- from what the region holds to its case
  pub settled_case : {r : Region chip} {p m : ℕ} {t : Table} → Sole r Primary p t → Sole r Mirror m t → pair_case chip (view r) ≡ settled p m
  unfolding pair_case case_of compared both_case
  settled_case {t = t} x y = rw (x.found, y.found, x.content, y.content, difference_zero t.version, same_refl t.bitmap)

  ahead_case : {r : Region chip} {p m : ℕ} {t u : Table} → Sole r Primary p t → Sole r Mirror m u → t.version ≡ next_version u.version
      → pair_case chip (view r) ≡ differing (pos 1) p m
  unfolding pair_case case_of compared both_case
  ahead_case {u = u} x y e = rw (x.found, y.found, x.content, y.content, e, difference_one u.version (sole_version y))

  left_case : {r : Region chip} {k j : Kind} {g : ℕ} {c : Table} → Twin k j → Lacks r k j g c → pair_case chip (view r) ≡ alone j g
  unfolding pair_case case_of
  left_case primary_kind l = rw (l.lacking.not_found, l.twin.found)
  left_case mirror_kind l = rw (l.lacking.not_found, l.twin.found)

  pub settled_reading : {r : Region chip} {p m : ℕ} {t : Table} → Sole r Primary p t → Sole r Mirror m t → reading chip (view r) ≡ holds p m t
  unfolding reading read_case
  settled_reading x y = rw (settled_case x y, x.content)

  -- ---- from its case to what the region holds
  abbrev Says : Region chip → Case → Type 0
  Says r (no_pair x) = Unit {0}
  Says r (alone k g) = (Twin (other_kind k) k) × Sole r k g (table (pages_of chip) (view r) g) × Missing r (other_kind k)
  Says r (settled p m) = (t : Table) × Sole r Primary p t × Sole r Mirror m t
  Says r (merging p m) = (x : Table) × (y : Table) × Sole r Primary p x × Sole r Mirror m y
  Says r (differing d p m) = (x : Table) × (y : Table) × Sole r Primary p x × Sole r Mirror m y

  both_say : (r : Region chip) (p m : ℕ) {x y : Table} (d : ℤ) → difference x.version y.version ≡ d → (t : Bool) → same x.bitmap y.bitmap ≡ t
      → Sole r Primary p x → Sole r Mirror m y → Says r (both_case d t p m)
  unfolding both_case
  both_say r p m {x} {y} (pos zero) ed true eb u v =
      let ve : y.version ≡ x.version = sym (difference_none x.version y.version (sole_version u) (sole_version v) ed) in
      let be : y.bitmap ≡ x.bitmap = sym (same_eq x.bitmap y.bitmap eb) in
      let e : y ≡ x = λ i. record { version = ve i; bitmap = be i } in
      (x, u, subst (λ (t : Table). Sole r Mirror m t) e v)
  both_say r p m {x} {y} (pos zero) ed false eb u v = (x, y, u, v)
  both_say r p m {x} {y} (pos (suc d)) ed t eb u v = (x, y, u, v)
  both_say r p m {x} {y} (negsuc d) ed t eb u v = go (eqb d 127)
    where
      go : (t : Bool) → Says r (cond t (no_pair Opposite) (differing (negsuc d) p m))
      go true = tt
      go false = (x, y, u, v)

  pub case_says : (r : Region chip) → Says r (pair_case chip (view r))
  unfolding pair_case case_of compared
  case_says r = go (copies chip (view r) Primary) refl (copies chip (view r) Mirror) refl
    where
      at : ℕ → Table
      at b = table (pages_of chip) (view r) b

      go : (f : Found) → copies chip (view r) Primary ≡ f → (g : Found) → copies chip (view r) Mirror ≡ g → Says r (case_of (pages_of chip) (view r) f g)
      go several ef g eg = tt
      go nowhere ef several eg = tt
      go (only p) ef several eg = tt
      go nowhere ef nowhere eg = tt
      go (only p) ef nowhere eg = (mirror_kind, record { found = ef; content = refl }, record { not_found = eg })
      go nowhere ef (only m) eg = (primary_kind, record { found = eg; content = refl }, record { not_found = ef })
      go (only p) ef (only m) eg =
          both_say r p m (difference (at p).version (at m).version) refl (same (at p).bitmap (at m).bitmap) refl
          (record { found = ef; content = refl }) (record { found = eg; content = refl })

  pub reading_settled : (r : Region chip) (p m : ℕ) (t : Table) → reading chip (view r) ≡ holds p m t → Sole r Primary p t × Sole r Mirror m t
  unfolding reading read_case
  reading_settled r p m t e = go (pair_case chip (view r)) (case_says r) e
    where
      go : (c : Case) → Says r c → read_case (pages_of chip) (view r) c ≡ holds p m t → Sole r Primary p t × Sole r Mirror m t
      go (no_pair x) s e = absurd (no_confusion (cc))
      go (alone k g) s e = absurd (no_confusion (cc))
      go (merging a b) s e = absurd (no_confusion (cc))
      go (differing d a b) s e = absurd (no_confusion (cc))
      go (settled a b) s e =
          let x : Sole r Primary a s.0 = s.1 in
          let pa : a ≡ p = cc in
          let mb : b ≡ m = cc in
          let ta : table (pages_of chip) (view r) a ≡ t = cc in
          let st : s.0 ≡ t = sym x.content ∙ ta in (
            subst (λ (b : ℕ). Sole r Primary b t) pa (subst (λ (u : Table). Sole r Primary a u) st x),
            subst (λ (b : ℕ). Sole r Mirror b t) mb (subst (λ (u : Table). Sole r Mirror b u) st s.2),
          )

-- ---- what is said of plans
-- the plan's copies, if it has any, are of the table c
abbrev pub Of : Table → Job → Type 0
Of c (idle v) = Unit {0}
Of c (single k b g t) = t ≡ c
Of c (double p m t) = ⊥

-- a plan as it is made: no block has failed, and of its job this holds
abbrev pub AsMade : (Job → Type 0) → Plan → Type 0
AsMade A q = (j : Job) × (q ≡ fresh j) × A j

-- a new table beside the old one
pub record News (chip : LargeChip) (o n : Table) : Type 0 where
  pub newer : n.version ≡ next_version o.version
  pub old_byte : o.version < 256
  pub full : length n.bitmap ≡ bitmap_bytes chip
  pub not_good_kept : NotGoodKept chip o n

-- an update of a settled pair: no news, an empty plan; news, both copies of the new table
pub data Update (chip : LargeChip) (o n : Table) (p m : ℕ) : Job → Type 0 where
  no_news : n ≡ o → Update chip o n p m (idle o.version)
  news : News chip o n → Update chip o n p m (double p m n)

module _ {chip : LargeChip} where
  -- an answer that is a plan is the rules', of a call that lends what it should
  pub record Asked (r : Region chip) (call : Call) (q : Plan) : Type 0 where
    pub lent : call_lent chip call ≡ true
    pub first : plan_by_rules chip (view r) call ≡ plan q

  -- what planning makes of the failed steps
  abbrev pub in_force : Call → Snapshot chip → Answer
  in_force call a = failures chip (view a.from) (plan_by_rules chip (view a.from) call) a.failed

  -- a block of the region that is none of those to avoid, and not readable as bad
  pub record Target (r : Region chip) (avoid : List ℕ) (t : ℕ) : Type 0 where
    pub below : t < chip.region
    pub off : member t avoid ≡ false
    pub fit : reads_bad (view r) t ≡ false

  -- what a plan's steps take is there
  pub data Ready (r : Region chip) : Job → Type 0 where
    nothing_to_do : {p m v : ℕ} {t : Table} → Sole r Primary p t → Sole r Mirror m t → t.version ≡ v → Ready r (idle v)
    one_to_place : {k j : Kind} {b g : ℕ} {c : Table} → Twin k j → Sole r j g c → Clear r k b → reads_bad (view r) b ≡ false → b < chip.region
        → g ≢ b → Ready r (single k b g c)
    both_to_place : {p m : ℕ} {x y t : Table} → Sole r Primary p x → Sole r Mirror m y → length t.bitmap ≡ bitmap_bytes chip → Ready r (double p m t)

-- ---- the entries' tests pass for every region
module _ {chip : LargeChip} (ok : Judged chip) where
  lengths_right : (r : Region chip) → region_lent chip r.image r.status ≡ true
  unfolding region_lent
  lengths_right r =
      both_intro (eqb (length r.image) (region_bytes chip)) (eqb (length r.status) (region_pages chip))
      (eq-eqb (length r.image) (region_bytes chip) r.image_length) (eq-eqb (length r.status) (region_pages chip) r.status_length)

  statuses-right : (r : Region chip) → statuses_right r.status ≡ true
  unfolding statuses_right
  statuses-right r = all_intro (length r.status) (λ i. ltb (get_or r.status i 0) 2) (λ i l. lt-ltb (get_or r.status i 0) 2 (r.status_bits i))

  pub plan_is : (a : Snapshot chip) (call : Call) → answer call a ≡ cond (call_lent chip call) (in_force call a) (refuse Length)
  unfolding planned lent_plan
  plan_is a call = rw (ok.is-chip, lengths_right a.from, statuses-right a.from)

  pub plan_first : (r : Region chip) (call : Call) → call_lent chip call ≡ true → answer call (snapshot r) ≡ plan_by_rules chip (view r) call
  unfolding failures
  plan_first r call e = plan_is (snapshot r) call ∙ rw e

  -- a page image is that of the plan
  pub asked_is : (a : Snapshot chip) (call : Call) (i : ℕ) → asked call a i ≡ plan_image chip (answer call a) i
  unfolding imaged planned
  asked_is a call i = rw ok.is-chip

  pub plan_asked : (r : Region chip) (call : Call) (q : Plan) → answer call (snapshot r) ≡ plan q → Asked r call q
  plan_asked r call q e = go (call_lent chip call) refl
    where
      go : (t : Bool) → call_lent chip call ≡ t → Asked r call q
      go true a = record { lent = a; first = sym (plan_first r call a) ∙ e }
      go false a = let z : refuse Length ≡ plan q = sym (plan_is (snapshot r) call ∙ rw a) ∙ e in absurd (no_confusion (cc))

  -- ---- targets
  pub target_is : (r : Region chip) (avoid : List ℕ) (t : ℕ) → target chip (view r) avoid ≡ some t → Target r avoid t
  unfolding target
  target_is r avoid t e =
      let h = highest_is chip.region (is_free (view r) avoid) t e in
      record {
        below = h.below;
        off = not_true (member t avoid) (both_left (not (member t avoid)) (not (reads_bad (view r) t)) h.passing);
        fit = not_true (reads_bad (view r) t) (both_right (not (member t avoid)) (not (reads_bad (view r) t)) h.passing);
      }

  target_there : (r : Region chip) (g : ℕ) → Room r g → (t : ℕ) × (target chip (view r) (g ∷ []) ≡ some t)
  unfolding target member
  target_there r g room =
      let e : is_free (view r) (g ∷ []) room.spot ≡ true = rw (ne_eqb room.spot g room.spot_off, room.spot_fit) in
      highest_some chip.region (is_free (view r) (g ∷ [])) room.spot room.spot_in e

  -- ---- a plan finds what its steps take, at any region
  to_ready : (r : Region chip) (x : Job) (q : Plan) → plan (fresh x) ≡ plan q → Ready r x → AsMade (Ready r) q
  to_ready r x q e h = let z : q ≡ fresh x = cc in (x, z, h)

  older_ready : (r : Region chip) (d : ℤ) (p m : ℕ) (x y : Table) (q : Plan) → Sole r Primary p x → Sole r Mirror m y → recover_newer d x y p m ≡ plan q → AsMade (Ready r) q
  unfolding recover_newer
  older_ready r (pos n) p m x y q u v e =
      to_ready r (single Mirror m p x) q e (one_to_place mirror_kind u (sole_clear ok v) (sole_fit ok v) (sole_in ok v) (sole_apart ok primary_kind v u))
  older_ready r (negsuc n) p m x y q u v e =
      to_ready r (single Primary p m y) q e (one_to_place primary_kind v (sole_clear ok u) (sole_fit ok u) (sole_in ok u) (sole_apart ok mirror_kind u v))

  pub recovery_ready : (r : Region chip) (c : Case) (q : Plan) → Says r c → recover_case chip (view r) c ≡ plan q → AsMade (Ready r) q
  unfolding recover_case recover_to anded
  recovery_ready r (no_pair x) q s e = absurd (no_confusion (cc))
  recovery_ready r (alone k g) q s e = go (target chip (view r) (g ∷ [])) refl e
    where
      t : Table
      t = table (pages_of chip) (view r) g

      go : (o : Option ℕ) → target chip (view r) (g ∷ []) ≡ o → recover_to (other_kind k) g t o ≡ plan q → AsMade (Ready r) q
      go none a e = absurd (no_confusion (cc))
      go (some b) a e =
          let f = target_is r (g ∷ []) b a in
          to_ready r (single (other_kind k) b g t) q e
          (one_to_place s.0 s.1 (missing_clear ok s.2 b) f.fit f.below (λ z. (member_apart b g [] f.off).0 (sym z)))
  recovery_ready r (settled p m) q s e =
      let x : Sole r Primary p s.0 = s.1 in
      to_ready r (idle (table (pages_of chip) (view r) p).version) q e (nothing_to_do x s.2 (ap (λ (t : Table). t.version) (sym x.content)))
  recovery_ready r (merging p m) q s e =
      let x : Sole r Primary p s.0 = s.2 in
      let y : Sole r Mirror m s.1 = s.3 in
      let a : Table = table (pages_of chip) (view r) p in
      let b : Table = table (pages_of chip) (view r) m in
      let la : length a.bitmap ≡ bitmap_bytes chip = rw x.content (sole_length ok x) in
      let lb : length b.bitmap ≡ bitmap_bytes chip = rw y.content (sole_length ok y) in
      to_ready r (double p m (anded a b)) q e (both_to_place x y (length_anded a.bitmap b.bitmap (la ∙ sym lb) ∙ la))
  recovery_ready r (differing d p m) q s e =
      let x : Sole r Primary p s.0 = s.2 in
      let y : Sole r Mirror m s.1 = s.3 in
      older_ready r d p m s.0 s.1 q x y (rw (x.content, y.content) at e)

  -- ---- an update
  pub updates : (r : Region chip) (p m : ℕ) (o : Table) (w : List ℕ) (q : Plan) → Sole r Primary p o → Sole r Mirror m o → Asked r (for_update w) q
      → AsMade (Update chip o (updated o w) p m) q
  unfolding plan_by_rules update update_from updated
  updates r p m o w q x y h = go (same (updated_bytes o.bitmap w) o.bitmap) refl
    where
      n : Table
      n = record { version = next_version o.version; bitmap = updated_bytes o.bitmap w }

      lo : length o.bitmap ≡ bitmap_bytes chip
      lo = sole_length ok x

      lw : length w ≡ bitmap_bytes chip
      lw = eqb-true (length w) (bitmap_bytes chip) h.lent

      go : (t : Bool) → same (updated_bytes o.bitmap w) o.bitmap ≡ t → AsMade (Update chip o (updated o w) p m) q
      go true a =
          let g : plan (fresh (idle o.version)) ≡ plan q = rw (settled_reading x y, a) at h.first in
          let i : q ≡ fresh (idle o.version) = cc in
          (idle o.version, i, no_news (rw a))
      go false a =
          let k : n ≡ updated o w = rw a in
          let g : plan (fresh (double p m n)) ≡ plan q = rw (settled_reading x y, a) at h.first in
          let i : q ≡ fresh (double p m n) = cc in
          let z : News chip o n =
          record {
            newer = refl;
            old_byte = sole_version x;
            full = length_updated o.bitmap w (lo ∙ sym lw) ∙ lo;
            not_good_kept = update_keeps chip o n w ok.fours lo lw refl;
          } in
          (double p m n, i, subst (λ (t : Table). Update chip o t p m (double p m n)) k (news z))

  pub update_reads : (r : Region chip) (w : List ℕ) (q : Plan) → Asked r (for_update w) q → (p : ℕ) × (m : ℕ) × (o : Table) × (reading chip (view r) ≡ holds p m o)
  unfolding plan_by_rules update update_from
  update_reads r w q h = go (reading chip (view r)) refl h.first
    where
      go : (x : Reading) → reading chip (view r) ≡ x → update_from w x ≡ plan q → (p : ℕ) × (m : ℕ) × (o : Table) × (reading chip (view r) ≡ holds p m o)
      go (refused n) a e = absurd (no_confusion (cc))
      go (holds p m o) a e = (p, m, o, a)

  -- ---- from a sound region
  pub no_merge : {r : Region chip} {c : Table} → Sound r c → (p m : ℕ) → pair_case chip (view r) ≢ merging p m
  no_merge (twins {p = a} {m = b} x y) p m e = let z : settled a b ≡ merging p m = sym (settled_case x y) ∙ e in no_confusion (cc)
  no_merge (ahead {p = a} {m = b} x y v) p m e = let z : differing (pos 1) a b ≡ merging p m = sym (ahead_case x y v) ∙ e in no_confusion (cc)
  no_merge (one_left {j = j} {g = g} o l) p m e = let z : alone j g ≡ merging p m = sym (left_case o l) ∙ e in no_confusion (cc)

  pub recovers : {r : Region chip} {c : Table} → Sound r c → (j : Job) × (recovery chip (view r) ≡ plan (fresh j)) × Of c j
  unfolding recovery recover_case recover_to recover_newer
  recovers {r} {c} (twins x y) = (idle c.version, rw (settled_case x y, x.content), tt)
  recovers {r} {c} (ahead {p} {m} x y e) = (single Mirror m p c, rw (ahead_case x y e, x.content), refl)
  recovers {r} {c} (one_left {k = k} {g = g} o l) =
      let w = target_there r g l.room in
      (single k w.0 g c, rw (left_case o l, l.twin.content, w.1, other o), refl)
    where
      other : {k j : Kind} → Twin k j → other_kind j ≡ k
      other primary_kind = refl
      other mirror_kind = refl

  -- the table that is settled is the one the region holds
  pub sound_settled : {r : Region chip} {c t : Table} {p m : ℕ} → Sound r c → Sole r Primary p t → Sole r Mirror m t → t ≡ c
  sound_settled (twins x y) h i = sole_table x h
  sound_settled (ahead x y e) h i = sole_table x h
  sound_settled (one_left primary_kind l) h i = absurd (sole_missing h l.lacking)
  sound_settled (one_left mirror_kind l) h i = absurd (sole_missing i l.lacking)

-- What is told of a plan when a block fails under it: the copy that goes there, the plan with that copy at another block, and the target of a
-- lent region; and the step of a number, which is of a block that the plan writes to unless it is the zero step.
-- Assumes nothing.
use Rattle.std.specs.Prelude.{Option, Some, None, Result, Ok}
use mathlib.Core.Bool.{Bool, true, false, cond}
use mathlib.Core.List.{List, [], ◌∷◌, map}
use mathlib.Core.Logic.{◌⊎◌, inl, inr, ⊎_elim}
use mathlib.Core.Option.{Option as Search, none, some}
use mathlib.Core.Path.{◌≡◌, refl, ap, sym}
use Prim.Native.Nat.{ℕ, zero, suc, ◌+◌, ◌<◌, ◌≤◌}
use native.Mathlib.Numerals.{add-one}
use native.Mathlib.Omega.{arith}
use borrow.Author.Tests.{eqb-true, eqb-false, eq-eqb, ne_eqb}
use lib.Dec.{eqb}
use lib.ListN.{length, get_or, drop, set, length-set, drop_of_length-le}
use lib.Seq.{drop-cons}
use Rattle.chip.specs.declared.ChipBlock.{ChipBlock}
use Rattle.chip.specs.declared.LargeChip.{LargeChip}
use Rattle.bbt.specs.Copies.{Table}
use Rattle.bbt.specs.Failures.{other_block, moved, moved_to}
use Rattle.bbt.specs.Pages.{seen}
use Rattle.bbt.specs.Plans.{Step, erase, write, zeros, Job, idle, single, double, Plan, writes, copy_steps, job_steps, zero_first, step_at, job_version, target}
use Rattle.bbt.specs.Told.{region_block, chip_block, told_shape, told_plan, told_answer, told_step, told_steps, nth_step}
use Rattle.bbt.specs.declared.Kind.{Kind}
use Rattle.bbt.specs.declared.Kind.TheVariants.{Mirror}
use Rattle.bbt.specs.declared.Plan.{Plan as ToldPlan}
use Rattle.chip.specs.declared.Refusal.{Refusal}
use Rattle.chip.specs.declared.RegionBlock.{RegionBlock}
use Rattle.bbt.specs.declared.Shape.TheVariants.{One, Both}
use Rattle.bbt.specs.declared.Step.{Step as ToldStep}
use Rattle.bbt.proofs.Raw.{chip_valid}
use Rattle.region.proofs.Flagging.{target_flags, flags_more}
use Rattle.region.specs.Targets.{Flags, told_target, target_on, lent_target}
use Rattle.retire.specs.Retiring.{copy_at, moved_shape, also_retired, answer_by, copy_retired, step_retired, on_plan, steps_retired, Lends}
use Rattle.retire.specs.declared.Copy.{Copy}

-- ---- the copy of a block that the plan writes one to
abbrev pub WritesTo : Job → ℕ → Type 0
WritesTo (idle v) b = ⊥
WritesTo (single k c g t) b = b ≡ c
WritesTo (double p m t) b = (b ≡ p) ⊎ (b ≡ m)

abbrev pub copy_of : ℕ → ℕ → Copy
copy_of b o = record { block = region_block b; other = region_block o }

-- of two, chip blocks are told apart as region blocks are
copy_of_two : (chip : LargeChip) (p m b : ℕ) → (b ≡ p) ⊎ (b ≡ m)
    → cond (eqb (chip_block chip p).0 (chip_block chip b).0) (copy_of p m) (copy_of m p) ≡ copy_of b (cond (eqb b p) m p)
copy_of_two chip p m b w = go (eqb b p) refl
  where
    at : ℕ → ℕ
    at x = (chip_block chip x).0

    go : (t : Bool) → eqb b p ≡ t → cond (eqb (at p) (at b)) (copy_of p m) (copy_of m p) ≡ copy_of b (cond t m p)
    go true e = let same : p ≡ b = omega (arith, eqb-true b p e) in rw (eq-eqb (at p) (at b) (ap at same)) (ap (λ (x : ℕ). copy_of x m) same)
    go false e =
        let other : (b ≡ p → ⊥) = eqb-false b p e in
        let same : m ≡ b = ⊎_elim (λ h. absurd (other h)) (λ h. omega arith) w in
        rw (ne_eqb (at p) (at b) (λ h. other (omega arith))) (ap (λ (x : ℕ). copy_of x p) same)

pub copy_told : (chip : LargeChip) (j : Job) (b : ℕ) → WritesTo j b → copy_at chip (told_shape j) (chip_block chip b) ≡ copy_of b (other_block j b)
unfolding other_block
copy_told chip (idle v) b w = absurd w
copy_told chip (single k c g t) b w = ap (λ (x : ℕ). copy_of x g) (omega arith)
copy_told chip (double p m t) b w = copy_of_two chip p m b w

-- ---- the plan with that copy at another block
moved_told : (j : Job) (b x : ℕ) → told_shape (moved j b x) ≡ moved_shape (told_shape j) (region_block b) (region_block x)
unfolding moved
moved_told (idle v) b x = refl
moved_told (single k c g t) b x = refl
moved_told (double p m t) b x = go (eqb b p)
  where
    go : (s : Bool) → told_shape (cond s (double x m t) (single Mirror x p t))
        ≡ cond s (Both (region_block x) (region_block m)) (One Mirror (region_block x) (region_block p))
    go true = refl
    go false = refl

moved_version : (j : Job) (b x : ℕ) → job_version (moved j b x) ≡ job_version j
unfolding moved job_version
moved_version (idle v) b x = refl
moved_version (single k c g t) b x = refl
moved_version (double p m t) b x = go (eqb b p)
  where
    go : (s : Bool) → job_version (cond s (double x m t) (single Mirror x p t)) ≡ t.version
    go true = refl
    go false = refl

-- the plan made anew, by the target
pub answer_told : (chip : LargeChip) (q : Plan) (b : ℕ) (t : Search ℕ)
    → answer_by (told_plan chip q) (region_block b) (Ok (told_target t)) ≡ told_answer chip (moved_to q b t)
unfolding moved_to
answer_told chip q b none = refl
answer_told chip q b (some x) = rw (moved_told q.job b x, moved_version q.job b x) refl

-- as the code comes to it: the copy, the flags with one block more and with another, the target
pub as-told : (n size : ℕ) (image status : List ℕ) (gone : List Bool) (told : ToldPlan) (c : ChipBlock) (copy : Copy) (more avoid : List Bool) (t : Result (Option RegionBlock) Refusal)
    → copy ≡ copy_at told.chip told.shape c → more ≡ set gone copy.block.0 true → avoid ≡ set more copy.other.0 true
    → t ≡ lent_target n size image status avoid
    → answer_by told copy.block t ≡ copy_retired n size image status gone told (copy_at told.chip told.shape c)
as-told n size image status gone told c copy more avoid t the_copy one two the-target = rw (the-target, two, one, the_copy) refl

-- step after step: the steps from number i of the list on, and none
module _ (n size : ℕ) (image status : List ℕ) (gone : List Bool) (told : ToldPlan) (failed : List ℕ) (i : ℕ) where
  pub next_step : (r a : Result ToldPlan Refusal) → i < length failed → r ≡ step_retired n size image status gone told (nth_step (told_steps told) (get_or failed i 0)) → r ≡ a
      → steps_retired n size image status gone told (drop i failed)
      ≡ on_plan (λ next. steps_retired n size image status (also_retired gone next.retired) next (drop (i + 1) failed)) a
  unfolding steps_retired
  next_step r a h e f = rw (drop-cons failed i 0, sym e, f, add-one i) refl

  pub none_left : length failed ≤ i → steps_retired n size image status gone told (drop i failed) ≡ Ok told
  unfolding steps_retired
  none_left h = rw (drop_of_length-le failed h) refl

-- ---- the target of a lent region, by the flags of the blocks that have failed
pub target_lent : {n size : ℕ} {chip : LargeChip} {image status : List ℕ} → Lends n size chip image status
    → (gone : List Bool) (blocks : List ℕ) (b o : ℕ) → length gone ≡ 7 → Flags gone blocks
    → lent_target n size image status (set (set gone b true) o true) ≡ Ok (told_target (target chip (seen chip image status) (o ∷ b ∷ blocks)))
unfolding lent_target target_on
target_lent {n} {size} {chip} {image} {status} l gone blocks b o e flags =
    let v = chip_valid n size chip l.the_chip in
    let one = flags_more gone blocks b e flags in
    let two = flags_more (set gone b true) (b ∷ blocks) o (simp length-set e) one in
    rw (l.the_chip, l.region_right, l.statuses-right) (ap (λ (t : Search ℕ). Ok (told_target t)) (target_flags chip (seen chip image status) _ _ (omega arith) two))

-- ---- a step of a plan, as it is told
abbrev pub told_maybe : LargeChip → Search Step → Option ToldStep
told_maybe chip none = None
told_maybe chip (some e) = Some (told_step chip e)

pub nth_told : (chip : LargeChip) (es : List Step) (k : ℕ) → nth_step (map (told_step chip) es) k ≡ told_maybe chip (step_at es k)
unfolding nth_step step_at
nth_told chip [] k = refl
nth_told chip (e ∷ es) zero = refl
nth_told chip (e ∷ es) (suc k) = nth_told chip es k

-- each step but the zero step is of a block that the plan writes to
abbrev pub Of : Job → Search Step → Type 0
Of j none = Unit {0}
Of j (some (erase b)) = WritesTo j b
Of j (some (write b p k t)) = WritesTo j b
Of j (some (zeros b)) = Unit {0}

module _ (j : Job) (b : ℕ) (k : Kind) (t : Table) (rest : List Step) (w : WritesTo j b) (after : (i : ℕ) → Of j (step_at rest i)) where
  writes_of : (n p i : ℕ) → Of j (step_at (writes n p b k t rest) i)
  unfolding writes step_at
  writes_of zero p i = after i
  writes_of (suc n) p zero = w
  writes_of (suc n) p (suc i) = writes_of n (suc p) i

  copy-of : (P i : ℕ) → Of j (step_at (copy_steps P b k t rest) i)
  unfolding copy_steps step_at
  copy-of P zero = w
  copy-of P (suc i) = writes_of P 0 i

none_of : (j : Job) (i : ℕ) → Of j (step_at [] i)
unfolding step_at
none_of j i = tt

job_of : (P : ℕ) (j : Job) (i : ℕ) → Of j (step_at (job_steps P j) i)
unfolding job_steps
job_of P (idle v) i = none_of (idle v) i
job_of P (single k b g t) i = copy-of (single k b g t) b k t [] refl (none_of (single k b g t)) P i
job_of P (double p m t) i = copy-of (double p m t) p _ t _ (inl refl) (copy-of (double p m t) m _ t [] (inr refl) (none_of (double p m t)) P) P i

pub step_of : (P : ℕ) (bs : List ℕ) (j : Job) (i : ℕ) → Of j (step_at (zero_first bs (job_steps P j)) i)
unfolding step_at
step_of P [] j i = job_of P j i
step_of P (b ∷ bs) j zero = tt
step_of P (b ∷ bs) j (suc i) = job_of P j i

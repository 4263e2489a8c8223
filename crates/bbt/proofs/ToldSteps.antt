-- Laws of a told plan's steps: that they are the plan's, which is the one of a number, and how many there are.
-- Assumes nothing.
use Rattle.std.specs.Prelude.{Option, Some, None}
use mathlib.Core.Bool.{Bool, true, false, cond}
use mathlib.Core.List.{List, [], ◌∷◌, map}
use mathlib.Core.Path.{◌≡◌, refl, ◌∙◌, ap}
use Prim.Native.Nat.{ℕ, zero, suc, ◌+◌, ◌*◌, ◌-◌, ◌<◌, ◌≤◌}
use native.Mathlib.Nat.{add-zero, zero-add}
use native.Mathlib.Omega.{arith}
use borrow.Author.Tests.{leb-true, leb-false, ltb-true, ltb-false, ne_eqb}
use lib.Dec.{leb, ltb}
use lib.ListN.{length}
use Rattle.chip.specs.Large.{pages_of}
use Rattle.chip.specs.declared.ChipBlock.{ChipBlock}
use Rattle.chip.specs.declared.RegionBlock.{RegionBlock}
use Rattle.chip.specs.declared.LargeChip.{LargeChip}
use Rattle.bbt.specs.declared.Kind.{Kind}
use Rattle.bbt.specs.declared.Kind.TheVariants.{Primary, Mirror}
use Rattle.bbt.specs.declared.Shape.{Shape}
use Rattle.bbt.specs.declared.Shape.TheVariants.{Empty, One, Both}
use Rattle.bbt.specs.declared.Step.{Step}
use Rattle.bbt.specs.declared.Step.TheVariants.{Erase, Write}
use Rattle.bbt.specs.Copies.{Table}
use Rattle.bbt.specs.Plans.{Step as RuleStep, Job, idle, single, double, writes, copy_steps, job_steps, zero_first}
use Rattle.bbt.specs.Told.{chip_block, told_shape, told_retired, told_step, told_writes, told_copy, steps_by, retired_first, TellsSteps, copy_step, nth_step}

-- past a list's end there is no step
pub nth_past : (es : List Step) (i : ℕ) → length es ≤ i → nth_step es i ≡ None
unfolding nth_step
nth_past [] i h = refl
nth_past (e ∷ es) zero h = absurd (omega arith)
nth_past (e ∷ es) (suc i) h = nth_past es i (omega arith)

module _ (b : ChipBlock) (k : Kind) (rest : List Step) where
  writes_at : (n p i : ℕ) → i < n → nth_step (told_writes n p b k rest) i ≡ Some (Write b (p + i) k)
  unfolding nth_step told_writes
  writes_at zero p i h = absurd (omega arith)
  writes_at (suc n) p zero h = ap (λ (q : ℕ). Some (Write b q k)) (omega arith)
  writes_at (suc n) p (suc i) h = writes_at n (suc p) i (omega arith) ∙ ap (λ (q : ℕ). Some (Write b q k)) (omega arith)

  writes_after : (n p i : ℕ) → nth_step (told_writes n p b k rest) (n + i) ≡ nth_step rest i
  unfolding told_writes nth_step
  writes_after zero p i = ap (nth_step rest) (zero-add i)
  writes_after (suc n) p i = let e : suc n + i ≡ suc (n + i) = omega arith in ap (nth_step (told_writes (suc n) p b k rest)) e ∙ writes_after n (suc p) i

  writes_length : (n p : ℕ) → length (told_writes n p b k rest) ≡ n + length rest
  unfolding told_writes
  writes_length zero p = omega arith
  writes_length (suc n) p = omega (arith, writes_length n (suc p))

  -- the steps of a copy, and those after it
  pub copy_at : (P i : ℕ) → i ≤ P → nth_step (told_copy P b k rest) i ≡ Some (copy_step k b i)
  unfolding told_copy nth_step
  copy_at P zero h = refl
  copy_at P (suc i) h =
      let e : 0 + i ≡ suc i - 1 = omega arith in
      writes_at P 0 i (omega arith) ∙ ap (λ (q : ℕ). Some (Write b q k)) e ∙ simp (ne_eqb (suc i) 0 (λ z. omega arith))

  pub copy_after : (P i : ℕ) → P < i → nth_step (told_copy P b k rest) i ≡ nth_step rest (i - P - 1)
  unfolding told_copy nth_step
  copy_after P zero h = absurd (omega arith)
  copy_after P (suc i) h =
      let e : i ≡ P + (i - P) = omega arith in
      let f : i - P ≡ suc i - P - 1 = omega arith in
      ap (nth_step (told_writes P 0 b k rest)) e ∙ writes_after P 0 (i - P) ∙ ap (nth_step rest) f

  pub copy_length : (P : ℕ) → length (told_copy P b k rest) ≡ P + 1 + length rest
  unfolding told_copy
  copy_length P = omega (arith, writes_length P 0)

-- of two copies, one after the other
module _ (P : ℕ) (b : ChipBlock) (k : Kind) (c : ChipBlock) (j : Kind) where
  two_length : length (told_copy P b k (told_copy P c j [])) ≡ 2 * P + 2
  two_length = omega (arith, copy_length b k (told_copy P c j []) P, copy_length c j [] P)

  two_at : (i : ℕ) → nth_step (told_copy P b k (told_copy P c j [])) i
      ≡ cond (leb i P) (Some (copy_step k b i)) (cond (ltb (2 * P + 1) i) None (Some (copy_step j c (i - P - 1))))
  two_at i = go (leb i P) (ltb (2 * P + 1) i) refl refl
    where
      rest : List Step
      rest = told_copy P c j []

      go : (t u : Bool) → leb i P ≡ t → ltb (2 * P + 1) i ≡ u
          → nth_step (told_copy P b k rest) i ≡ cond t (Some (copy_step k b i)) (cond u None (Some (copy_step j c (i - P - 1))))
      go true u e f = copy_at b k rest P i (leb-true i P e)
      go false true e f = nth_past (told_copy P b k rest) i (omega (arith, two_length, ltb-true (2 * P + 1) i f))
      go false false e f =
          copy_after b k rest P i (leb-false i P e)
          ∙ copy_at c j [] P (i - P - 1) (omega (arith, leb-false i P e, ltb-false (2 * P + 1) i f))

-- ---- a plan's steps by its shape, as the code tells them apart
module _ (chip : LargeChip) where
  abbrev pub count_by : Shape → ℕ
  count_by Empty = 0
  count_by (One k b g) = pages_of chip + 1
  count_by (Both p m) = 2 * pages_of chip + 2

  pub count_by_lem : (s : Shape) → length (steps_by chip s) ≡ count_by s
  unfolding steps_by
  count_by_lem Empty = refl
  count_by_lem (One k b g) = copy_length _ k [] (pages_of chip) ∙ add-zero (pages_of chip + 1)
  count_by_lem (Both p m) = two_length (pages_of chip) _ _ _ _

  abbrev pub step_by : Shape → ℕ → Option Step
  step_by Empty i = None
  step_by (One k b g) i = cond (ltb (pages_of chip) i) None (Some (copy_step k (chip_block chip b.0) i))
  step_by (Both p m) i =
      cond (leb i (pages_of chip)) (Some (copy_step Primary (chip_block chip p.0) i))
      (cond (ltb (2 * pages_of chip + 1) i) None (Some (copy_step Mirror (chip_block chip m.0) (i - pages_of chip - 1))))

  one_by : (k : Kind) (b : ChipBlock) (i : ℕ) → nth_step (told_copy (pages_of chip) b k []) i ≡ cond (ltb (pages_of chip) i) None (Some (copy_step k b i))
  one_by k b i = go (ltb (pages_of chip) i) refl
    where
      go : (t : Bool) → ltb (pages_of chip) i ≡ t → nth_step (told_copy (pages_of chip) b k []) i ≡ cond t None (Some (copy_step k b i))
      go true e = nth_past (told_copy (pages_of chip) b k []) i (omega (arith, copy_length b k [] (pages_of chip), ltb-true (pages_of chip) i e))
      go false e = copy_at b k [] (pages_of chip) i (ltb-false (pages_of chip) i e)

  pub step_by_lem : (s : Shape) (i : ℕ) → nth_step (steps_by chip s) i ≡ step_by s i
  unfolding steps_by
  step_by_lem Empty i = nth_past [] i (omega arith)
  step_by_lem (One k b g) i = one_by k (chip_block chip b.0) i
  step_by_lem (Both p m) i = two_at (pages_of chip) _ _ _ _ i

-- ---- zeros first, where a block is retired
module _ (chip : LargeChip) where
  pub zeros_count : (x : Option RegionBlock) (es : List Step) → length (retired_first chip x es) ≡ length (retired_first chip x []) + length es
  unfolding retired_first
  zeros_count None es = omega arith
  zeros_count (Some b) es = omega arith

  pub zeros_after : (x : Option RegionBlock) (b : RegionBlock) → x ≡ Some b → (es : List Step) (i : ℕ) → 0 < i
      → nth_step (retired_first chip x es) i ≡ nth_step es (i - 1)
  unfolding retired_first nth_step
  zeros_after x b is es zero h = absurd (omega arith)
  zeros_after x b is es (suc i) h = rw is (ap (nth_step es) (omega arith))

-- ---- what is told are the plan's steps
writes_told : (chip : LargeChip) (t : Table) (k : Kind) (b : ℕ) (rest : List RuleStep) (n p : ℕ)
    → told_writes n p (chip_block chip b) k (map (told_step chip) rest) ≡ map (told_step chip) (writes n p b k t rest)
unfolding told_writes writes
writes_told chip t k b rest zero p = refl
writes_told chip t k b rest (suc n) p = ap (λ (es : List Step). Write (chip_block chip b) p k ∷ es) (writes_told chip t k b rest n (suc p))

copy_told : (chip : LargeChip) (t : Table) (k : Kind) (b : ℕ) (rest : List RuleStep) (P : ℕ)
    → told_copy P (chip_block chip b) k (map (told_step chip) rest) ≡ map (told_step chip) (copy_steps P b k t rest)
unfolding told_copy copy_steps
copy_told chip t k b rest P = ap (λ (es : List Step). Erase (chip_block chip b) ∷ es) (writes_told chip t k b rest P 0)

two_told : (chip : LargeChip) (t : Table) (k j : Kind) (b c P : ℕ)
    → told_copy P (chip_block chip b) k (told_copy P (chip_block chip c) j []) ≡ map (told_step chip) (copy_steps P b k t (copy_steps P c j t []))
two_told chip t k j b c P =
    ap (told_copy P (chip_block chip b) k) (copy_told chip t j c [] P) ∙ copy_told chip t k b (copy_steps P c j t []) P

job_told : (chip : LargeChip) (j : Job) → steps_by chip (told_shape j) ≡ map (told_step chip) (job_steps (pages_of chip) j)
unfolding steps_by job_steps
job_told chip (idle v) = refl
job_told chip (single k b g t) = copy_told chip t k b [] (pages_of chip)
job_told chip (double p m t) = two_told chip t _ _ _ _ (pages_of chip)

-- with zeros first
zero_told : (chip : LargeChip) (bs : List ℕ) (es : List RuleStep)
    → retired_first chip (told_retired bs) (map (told_step chip) es) ≡ map (told_step chip) (zero_first bs es)
unfolding retired_first
zero_told chip [] es = refl
zero_told chip (b ∷ bs) es = refl

pub tells_steps : TellsSteps
tells_steps chip q =
    ap (retired_first chip (told_retired q.failed)) (job_told chip q.job) ∙ zero_told chip q.failed (job_steps (pages_of chip) q.job)

-- Sixteen steps have room for any plan's: at most 2P + 3 steps, and P is at most 4.
-- Assumes nothing.
use Rattle.std.specs.Prelude.{Result, Ok, Err}
use mathlib.Core.List.{List, [], ◌∷◌}
use mathlib.Core.Path.{◌≡◌, refl}
use Prim.Native.Nat.{ℕ, ◌+◌, ◌*◌, ◌≤◌}
use native.Mathlib.Omega.{arith}
use lib.ListN.{length}
use Rattle.bbt.proofs.Raw.{chip_valid}
use Rattle.bbt.proofs.ToldSteps.{count_by_lem}
use Rattle.bbt.specs.Lent.{on_chip, lent_plan}
use Rattle.bbt.specs.Plans.{Call, Answer, refuse, plan, Job, idle, single, double}
use Rattle.bbt.specs.Told.{told_shape, told_retired, told_answer, steps_by, retired_first}
use Rattle.bbt.specs.declared.Step.{Step}
use Rattle.chip.specs.Large.{chip_of, pages_of}
use Rattle.chip.specs.declared.LargeChip.{LargeChip}
use Rattle.chip.specs.declared.Refusal.{Refusal}
use Rattle.plan.specs.Answers.{plan_answer}
use Rattle.reamsickle.specs.LargeBoundary.{room_of}

job-count : (chip : LargeChip) (j : Job) → length (steps_by chip (told_shape j)) ≤ 2 * pages_of chip + 2
job-count chip (idle v) = omega (arith, count_by_lem chip (told_shape (idle v)))
job-count chip (single k b g t) = omega (arith, count_by_lem chip (told_shape (single k b g t)))
job-count chip (double p m t) = omega (arith, count_by_lem chip (told_shape (double p m t)))

one_more : (chip : LargeChip) (bs : List ℕ) (es : List Step) → length (retired_first chip (told_retired bs) es) ≤ length es + 1
unfolding retired_first
one_more chip [] es = omega arith
one_more chip (b ∷ bs) es = omega arith

pub plan_room : (n size : ℕ) (call : Call) (image status failed : List ℕ) → room_of (plan_answer n size call image status failed) ≤ 64
unfolding plan_answer
plan_room n size call image status failed = go (chip_of n size) refl
  where
    told : (chip : LargeChip) → pages_of chip ≤ 4 → (a : Answer) → room_of (told_answer chip a) ≤ 64
    told chip h (refuse r) = omega arith
    told chip h (plan q) = omega (arith, h, one_more chip q.failed (steps_by chip (told_shape q.job)), job-count chip q.job)

    go : (a : Result LargeChip Refusal) → chip_of n size ≡ a → room_of (on_chip Err a (λ chip. told_answer chip (lent_plan chip call image status failed))) ≤ 64
    go (Err r) e = omega arith
    go (Ok chip) e = told chip (chip_valid n size chip e).few_pages (lent_plan chip call image status failed)

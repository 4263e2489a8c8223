-- What planning answers: the plan that the rules give, once steps have failed too, as it is told, or its refusal.
use Rattle.std.specs.Prelude.{List, ℕ, Result, Err}
use Rattle.bbt.specs.Lent.{on_chip, lent_plan}
use Rattle.bbt.specs.Plans.{Call}
use Rattle.bbt.specs.Told.{told_answer}
use Rattle.bbt.specs.declared.Plan.{Plan as ToldPlan}
use Rattle.chip.specs.Large.{chip_of}
use Rattle.chip.specs.declared.Refusal.{Refusal}

-- N and the region's size, then lengths, then status bytes, then the plan
unfoldable pub plan_answer : ℕ → ℕ → Call → List ℕ → List ℕ → List ℕ → Result ToldPlan Refusal
plan_answer n size call image status failed = on_chip Err (chip_of n size) (λ chip. told_answer chip (lent_plan chip call image status failed))

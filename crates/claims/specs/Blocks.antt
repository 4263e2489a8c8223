-- The chip blocks that are told are the region's: N − size to N − 1, so below 32,768, and sixteen bits hold each.
use Rattle.std.specs.Prelude.{List, ℕ, ◌<◌, length, Option, Some, None, Result, Ok, Err}
use Rattle.bbt.specs.Plans.{Call}
use Rattle.bbt.specs.PowerCuts.{InRegion}
use Rattle.bbt.specs.Told.{told_steps, nth_step}
use Rattle.bbt.specs.declared.Plan.{Plan}
use Rattle.bbt.specs.declared.Step.{Step}
use Rattle.bbt.specs.declared.Step.TheVariants.{Erase, Write, Zero}
use Rattle.chip.specs.declared.LargeChip.{LargeChip}
use Rattle.chip.specs.declared.Refusal.{Refusal}
use Rattle.plan.specs.Answers.{plan_answer}
use Rattle.table.specs.Tables.{table_answer}
use Rattle.table.specs.declared.Pair.{Pair}

abbrev pub TableInRegion : LargeChip → Result Pair Refusal → Type 0
TableInRegion chip (Ok pair) = InRegion chip pair.primary × InRegion chip pair.mirror
TableInRegion chip (Err r) = Unit {0}

abbrev pub StepInRegion : LargeChip → Option Step → Type 0
StepInRegion chip None = ⊥
StepInRegion chip (Some (Erase b)) = InRegion chip b
StepInRegion chip (Some (Write b p k)) = InRegion chip b
StepInRegion chip (Some (Zero b)) = InRegion chip b

-- every step of a plan
abbrev pub PlanInRegion : LargeChip → Result Plan Refusal → Type 0
PlanInRegion chip (Ok q) = (i : ℕ) → i < length (told_steps q) → StepInRegion chip (nth_step (told_steps q) i)
PlanInRegion chip (Err r) = Unit {0}

-- for every N and size, refused ones too
pub record BlocksInRegion (n size : ℕ) (image status : List ℕ) : Type 0 where
  pub tables : (room : List ℕ) → TableInRegion (record { blocks = n; region = size }) (table_answer n size image status room)
  pub plans : (call : Call) (failed : List ℕ) → PlanInRegion (record { blocks = n; region = size }) (plan_answer n size call image status failed)

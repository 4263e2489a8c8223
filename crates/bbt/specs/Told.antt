-- Plans and steps as the library tells them: without the table, and each step with its chip block, N − size to N − 1.
use Rattle.std.specs.Prelude.{cond, List, [], ◌∷◌, map, ◌≡◌, ℕ, zero, suc, ◌+◌, ◌-◌, eqb, Option, Some, None, Result, Ok, Err}
use Rattle.chip.specs.Large.{pages_of}
use Rattle.chip.specs.declared.ChipBlock.{ChipBlock}
use Rattle.chip.specs.declared.LargeChip.{LargeChip}
use Rattle.chip.specs.declared.Refusal.{Refusal}
use Rattle.chip.specs.declared.RegionBlock.{RegionBlock}
use Rattle.bbt.specs.declared.Kind.{Kind}
use Rattle.bbt.specs.declared.Kind.TheVariants.{Primary, Mirror}
use Rattle.bbt.specs.declared.PairCase.{PairCase}
use Rattle.bbt.specs.declared.PairCase.TheVariants.{Alone, Settled, Merging, Differing}
use Rattle.bbt.specs.declared.Plan.{Plan as ToldPlan}
use Rattle.bbt.specs.declared.Shape.{Shape}
use Rattle.bbt.specs.declared.Shape.TheVariants.{Empty, One, Both}
use Rattle.bbt.specs.declared.Step.{Step as ToldStep}
use Rattle.bbt.specs.declared.Step.TheVariants.{Erase, Write, Zero}
use Rattle.bbt.specs.Pairs.{Case, no_pair, alone, settled, merging, differing}
use Rattle.bbt.specs.Plans.{Step, erase, write, zeros, Job, idle, single, double, Plan, steps_of, plan_version, Answer, refuse, plan}

abbrev pub region_block : ℕ → RegionBlock
region_block b = record { 0 = b }

-- the region is the last blocks of the chip
abbrev pub chip_block : LargeChip → ℕ → ChipBlock
chip_block chip b = record { 0 = chip.blocks - chip.region + b }

-- the pair's case, or why there is no pair to speak of
abbrev pub told_case : Case → Result PairCase Refusal
told_case (no_pair r) = Err r
told_case (alone k b) = Ok (Alone k (region_block b))
told_case (settled p m) = Ok (Settled (region_block p) (region_block m))
told_case (merging p m) = Ok (Merging (region_block p) (region_block m))
told_case (differing d p m) = Ok (Differing d (region_block p) (region_block m))

-- a plan: what it writes, and the block that gets zeros before
abbrev pub told_shape : Job → Shape
told_shape (idle v) = Empty
told_shape (single k b g t) = One k (region_block b) (region_block g)
told_shape (double p m t) = Both (region_block p) (region_block m)

abbrev pub told_retired : List ℕ → Option RegionBlock
told_retired [] = None
told_retired (b ∷ bs) = Some (region_block b)

abbrev pub told_plan : LargeChip → Plan → ToldPlan
told_plan chip q = record { chip = chip; version = plan_version q; retired = told_retired q.failed; shape = told_shape q.job }

-- what planning answers
abbrev pub told_answer : LargeChip → Answer → Result ToldPlan Refusal
told_answer chip (refuse r) = Err r
told_answer chip (plan q) = Ok (told_plan chip q)

-- a step: its kind, chip block and page
abbrev pub told_step : LargeChip → Step → ToldStep
told_step chip (erase b) = Erase (chip_block chip b)
told_step chip (write b p k t) = Write (chip_block chip b) p k
told_step chip (zeros b) = Zero (chip_block chip b)

-- the steps of a told plan: of a copy its block erased and its pages written in rising order, then the rest
unfoldable pub told_writes : ℕ → ℕ → ChipBlock → Kind → List ToldStep → List ToldStep
told_writes zero p b k rest = rest
told_writes (suc n) p b k rest = Write b p k ∷ told_writes n (suc p) b k rest

unfoldable pub told_copy : ℕ → ChipBlock → Kind → List ToldStep → List ToldStep
told_copy P b k rest = Erase b ∷ told_writes P 0 b k rest

unfoldable pub steps_by : LargeChip → Shape → List ToldStep
steps_by chip Empty = []
steps_by chip (One k b g) = told_copy (pages_of chip) (chip_block chip b.0) k []
steps_by chip (Both p m) = told_copy (pages_of chip) (chip_block chip p.0) Primary (told_copy (pages_of chip) (chip_block chip m.0) Mirror [])

-- zeros first, where a block is retired
unfoldable pub retired_first : LargeChip → Option RegionBlock → List ToldStep → List ToldStep
retired_first chip None es = es
retired_first chip (Some b) es = Zero (chip_block chip b.0) ∷ es

abbrev pub told_steps : ToldPlan → List ToldStep
told_steps q = retired_first q.chip q.retired (steps_by q.chip q.shape)

-- what is told of a plan are the steps that the rules give it
abbrev pub TellsSteps : Type 0
TellsSteps = (chip : LargeChip) (q : Plan) → told_steps (told_plan chip q) ≡ map (told_step chip) (steps_of (pages_of chip) q)

-- step k of a copy by itself
abbrev pub copy_step : Kind → ChipBlock → ℕ → ToldStep
copy_step k b i = cond (eqb i 0) (Erase b) (Write b (i - 1) k)

-- step k, counted from 0
unfoldable pub nth_step : List ToldStep → ℕ → Option ToldStep
nth_step [] k = None
nth_step (e ∷ es) zero = Some e
nth_step (e ∷ es) (suc k) = nth_step es k

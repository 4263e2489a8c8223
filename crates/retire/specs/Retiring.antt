-- What the code makes of a told plan when its steps fail, and that it is what the rules of failed steps make of the plan (`Failures`, crate `bbt`).
use Rattle.std.specs.Prelude.{Bool, true, false, cond, List, [], ◌∷◌, ◌≡◌, ℕ, eqb, replicate, set, Option, Some, None, Result, Ok, Err}
use Rattle.bbt.specs.Failures.{failures}
use Rattle.bbt.specs.Lent.{region_lent, statuses_right}
use Rattle.bbt.specs.Pages.{seen}
use Rattle.bbt.specs.Plans.{Answer, refuse, plan}
use Rattle.bbt.specs.Told.{chip_block, told_answer, told_steps, nth_step}
use Rattle.bbt.specs.declared.Kind.TheVariants.{Mirror}
use Rattle.bbt.specs.declared.Plan.{Plan as ToldPlan}
use Rattle.bbt.specs.declared.Shape.{Shape}
use Rattle.bbt.specs.declared.Shape.TheVariants.{Empty, One, Both}
use Rattle.bbt.specs.declared.Step.{Step as ToldStep}
use Rattle.bbt.specs.declared.Step.TheVariants.{Erase, Write, Zero}
use Rattle.chip.specs.Large.{chip_of}
use Rattle.chip.specs.declared.ChipBlock.{ChipBlock}
use Rattle.chip.specs.declared.LargeChip.{LargeChip}
use Rattle.chip.specs.declared.Refusal.{Refusal}
use Rattle.chip.specs.declared.Refusal.TheVariants.{Range, NoTarget, ZeroFailed}
use Rattle.chip.specs.declared.RegionBlock.{RegionBlock}
use Rattle.region.specs.Targets.{lent_target}
use Rattle.retire.specs.declared.Copy.{Copy}

-- ---- on what is told
-- the copy that goes to chip block c: its region block, and the other copy's. An empty plan has none, and no block is asked for
abbrev pub copy_at : LargeChip → Shape → ChipBlock → Copy
copy_at chip Empty c = record { block = record { 0 = 0 }; other = record { 0 = 0 } }
copy_at chip (One k b g) c = record { block = b; other = g }
copy_at chip (Both p m) c = cond (eqb (chip_block chip p.0).0 c.0) (record { block = p; other = m }) (record { block = m; other = p })

-- the copy of block b goes to block x; of two copies the second follows the first
abbrev pub moved_shape : Shape → RegionBlock → RegionBlock → Shape
moved_shape Empty b x = Empty
moved_shape (One k c g) b x = One k x g
moved_shape (Both p m) b x = cond (eqb b.0 p.0) (Both x m) (One Mirror x p)

-- the flags of the blocks that have failed, with the one that a plan retires
abbrev pub also_retired : List Bool → Option RegionBlock → List Bool
also_retired gone None = gone
also_retired gone (Some b) = set gone b.0 true

-- the plan with a copy's block retired, by what is told of a target
abbrev pub answer_by : ToldPlan → RegionBlock → Result (Option RegionBlock) Refusal → Result ToldPlan Refusal
answer_by told b (Ok (Some x)) =
    Ok (record { chip = told.chip; version = told.version; retired = Some b; shape = moved_shape told.shape b x })
answer_by told b (Ok None) = Err NoTarget
answer_by told b (Err r) = Err r

-- the target beside a copy's blocks and those flagged
abbrev pub target_beside : ℕ → ℕ → List ℕ → List ℕ → List Bool → Copy → Result (Option RegionBlock) Refusal
target_beside n size image status gone copy = lent_target n size image status (set (set gone copy.block.0 true) copy.other.0 true)

-- the plan with that copy at that target
abbrev pub copy_retired : ℕ → ℕ → List ℕ → List ℕ → List Bool → ToldPlan → Copy → Result ToldPlan Refusal
copy_retired n size image status gone told copy = answer_by told copy.block (target_beside n size image status gone copy)

-- the plan once a step has failed under it: an erase or a write retires its block, a zero step is refusal 12, past the end is 2
abbrev pub step_retired : ℕ → ℕ → List ℕ → List ℕ → List Bool → ToldPlan → Option ToldStep → Result ToldPlan Refusal
step_retired n size image status gone told (Some (Erase c)) = copy_retired n size image status gone told (copy_at told.chip told.shape c)
step_retired n size image status gone told (Some (Write c p k)) = copy_retired n size image status gone told (copy_at told.chip told.shape c)
step_retired n size image status gone told (Some (Zero c)) = Err ZeroFailed
step_retired n size image status gone told None = Err Range

-- on with a plan; a refusal is passed on
abbrev pub on_plan : (ToldPlan → Result ToldPlan Refusal) → Result ToldPlan Refusal → Result ToldPlan Refusal
on_plan f (Ok q) = f q
on_plan f (Err r) = Err r

-- the steps of these numbers, oldest first, each in the plan as it stood after the failures before it
unfoldable pub steps_retired : ℕ → ℕ → List ℕ → List ℕ → List Bool → ToldPlan → List ℕ → Result ToldPlan Refusal
steps_retired n size image status gone told [] = Ok told
steps_retired n size image status gone told (k ∷ ks) =
    on_plan (λ next. steps_retired n size image status (also_retired gone next.retired) next ks)
    (step_retired n size image status gone told (nth_step (told_steps told) k))

-- from what was planned first, under which no block has failed
unfoldable pub all_retired : ℕ → ℕ → List ℕ → List ℕ → Result ToldPlan Refusal → List ℕ → Result ToldPlan Refusal
all_retired n size image status told failed = on_plan (λ first. steps_retired n size image status (replicate 7 false) first failed) told

-- ---- that it is the rules'
-- the image and status bytes are a region's of the chip of N and its size
pub record Lends (n size : ℕ) (chip : LargeChip) (image status : List ℕ) : Type 0 where
  pub the_chip : chip_of n size ≡ Ok chip
  pub region_right : region_lent chip image status ≡ true
  pub statuses-right : statuses_right status ≡ true

-- no block has failed yet
abbrev pub First : Answer → Type 0
First (refuse r) = Unit {0}
First (plan q) = q.failed ≡ []

-- what is told of a first plan becomes what is told of the plan that the rules make of it
abbrev pub RetiresByRules : Type 0
RetiresByRules =
    (n size : ℕ) (chip : LargeChip) (image status : List ℕ) (a : Answer) (failed : List ℕ) → Lends n size chip image status → First a
    → all_retired n size image status (told_answer chip a) failed ≡ told_answer chip (failures chip (seen chip image status) a failed)

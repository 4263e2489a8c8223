-- Demand 3, as document 01's "Histories" words it: one claim about the whole list of events, from any settled pair, for every N and every
-- size of the region.
use Rattle.std.specs.Prelude.{true, false, [], ◌∷◌, ◌⊎◌, ◌≢◌, ◌≡◌, ℕ, ◌-◌, ◌<◌, ◌≤◌, Ok, Some}
use Rattle.std.proofs.Math.Option.{some}
use Rattle.chip.specs.Large.{chip_of, pages_of}
use Rattle.chip.specs.declared.ChipBlock.{ChipBlock}
use Rattle.chip.specs.declared.LargeChip.{LargeChip}
use Rattle.chip.specs.declared.Refusal.TheVariants.{Range, NoTarget, ZeroFailed}
use Rattle.bbt.specs.Copies.{Table, reads_bad}
use Rattle.bbt.specs.Entries.{entry_of}
use Rattle.bbt.specs.Histories.{Last, one_table, pending, closed, Snapshot, snapshot, with_failed, answer, asked, empty, holding, World, world, History}
use Rattle.bbt.specs.Images.{Imaged, no_image, page-image, page_image}
use Rattle.bbt.specs.Pairs.{merging, pair_case}
use Rattle.bbt.specs.Plans.{Step, erase, write, zeros, Plan, steps_of, step_at, Answer, refuse, plan, Call, for_update, for_recovery, reading, holds}
use Rattle.bbt.specs.Regions.{Region, view, Zeroed}
use Rattle.bbt.specs.Told.{chip_block, told_plan, told_steps, told_step, nth_step}

-- the last blocks of the chip, as many as the region has: N − size to N − 1
abbrev pub InRegion : LargeChip → ChipBlock → Type 0
InRegion chip c = (chip.blocks - chip.region ≤ c.0) × (c.0 < chip.blocks)

-- an entry that is not 11 is kept from table t to table u
abbrev pub NotGoodKept : LargeChip → Table → Table → Type 0
NotGoodKept chip t u = (b : ℕ) → b < chip.blocks → entry_of t.bitmap b ≢ 3 → entry_of u.bitmap b ≡ entry_of t.bitmap b

-- the table that a finished recovery leaves: the new exactly when a new primary stood complete; where old and new are one table, that one.
-- Its planning closed the last update, so none is pending: with an update pending no table is an outcome, and that too is claimed
abbrev pub Outcome : Last → Table → Type 0
Outcome (one_table o) t = t ≡ o
Outcome (pending o n) t = ⊥
Outcome (closed o n true) t = t ≡ n
Outcome (closed o n false) t = t ≡ o

-- a step's page image: none for an erase or zeros
abbrev pub ImageOf : Step → Imaged → Type 0
ImageOf (erase b) x = x ≡ no_image Range
ImageOf (write b p k t) x = x ≡ page-image (page_image k t p)
ImageOf (zeros b) x = x ≡ no_image Range

-- a plan that starts with zeros to block b
abbrev pub Retires : LargeChip → Answer → ℕ → Type 0
Retires chip x b = (q : Plan) × (x ≡ plan q) × (step_at (steps_of (pages_of chip) q) 0 ≡ some (zeros b))

-- what planning answers were a step to fail: 12 for zeros; for another, 11, or a plan that retires its block
abbrev pub IfItFails : LargeChip → Step → Answer → Type 0
IfItFails chip (erase b) x = (x ≡ refuse NoTarget) ⊎ Retires chip x b
IfItFails chip (write b p k t) x = (x ≡ refuse NoTarget) ⊎ Retires chip x b
IfItFails chip (zeros b) x = x ≡ refuse ZeroFailed

module _ {chip : LargeChip} where
  abbrev pub region_of : World chip → Region chip
  region_of (world r h l) = r

  -- the pair is settled, and holds the table t
  abbrev pub Settled : Region chip → Table → Type 0
  Settled r t = (p : ℕ) × (m : ℕ) × (reading chip (view r) ≡ holds p m t)

  -- any settled pair, no plan in hand; old is the start's
  pub data Start : World chip → Type 0 where
    settled_at : {r : Region chip} {t : Table} → Settled r t → Start (world r empty (one_table t))

  -- a recovery is finished where no step of it is left: then the pair is settled and holds the outcome
  abbrev pub Settles : World chip → Type 0
  Settles (world r (holding for_recovery a i []) l) = (t : Table) × Settled r t × Outcome l t
  Settles (world r (holding for_recovery a i (e ∷ es)) l) = Unit {0}
  Settles (world r (holding (for_update w) a i es) l) = Unit {0}
  Settles (world r empty l) = Unit {0}

  -- a step's told chip block is in the region, and a block that it erases is not readable as bad
  abbrev pub Harmless : Region chip → Step → Type 0
  Harmless r (erase b) = InRegion chip (chip_block chip b) × (reads_bad (view r) b ≡ false)
  Harmless r (write b p k t) = InRegion chip (chip_block chip b) × (p < pages_of chip)
  Harmless r (zeros b) = InRegion chip (chip_block chip b)

  -- a step in hand is the one of its number in the plan that the library tells from the snapshot, and so is its page image
  pub record Numbered (call : Call) (a : Snapshot chip) (i : ℕ) (e : Step) : Type 0 where
    pub made : Plan
    pub by_plan : answer call a ≡ plan made
    pub by_number : nth_step (told_steps (told_plan chip made)) i ≡ Some (told_step chip e)
    pub by_image : ImageOf e (asked call a i)

  abbrev pub NextStep : World chip → Type 0
  NextStep (world r empty l) = Unit {0}
  NextStep (world r (holding c a i []) l) = Unit {0}
  NextStep (world r (holding c a i (e ∷ es)) l) = Harmless r e × Numbered c a i e × IfItFails chip e (answer c (with_failed a i))

  -- a recovery, planned from what the region holds, is not refused, so not with 7, 8, 9 or 11, and never merges
  pub record Recovers (r : Region chip) : Type 0 where
    pub not_refused : (q : Plan) × (answer for_recovery (snapshot r) ≡ plan q)
    pub no_merge : (p m : ℕ) → pair_case chip (view r) ≢ merging p m

  -- what holds at every moment
  pub record Promise (w : World chip) : Type 0 where
    pub settles : Settles w
    pub next_step : NextStep w
    pub recovers : Recovers (region_of w)

-- after every list of events; a block that a settled table calls not good keeps that entry in every later settled one; and a retired block, once
-- zeros are written to it, reads as bad, so that no step erases it again
pub record SafeUnderCuts (chip : LargeChip) : Type 0 where
  pub promise : {w v : World chip} → Start w → History w v → Promise v
  pub not_good_kept : {w v u : World chip} → Start w → History w v → History v u → (t t' : Table) → Settled (region_of v) t
      → Settled (region_of u) t' → NotGoodKept chip t t'
  pub retired_for_good : (r : Region chip) (b : ℕ) → Zeroed r b 0 → reads_bad (view r) b ≡ true

abbrev pub Demand3 : Type 0
Demand3 = (n size : ℕ) (chip : LargeChip) → chip_of n size ≡ Ok chip → SafeUnderCuts chip

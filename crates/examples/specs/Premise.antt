-- The premise on unreadable first pages is needed: an erase or a page write, cut or failed, leaves an OOB byte that isn't 0 on a first page that it
-- makes unreadable (`Lost`). Were an erase to leave 64 zero OOB bytes there, its block would be readable as bad. Here, N = 8, one such erase leaves
-- a recovery no target: the pair is settled in blocks 0 and 1, blocks 2 and 3 are readable as bad, and an update starts by erasing block 0.
use Rattle.std.specs.Prelude.{true, ◌≡◌}
use Rattle.std.proofs.Math.Option.{some}
use Rattle.chip.specs.Large.{pages_of}
use Rattle.chip.specs.declared.Refusal.TheVariants.{NoTarget}
use Rattle.bbt.specs.Copies.{reads_bad}
use Rattle.examples.specs.ThreeHistories.{chip8, old_table, new_table}
use Rattle.bbt.specs.Histories.{OthersKept, snapshot, answer}
use Rattle.bbt.specs.Plans.{erase, Plan, steps_of, step_at, refuse, plan, for_update, for_recovery, reading, holds}
use Rattle.bbt.specs.Regions.{Region, view, Zeroed, Unreadable}

pub record RefusedWithout (r s : Region chip8) : Type 0 where
  pub pair : reading chip8 (view r) ≡ holds 0 1 old_table
  pub bad_2 : reads_bad (view r) 2 ≡ true
  pub bad_3 : reads_bad (view r) 3 ≡ true
  -- the update, and its first step
  pub made : Plan
  pub by_plan : answer (for_update new_table.bitmap) (snapshot r) ≡ plan made
  pub first : step_at (steps_of (pages_of chip8) made) 0 ≡ some (erase 0)
  -- from r to s, all that a cut or failed erase may leave but for the premise: other pages are kept, and the block's one page is unreadable
  pub others_kept : OthersKept (erase 0) r s
  pub fails : Unreadable s 0 0
  pub shows_zeros : Zeroed s 0 0
  -- refusal 11
  pub no_target : answer for_recovery (snapshot s) ≡ refuse NoTarget

abbrev pub PremiseNeeded : Type 0
PremiseNeeded = (r : Region chip8) × (s : Region chip8) × RefusedWithout r s

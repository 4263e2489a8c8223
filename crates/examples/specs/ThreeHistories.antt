-- Three histories by number, N = 8 and all blocks good at version 255: an update that marks block 3 late is cut as its new primary is written.
-- The page is left unreadable, and the recovery keeps the old table; or it is left complete, and the recovery keeps the new one. Or it is no cut,
-- the write fails: the plan made anew writes the new table, its primary to block 3.
use Rattle.std.specs.Prelude.{Bool, true, false, [], ◌∷◌, ◌≡◌, ℕ}
use Rattle.chip.specs.declared.LargeChip.{LargeChip}
use Rattle.bbt.specs.Copies.{Table}
use Rattle.bbt.specs.Histories.{one_table, closed, Snapshot, snapshot, with_failed, empty, holding, world, History}
use Rattle.bbt.specs.Plans.{for_update, for_recovery, reading, holds}
use Rattle.bbt.specs.Regions.{Region, view}

abbrev pub chip8 : LargeChip
chip8 = record { blocks = 8; region = 4 }

abbrev pub old_table : Table
old_table = record { version = 255; bitmap = 255 ∷ 255 ∷ [] }

abbrev pub new_table : Table
new_table = record { version = 0; bitmap = 127 ∷ 255 ∷ [] }

-- from a settled pair in blocks 0 and 1 to a recovery with no step left: the new primary was complete or not, and what reading gives then
abbrev pub RunsTo : Bool → ℕ → ℕ → Table → Type 0
RunsTo complete p m t =
    (r : Region chip8) × (s : Region chip8) × (a : Snapshot chip8) × (reading chip8 (view r) ≡ holds 0 1 old_table)
    × History (world r empty (one_table old_table)) (world s (holding for_recovery a 2 []) (closed old_table new_table complete))
    × (reading chip8 (view s) ≡ holds p m t)

-- from there to the update with no step left: its step i has failed, the plan made anew has n steps, and what reading gives then
abbrev pub FailsTo : ℕ → ℕ → ℕ → ℕ → Table → Type 0
FailsTo i n p m t =
    (r : Region chip8) × (s : Region chip8) × (reading chip8 (view r) ≡ holds 0 1 old_table)
    × History (world r empty (one_table old_table)) (world s (holding (for_update new_table.bitmap) (with_failed (snapshot r) i) n []) (closed old_table new_table true))
    × (reading chip8 (view s) ≡ holds p m t)

abbrev pub Examples : Type 0
Examples = RunsTo false 3 1 old_table × RunsTo true 0 1 new_table × FailsTo 1 5 3 1 new_table

-- The bridge from the histories of demand 3 to the code that reads: for a region of the chip of N and its size, and room for its bitmap, what the
-- contract of reading answers and leaves is what the rules read (`reading`). `plan/specs/Bridge.antt` has plans and page images.
use Rattle.std.specs.Prelude.{List, ◌≡◌, ℕ, length, Ok}
use Rattle.bbt.specs.Copies.{Table}
use Rattle.bbt.specs.Plans.{reading, holds}
use Rattle.bbt.specs.Regions.{Region, view}
use Rattle.bbt.specs.Told.{chip_block}
use Rattle.chip.specs.Large.{chip_of, bitmap_bytes}
use Rattle.chip.specs.declared.LargeChip.{LargeChip}
use Rattle.table.specs.Tables.{told_reading, room_by, table_answer, table_after}

pub record ReadBridge (n size : ℕ) (chip : LargeChip) (r : Region chip) : Type 0 where
  -- version and chip blocks of the pair, or the refusal
  pub answers : (room : List ℕ) → length room ≡ bitmap_bytes chip → table_answer n size r.image r.status room ≡ told_reading chip (reading chip (view r))
  -- its bitmap in the lent room, which is as it was beside a refusal
  pub bitmaps : (room : List ℕ) → length room ≡ bitmap_bytes chip → table_after n size r.image r.status room ≡ room_by (reading chip (view r)) room
  -- so of a settled pair the answer is its version and blocks, and the room holds its bitmap
  pub settled : (p m : ℕ) (t : Table) → reading chip (view r) ≡ holds p m t → (room : List ℕ) → length room ≡ bitmap_bytes chip
      → (table_answer n size r.image r.status room ≡ Ok (record { version = t.version; primary = chip_block chip p; mirror = chip_block chip m }))
      × (table_after n size r.image r.status room ≡ t.bitmap)

abbrev pub ReadBridged : Type 0
ReadBridged = (n size : ℕ) (chip : LargeChip) (r : Region chip) → chip_of n size ≡ Ok chip → ReadBridge n size chip r

-- Document 02: "a table lying below the stated region isn't found", of ream_table_read. One chip, read with its region and then with d blocks
-- fewer, for which its last blocks are lent: where the first is answered, the second gives the same answer and bitmap if both copies lie
-- among the last blocks, refusal 10 if one does, and 7 if none does.
use Rattle.std.specs.Prelude.{List, ◌≡◌, ℕ, ◌-◌, length, Ok}
use Rattle.bbt.specs.Regions.{Region}
use Rattle.bbt.specs.Sizes.{narrowed, last_image, last_status, by_place}
use Rattle.chip.specs.Large.{chip_of, bitmap_bytes}
use Rattle.chip.specs.declared.LargeChip.{LargeChip}
use Rattle.table.specs.Tables.{table_after}
use Rattle.reamsickle.specs.LargeBoundary.{table_code}
use Rattle.claims.specs.Driver.{refusal_in, primary_in, mirror_in, read_told, bitmap_told}

module _ {chip : LargeChip} (d : ℕ) (r : Region chip) (room : List ℕ) where
  -- ream_table_read with d blocks fewer: its answer, and the lent bitmap
  abbrev pub read_fewer : ℕ
  read_fewer = table_code chip.blocks (chip.region - d) (last_image chip d r.image) (last_status chip d r.status) room

  abbrev pub bitmap_fewer : List ℕ
  bitmap_fewer = table_after chip.blocks (chip.region - d) (last_image chip d r.image) (last_status chip d r.status) room

  -- by the chip blocks that the first call told
  abbrev pub by_blocks : {A : Type 0} → A → A → A → A
  by_blocks both one none = by_place (chip.blocks - (chip.region - d)) (primary_in (read_told r room)) (mirror_in (read_told r room)) both one none

  pub record NarrowedInC : Type 0 where
    pub answer : read_fewer ≡ by_blocks (read_told r room) 10 7
    pub bitmap : bitmap_fewer ≡ by_blocks (bitmap_told r room) room room

-- for every N and both sizes that the entry takes with it
abbrev pub BelowNotFoundInC : Type 0
BelowNotFoundInC =
    (n size d : ℕ) (chip : LargeChip) → chip_of n size ≡ Ok chip → chip_of n (size - d) ≡ Ok (narrowed chip d) → (r : Region chip) (room : List ℕ)
    → length room ≡ bitmap_bytes chip → refusal_in (read_told r room) ≡ 0 → NarrowedInC d r room

-- Document 01, "Large chip": the number of blocks N and of region blocks, the bitmap's bytes, its pages P, and the region's sizes.
use Rattle.std.specs.Prelude.{Bool, cond, ◌&&◌, ℕ, ◌+◌, ◌*◌, ◌/◌, ◌%◌, eqb, leb, Result, Ok, Err}
use Rattle.chip.specs.declared.LargeChip.{LargeChip}
use Rattle.chip.specs.declared.Refusal.{Refusal}
use Rattle.chip.specs.declared.Refusal.TheVariants.{Range}

-- N is a multiple of 4 from 8 to 32,768
unfoldable pub is_blocks : ℕ → Bool
is_blocks n = eqb (n % 4) 0 && leb 8 n && leb n 32768

-- the region's size is 4 to 7 blocks, and N is not below twice it
unfoldable pub is_region : ℕ → ℕ → Bool
is_region n size = leb 4 size && leb size 7 && leb (2 * size) n

-- both of a chip's numbers are right
abbrev pub is_chip : ℕ → ℕ → Bool
is_chip n size = is_blocks n && is_region n size

-- the chip of N blocks, whose region is the last `size` of them, or refusal 2
unfoldable pub chip_of : ℕ → ℕ → Result LargeChip Refusal
chip_of n size = cond (is_chip n size) (Ok (record { blocks = n; region = size })) (Err Range)

-- the bitmap has N/4 bytes
abbrev pub bitmap_bytes : LargeChip → ℕ
bitmap_bytes chip = chip.blocks / 4

-- P: N/4 divided by 2,048, rounded up
abbrev pub pages_of : LargeChip → ℕ
pages_of chip = (bitmap_bytes chip + 2047) / 2048

-- the region's image is the first P pages of each of its blocks, 2,048 + 64 bytes a page; a status byte comes with each
abbrev pub region_pages : LargeChip → ℕ
region_pages chip = chip.region * pages_of chip

abbrev pub region_bytes : LargeChip → ℕ
region_bytes chip = region_pages chip * 2112

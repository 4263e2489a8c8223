-- Demand 3 is about every N, every size of the region and every table: for each of them there is a settled pair, in any two of the region's
-- blocks, and every settled pair is a start.
use Rattle.std.specs.Prelude.{◌≢◌, ◌≡◌, ℕ, ◌<◌, Ok}
use Rattle.chip.specs.Large.{chip_of, bitmap_bytes}
use Rattle.chip.specs.declared.LargeChip.{LargeChip}
use Rattle.bbt.specs.Copies.{Table}
use Rattle.bbt.specs.Histories.{one_table, empty, world}
use Rattle.bbt.specs.Plans.{reading, holds}
use Rattle.bbt.specs.Possible.{Bytes}
use Rattle.bbt.specs.PowerCuts.{Settled, Start}
use Rattle.bbt.specs.Regions.{Region, view}

-- any table of the chip: a version from 0 to 255, and a bitmap of N/4 bytes
pub record AnyTable (chip : LargeChip) (t : Table) : Type 0 where
  pub version_byte : t.version < 256
  pub bitmap-bytes : Bytes (bitmap_bytes chip) t.bitmap

pub record EverySettled (chip : LargeChip) : Type 0 where
  -- the primary in block p, the mirror in block m
  pub there : (t : Table) → AnyTable chip t → (p m : ℕ) → p < chip.region → m < chip.region → p ≢ m → (r : Region chip) × (reading chip (view r) ≡ holds p m t)
  -- any settled image, no plan in hand; old is the start's
  pub starts : (r : Region chip) (t : Table) → Settled r t → Start (world r empty (one_table t))

abbrev pub StartsAnywhere : Type 0
StartsAnywhere = (n size : ℕ) (chip : LargeChip) → chip_of n size ≡ Ok chip → EverySettled chip

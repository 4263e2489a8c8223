-- What a region's fields say of it: a chip has 1 to 4 pages and at most 7 region blocks, image and status bytes are of the chip's lengths, and
-- so each page of a region block lies in them.
-- Assumes nothing.
use mathlib.Core.Bool.{true}
use mathlib.Core.List.{List}
use mathlib.Core.Path.{◌≡◌, refl}
use Prim.Native.Nat.{ℕ, suc, ◌+◌, ◌*◌, ◌<◌, ◌≤◌}
use native.Mathlib.Nat.{mul-le-mul_right}
use native.Mathlib.Omega.{arith}
use borrow.Author.Tests.{eqb-true}
use lib.Dec.{eqb}
use lib.ListN.{length}
use Rattle.std.specs.Prelude.{Ok}
use Rattle.bits.proofs.Both.{both_left, both_right}
use Rattle.bbt.specs.Lent.{region_lent}
use Rattle.bbt.proofs.Raw.{Valid, chip_valid}
use Rattle.chip.specs.Large.{is_chip, chip_of, pages_of, region_pages, region_bytes}
use Rattle.chip.specs.declared.LargeChip.{LargeChip}
use Rattle.region.specs.Cases.{Fits}

-- the chip of right numbers, and back
pub chip_told : (chip : LargeChip) → is_chip chip.blocks chip.region ≡ true → chip_of chip.blocks chip.region ≡ Ok chip
unfolding chip_of
chip_told chip e = rw e refl

pub chip_right : (n size : ℕ) (chip : LargeChip) → chip_of n size ≡ Ok chip → is_chip chip.blocks chip.region ≡ true
unfolding chip_of
chip_right n size chip e = grind arith

pub fits : (chip : LargeChip) (image status : List ℕ) → is_chip chip.blocks chip.region ≡ true → region_lent chip image status ≡ true
    → Fits chip (length image) (length status)
unfolding region_lent
fits chip image status a l =
    let v : Valid chip.blocks chip.region chip = chip_valid chip.blocks chip.region chip (chip_told chip a) in
    let few : chip.region ≤ 7 = v.right_size.largest in
    record {
      some_pages = v.some_page;
      few_pages = v.few_pages;
      few_blocks = few;
      image = eqb-true _ _ (both_left (eqb (length image) (region_bytes chip)) (eqb (length status) (region_pages chip)) l);
      status = eqb-true _ _ (both_right (eqb (length image) (region_bytes chip)) (eqb (length status) (region_pages chip)) l);
    }

-- the pages of a region block are among the region's
pub block_inside : (chip : LargeChip) (b : ℕ) → b < chip.region → b * pages_of chip + pages_of chip ≤ region_pages chip
block_inside chip b h = let m : suc b * pages_of chip ≤ chip.region * pages_of chip = mul-le-mul_right (pages_of chip) h in omega (arith, m)

-- The chip of N blocks with a region of a size, and a page's bytes in a lent image.
-- Assumes nothing.
use Rattle.std.specs.Prelude.{Ok, Err}
use mathlib.Core.Bool.{Bool, true, false, ◌&&◌}
use mathlib.Core.List.{List}
use mathlib.Core.Path.{◌≡◌, refl, sym, ap, ◌∙◌}
use Prim.Native.Nat.{ℕ, suc, ◌+◌, ◌*◌, ◌<◌, ◌≤◌}
use native.Mathlib.Nat.{mul-le-mul_right}
use native.Mathlib.Omega.{arith}
use lib.ListN.{length, drop, get_or, length-take, length-drop}
use lib.Seq.{get_or-take, get_or-drop}
use Rattle.bits.proofs.Both.{both_left, both_right}
use Rattle.chip.proofs.Numbers.{Blocks, Sized, blocks_told, region_told}
use Rattle.chip.specs.Large.{is_blocks, is_region, chip_of, pages_of, region_pages, region_bytes}
use Rattle.chip.specs.declared.LargeChip.{LargeChip}
use Rattle.chip.specs.declared.Refusal.TheVariants.{Range}
use Rattle.bbt.specs.Pages.{page_bytes}

-- ---- the chip of N blocks with a region of `size`
pub record Valid (n size : ℕ) (chip : LargeChip) : Type 0 where
  pub blocks : chip.blocks ≡ n
  pub region : chip.region ≡ size
  pub right_n : Blocks n
  pub right_size : Sized n size
  pub some_page : 0 < pages_of chip
  pub few_pages : pages_of chip ≤ 4

pub chip_valid : (n size : ℕ) (chip : LargeChip) → chip_of n size ≡ Ok chip → Valid n size chip
unfolding chip_of
chip_valid n size chip e = go (is_blocks n && is_region n size) refl
  where
    go : (t : Bool) → (is_blocks n && is_region n size) ≡ t → Valid n size chip
    go false a = absurd (let x : Err Range ≡ Ok chip = sym (rw a) ∙ e in let z : ◌≡◌ {A = ℕ} 0 1 = cc in omega arith)
    go true a =
        let x : Ok (record { blocks = n; region = size }) ≡ Ok chip = sym (rw a) ∙ e in
        let c : record { blocks = n; region = size } ≡ chip = cc in
        let right : Blocks n = blocks_told n (both_left (is_blocks n) (is_region n size) a) in
        let blocks : chip.blocks ≡ n = sym (ap (λ (r : LargeChip). r.blocks) c) in
        record {
          blocks = blocks;
          region = sym (ap (λ (r : LargeChip). r.region) c);
          right_n = right;
          right_size = region_told n size (both_right (is_blocks n) (is_region n size) a);
          some_page = omega arith;
          few_pages = omega arith;
        }

pub pages_pos : (n size : ℕ) (chip : LargeChip) → chip_of n size ≡ Ok chip → 0 < pages_of chip
pages_pos n size chip e = (chip_valid n size chip e).some_page

-- ---- a page's bytes in the image
pub page_byte : (image : List ℕ) (i j : ℕ) → j < 2112 → get_or (page_bytes image i) j 0 ≡ get_or image (i * 2112 + j) 0
unfolding page_bytes
page_byte image i j h = get_or-take 2112 (drop (i * 2112) image) j 0 h ∙ get_or-drop (i * 2112) image j 0

-- page p of region block b is one of the region's
pub page_below : (chip : LargeChip) (b p : ℕ) → b < chip.region → p < pages_of chip → b * pages_of chip + p < region_pages chip
page_below chip b p hb hp =
    let m : suc b * pages_of chip ≤ chip.region * pages_of chip = mul-le-mul_right (pages_of chip) hb in
    omega (arith, m)

pub page_length : (chip : LargeChip) (image : List ℕ) (i : ℕ) → length image ≡ region_bytes chip → i < region_pages chip → length (page_bytes image i) ≡ 2112
unfolding page_bytes
page_length chip image i e h = simp (length-take, length-drop) (omega arith)

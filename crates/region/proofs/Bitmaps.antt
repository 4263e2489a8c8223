-- The parts of two blocks' bitmaps, page by page.
-- Assumes nothing.
use mathlib.Core.Bool.{◌&&◌}
use mathlib.Core.List.{List}
use mathlib.Core.Path.{◌≡◌, refl, ◌∙◌, ap, ap₂, sym}
use Prim.Native.Nat.{ℕ, zero, suc, ◌+◌, ◌*◌, ◌<◌, ◌≤◌, min}
use native.Mathlib.Nat.{mul-le-mul_right}
use native.Mathlib.Omega.{arith}
use borrow.Author.Tests.{le-leb}
use lib.ListN.{length, take, length-append, length-take, length-drop}
use Rattle.bbt.specs.Pages.{all, part_length, page_bytes}
use Rattle.bbt.specs.Pairs.{same}
use Rattle.region.specs.Stored.{stored_parts}
use Rattle.bbt.proofs.Raw.{page_below}
use Rattle.region.proofs.Stored.{page_take}
use Rattle.bbt.proofs.Searches.{same_append}
use Rattle.chip.specs.Large.{bitmap_bytes, pages_of, region_pages}
use Rattle.chip.specs.declared.LargeChip.{LargeChip}
use Rattle.region.specs.Parts.{part_of}

module _ (chip : LargeChip) (image : List ℕ) (room : chip.region * pages_of chip * 2112 ≤ length image) where
  -- the part of a page of the region is whole
  pub part_whole : (b p : ℕ) → b < chip.region → p < pages_of chip → part_of chip image b p ≡ take (part_length chip p) (page_bytes image (b * pages_of chip + p))
  unfolding part_of
  part_whole b p hb hp =
      let below = page_below chip b p hb hp in
      let last = mul-le-mul_right {m = b * pages_of chip + p + 1} {n = region_pages chip} 2112 (omega arith) in
      simp (le-leb ((b * pages_of chip + p) * 2112 + part_length chip p) (length image) (omega arith))
      (sym (page_take image (b * pages_of chip + p) (part_length chip p) (omega arith)))

  pub part_length_lem : (b p : ℕ) → b < chip.region → p < pages_of chip → length (take (part_length chip p) (page_bytes image (b * pages_of chip + p))) ≡ part_length chip p
  part_length_lem b p hb hp =
      let below = page_below chip b p hb hp in
      let last = mul-le-mul_right {m = b * pages_of chip + p + 1} {n = region_pages chip} 2112 (omega arith) in
      ap length (page_take image (b * pages_of chip + p) (part_length chip p) (omega arith)) ∙ simp (length-take, length-drop) (omega arith)

  -- the parts of p pages are the first 2,048 bytes of each, up to the bitmap's end
  pub stored_long : (b p : ℕ) → b < chip.region → p ≤ pages_of chip → length (stored_parts chip image b p) ≡ min (2048 * p) (bitmap_bytes chip)
  unfolding stored_parts
  stored_long b zero hb hp = omega arith
  stored_long b (suc p) hb hp = simp length-append (omega (arith, part_length_lem b p hb (omega arith), stored_long b p hb (omega arith)))

  -- two are the same where each page's are
  pub stored_same : (x y n : ℕ) → x < chip.region → y < chip.region → n ≤ pages_of chip
      → same (stored_parts chip image x n) (stored_parts chip image y n) ≡ all n (λ p. same (part_of chip image x p) (part_of chip image y p))
  unfolding stored_parts same all
  stored_same x y zero hx hy h = refl
  stored_same x y (suc n) hx hy h =
      let shorter : n ≤ pages_of chip = omega arith in
      same_append (stored_parts chip image x n) _ (stored_parts chip image y n) _ (stored_long x n hx shorter ∙ sym (stored_long y n hy shorter))
      ∙ ap₂ ◌&&◌ (stored_same x y n hx hy shorter) (ap₂ same (sym (part_whole x n hx (omega arith))) (sym (part_whole y n hy (omega arith))))

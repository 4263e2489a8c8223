-- A bitmap copied part by part: each part is put behind those that stand already.
-- Assumes nothing.
use mathlib.Core.List.{List, ◌++◌, append_assoc}
use mathlib.Core.Path.{◌≡◌, sym, ap, ap₂, ◌∙◌}
use Prim.Native.Nat.{ℕ, ◌+◌, ◌*◌, ◌-◌, ◌<◌, ◌≤◌}
use native.Mathlib.Omega.{arith}
use borrow.Rule.Slice.PartMut.{put_mid, post_of, mid_of, mid_len}
use lib.ListN.{length, take, length-append, length-take}
use lib.Seq.{take_at}
use Rattle.bits.specs.Bytes.{copied}
use Rattle.bits.proofs.Filling.{copied_same}
use Rattle.bbt.specs.Pages.{part_length}
use Rattle.region.specs.Stored.{stored_parts}
use Rattle.region.proofs.Stored.{stored_parts_next}
use Rattle.chip.specs.Large.{pages_of}
use Rattle.chip.specs.declared.LargeChip.{LargeChip}
use Rattle.region.specs.Parts.{part_of}
use Rattle.region.proofs.Bitmaps.{part_whole, part_length_lem}

-- what was put at a place stands behind what was before it
take_put_next : (at : ℕ) (l x : List ℕ) → at + length x ≤ length l → take (at + length x) (put_mid at (at + length x - at) l x) ≡ take at l ++ x
take_put_next at l x h =
    ap (take (at + length x)) (sym (append_assoc (take at l) x (post_of at (at + length x - at) l)))
    ∙ take_at (take at l ++ x) (post_of at (at + length x - at) l) (at + length x) (simp (length-append, length-take) (omega arith))

module _ (chip : LargeChip) (image : List ℕ) (room : chip.region * pages_of chip * 2112 ≤ length image) (b p : ℕ) (hb : b < chip.region) (hp : p < pages_of chip) where
  pub part_size : length (part_of chip image b p) ≡ part_length chip p
  part_size = ap length (part_whole chip image room b p hb hp) ∙ part_length_lem chip image room b p hb hp

  -- one part more
  pub copy_next : (l x : List ℕ) (at : ℕ) → x ≡ part_of chip image b p → at + length x ≤ length l → take at l ≡ stored_parts chip image b p
      → take (at + length x) (put_mid at (at + length x - at) l (copied x (mid_of at (at + length x - at) l))) ≡ stored_parts chip image b (p + 1)
  copy_next l x at e h before =
      let whole : copied x (mid_of at (at + length x - at) l) ≡ x = copied_same x (mid_of at (at + length x - at) l) (mid_len at (at + length x) l h ∙ omega arith) in
      ap (λ (y : List ℕ). take (at + length x) (put_mid at (at + length x - at) l y)) whole
      ∙ take_put_next at l x h
      ∙ ap₂ ◌++◌ before (e ∙ part_whole chip image room b p hb hp)
      ∙ sym (stored_parts_next chip image b p)

-- Laws of the new table's bytes of a page: they come from the page's part of the blocks that the table comes from.
-- Assumes nothing.
use mathlib.Core.Bool.{Bool, true, false, cond}
use mathlib.Core.List.{List, [], ◌++◌}
use mathlib.Core.Path.{◌≡◌, refl, ◌∙◌, ap, ap₂, sym}
use Prim.Native.Nat.{ℕ, zero, suc, ◌+◌, ◌*◌, ◌-◌, ◌<◌, ◌≤◌, min}
use native.Mathlib.Omega.{arith}
use borrow.Author.Tests.{eq-eqb, ltb-true, ltb-false}
use borrow.Rule.Slice.PartMut.{mid_of, mid_len}
use lib.Dec.{leb, ltb}
use lib.ListN.{length, take, drop, length-take, length-drop}
use lib.Seq.{take_at}
use Rattle.bbt.proofs.Parting.{chunk_before, chunk_next, chunk_past, chunk_updated, chunk_and}
use Rattle.bbt.specs.Entries.{updated_bytes, and_bytes}
use Rattle.bbt.specs.Images.{chunk}
use Rattle.bbt.specs.Pages.{page_bytes, part_length}
use Rattle.region.specs.Stored.{stored_parts}
use Rattle.bitmap.specs.Made.{updated_into, anded_into}
use Rattle.bits.proofs.Filling.{copied_same}
use Rattle.bits.specs.Bytes.{copied}
use Rattle.chip.specs.Large.{bitmap_bytes, pages_of}
use Rattle.chip.specs.declared.LargeChip.{LargeChip}
use Rattle.region.proofs.Bitmaps.{part_whole, part_length_lem, stored_long}
use Rattle.region.specs.Parts.{part_of}

-- of a whole bitmap
chunk_size : (chip : LargeChip) (p : ℕ) (l : List ℕ) → length l ≡ bitmap_bytes chip → length (chunk p l) ≡ part_length chip p
unfolding chunk
chunk_size chip p l e = simp (length-take, length-drop) (ap (λ (n : ℕ). min 2048 (n - 2048 * p)) e)

module _ (chip : LargeChip) (image : List ℕ) (room : chip.region * pages_of chip * 2112 ≤ length image) where
  module _ (b : ℕ) (hb : b < chip.region) where
    part : ℕ → List ℕ
    part p = take (part_length chip p) (page_bytes image (b * pages_of chip + p))

    -- a page's bytes of n pages' parts
    chunk_stored : (n p : ℕ) → p < n → n ≤ pages_of chip → chunk p (stored_parts chip image b n) ≡ part p
    unfolding stored_parts part
    chunk_stored zero p hp hn = absurd (omega arith)
    chunk_stored (suc n) p hp hn = go (ltb p n) refl (λ h. chunk_stored n p h (omega arith))
      where
        full : length (stored_parts chip image b n) ≡ 2048 * n
        full = stored_long chip image room b n hb (omega arith) ∙ omega arith

        go : (t : Bool) → ltb p n ≡ t → (p < n → chunk p (stored_parts chip image b n) ≡ part p) → chunk p (stored_parts chip image b n ++ part n) ≡ part p
        go true e h = let below = ltb-true p n e in chunk_before n (stored_parts chip image b n) (part n) full p below ∙ h below
        go false e h =
            let same : p ≡ n = omega (arith, ltb-false p n e) in
            rw same (chunk_next n (stored_parts chip image b n) (part n) full (omega (arith, part_length_lem chip image room b n hb (omega arith))))

    -- the part of any page: past the last there is none
    pub part_chunk : (p : ℕ) → part_of chip image b p ≡ chunk p (stored_parts chip image b (pages_of chip))
    unfolding part part_of
    part_chunk p = go (ltb p (pages_of chip)) refl
      where
        nothing : (t : Bool) (n : ℕ) (l : List ℕ) → n ≡ 0 → cond t (take n l) [] ≡ []
        nothing true n l e = ap (λ (k : ℕ). take k l) e
        nothing false n l e = refl

        go : (t : Bool) → ltb p (pages_of chip) ≡ t → part_of chip image b p ≡ chunk p (stored_parts chip image b (pages_of chip))
        go true e = let below = ltb-true p (pages_of chip) e in part_whole chip image room b p hb below ∙ sym (chunk_stored (pages_of chip) p below (omega arith))
        go false e =
            let past = ltb-false p (pages_of chip) e in
            let all = stored_long chip image room b (pages_of chip) hb (omega arith) in
            nothing (leb ((b * pages_of chip + p) * 2112 + part_length chip p) (length image)) (part_length chip p) (drop ((b * pages_of chip + p) * 2112) image) (omega arith)
            ∙ sym (chunk_past p (stored_parts chip image b (pages_of chip)) (omega arith))

    pub part_size : (p : ℕ) → length (part_of chip image b p) ≡ part_length chip p
    part_size p = ap length (part_chunk p) ∙ chunk_size chip p _ (stored_long chip image room b (pages_of chip) hb (omega arith) ∙ omega arith)

  -- a part that was read, and what was made of it in the first bytes of a buffer
  module _ (b p : ℕ) (hb : b < chip.region) (old : List ℕ) (read : old ≡ part_of chip image b p) where
    pub part_fits : length old ≤ 2048
    part_fits = omega (arith, ap length read ∙ part_size b hb p)

    module _ (out y rest : List ℕ) (long : length out ≡ 2048) (kept : length y ≡ length (mid_of 0 (length old - 0) out)) where
      mid : List ℕ
      mid = mid_of 0 (length old - 0) out

      mid_size : length mid ≡ length old
      unfolding mid
      mid_size = mid_len 0 (length old) out (omega (arith, part_fits)) ∙ omega arith

      -- what was made is taken again
      taken : (z : List ℕ) → y ≡ z → take (length old) (y ++ rest) ≡ z
      unfolding mid
      taken z e = take_at y rest (length old) (kept ∙ mid_size) ∙ e

      pub part_updated : (w new : List ℕ) → length w ≡ bitmap_bytes chip → new ≡ chunk p w → y ≡ updated_into old new (mid_of 0 (length old - 0) out)
          → (length old ≤ 2048) × (take (length old) (y ++ rest) ≡ chunk p (updated_bytes (stored_parts chip image b (pages_of chip)) w))
      unfolding updated_into mid
      part_updated w new hw en ey =
          let same : length new ≡ length mid
          = ap length en ∙ chunk_size chip p w hw ∙ sym (part_size b hb p) ∙ sym (ap length read) ∙ sym mid_size in (
            part_fits,
            taken _ (ey ∙ simp (eq-eqb (length old) (length mid) (sym mid_size), eq-eqb (length new) (length mid) same)
                (ap₂ updated_bytes (read ∙ part_chunk b hb p) en ∙ sym (chunk_updated p (stored_parts chip image b (pages_of chip)) w))),
          )

      pub part_copied : y ≡ copied old (mid_of 0 (length old - 0) out)
          → (length old ≤ 2048) × (take (length old) (y ++ rest) ≡ chunk p (stored_parts chip image b (pages_of chip)))
      unfolding mid
      part_copied ey = (part_fits, taken _ (ey ∙ copied_same old mid mid_size ∙ read ∙ part_chunk b hb p))

      pub part_anded : (x : ℕ) (other : List ℕ) → x < chip.region → other ≡ part_of chip image x p → y ≡ anded_into old other (mid_of 0 (length old - 0) out)
          → (length old ≤ 2048)
          × (take (length old) (y ++ rest) ≡ chunk p (and_bytes (stored_parts chip image b (pages_of chip)) (stored_parts chip image x (pages_of chip))))
      unfolding anded_into mid
      part_anded x other hx eo ey =
          let same : length other ≡ length mid = omega (arith, mid_size, ap length read ∙ part_size b hb p, ap length eo ∙ part_size x hx p) in (
            part_fits,
            taken _ (ey ∙ simp (eq-eqb (length old) (length mid) (sym mid_size), eq-eqb (length other) (length mid) same)
                (ap₂ and_bytes (read ∙ part_chunk b hb p) (eo ∙ part_chunk x hx p)
                ∙ sym (chunk_and p (stored_parts chip image b (pages_of chip)) (stored_parts chip image x (pages_of chip))))),
          )

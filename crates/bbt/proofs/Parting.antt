-- Laws of a page's bytes of a bitmap: those of a bitmap made page by page, and that the update rule and the AND go page by page.
-- Assumes nothing.
use mathlib.Core.List.{List, [], ◌∷◌, ◌++◌}
use mathlib.Core.Path.{◌≡◌, refl, ◌∙◌, ap, sym}
use Prim.Native.Nat.{ℕ, zero, suc, ◌*◌, ◌<◌, ◌≤◌}
use native.Mathlib.Omega.{arith}
use lib.Bits.{bit_and}
use lib.ListN.{length, take, drop, length-drop, drop_of_length-le}
use lib.Seq.{take_all, take-append-le, drop-append-le, drop_at}
use Rattle.bbt.proofs.Bitmaps.{updated_zipped, and_zipped}
use Rattle.bbt.specs.Entries.{updated_byte, updated_bytes, and_bytes}
use Rattle.bbt.specs.Images.{chunk}
use Rattle.bits.proofs.Zipped.{zipped}

-- n full pages, and what comes after them
module _ (n : ℕ) (xs ys : List ℕ) (full : length xs ≡ 2048 * n) where
  pub chunk_before : (p : ℕ) → p < n → chunk p (xs ++ ys) ≡ chunk p xs
  unfolding chunk
  chunk_before p h =
      let left = length-drop (2048 * p) xs in
      ap (take 2048) (drop-append-le (2048 * p) xs ys (omega arith)) ∙ take-append-le 2048 (drop (2048 * p) xs) ys (omega arith)

  pub chunk_next : length ys ≤ 2048 → chunk n (xs ++ ys) ≡ ys
  unfolding chunk
  chunk_next h = ap (take 2048) (drop_at xs ys (2048 * n) full) ∙ take_all 2048 ys h

-- past the end
pub chunk_past : (p : ℕ) (xs : List ℕ) → length xs ≤ 2048 * p → chunk p xs ≡ []
unfolding chunk
chunk_past p xs h = ap (take 2048) (drop_of_length-le xs h)

-- for any f of two bytes
module _ (f : ℕ → ℕ → ℕ) where
  zipped_nil : (xs : List ℕ) → zipped f xs [] ≡ []
  zipped_nil [] = refl
  zipped_nil (x ∷ xs) = refl

  take_zipped : (n : ℕ) (xs ys : List ℕ) → take n (zipped f xs ys) ≡ zipped f (take n xs) (take n ys)
  take_zipped zero xs ys = refl
  take_zipped (suc n) [] ys = refl
  take_zipped (suc n) (x ∷ xs) [] = refl
  take_zipped (suc n) (x ∷ xs) (y ∷ ys) = ap (λ (l : List ℕ). f x y ∷ l) (take_zipped n xs ys)

  drop_zipped : (n : ℕ) (xs ys : List ℕ) → drop n (zipped f xs ys) ≡ zipped f (drop n xs) (drop n ys)
  drop_zipped zero xs ys = refl
  drop_zipped (suc n) [] ys = refl
  drop_zipped (suc n) (x ∷ xs) [] = sym (zipped_nil (drop n xs))
  drop_zipped (suc n) (x ∷ xs) (y ∷ ys) = drop_zipped n xs ys

  chunk_zipped : (p : ℕ) (xs ys : List ℕ) → chunk p (zipped f xs ys) ≡ zipped f (chunk p xs) (chunk p ys)
  unfolding chunk
  chunk_zipped p xs ys = ap (take 2048) (drop_zipped (2048 * p) xs ys) ∙ take_zipped 2048 (drop (2048 * p) xs) (drop (2048 * p) ys)

pub chunk_updated : (p : ℕ) (o w : List ℕ) → chunk p (updated_bytes o w) ≡ updated_bytes (chunk p o) (chunk p w)
chunk_updated p o w = ap (chunk p) (updated_zipped o w) ∙ chunk_zipped updated_byte p o w ∙ sym (updated_zipped (chunk p o) (chunk p w))

pub chunk_and : (p : ℕ) (x y : List ℕ) → chunk p (and_bytes x y) ≡ and_bytes (chunk p x) (chunk p y)
chunk_and p x y = ap (chunk p) (and_zipped x y) ∙ chunk_zipped bit_and p x y ∙ sym (and_zipped (chunk p x) (chunk p y))

-- Laws of two bitmaps taken together: equality, the update rule and the AND go byte by byte.
-- Assumes nothing.
use mathlib.Core.Bool.{false}
use mathlib.Core.List.{List, [], ◌∷◌}
use mathlib.Core.Path.{◌≡◌, refl, ap}
use Prim.Native.Nat.{ℕ}
use native.Mathlib.Omega.{arith}
use lib.Bits.{bit_and}
use lib.Dec.{eqb}
use lib.ListN.{length}
use Rattle.bits.proofs.Gathering.{and_false}
use Rattle.bits.proofs.Zipped.{zipped}
use Rattle.bbt.specs.Entries.{updated_byte, updated_bytes, and_bytes}
use Rattle.bbt.specs.Pairs.{same}

-- lists of different lengths are not the same
pub same_lengths : (x y : List ℕ) → (length x ≡ length y → ⊥) → same x y ≡ false
unfolding same
same_lengths [] [] h = absurd (h refl)
same_lengths [] (v ∷ y) h = refl
same_lengths (u ∷ x) [] h = refl
same_lengths (u ∷ x) (v ∷ y) h = rw (same_lengths x y (λ e. h (omega arith))) (and_false (eqb u v))

pub updated_zipped : (o w : List ℕ) → updated_bytes o w ≡ zipped updated_byte o w
unfolding updated_bytes
updated_zipped [] ws = refl
updated_zipped (o ∷ os) [] = refl
updated_zipped (o ∷ os) (w ∷ ws) = ap (λ (l : List ℕ). updated_byte o w ∷ l) (updated_zipped os ws)

pub and_zipped : (x y : List ℕ) → and_bytes x y ≡ zipped bit_and x y
unfolding and_bytes
and_zipped [] ys = refl
and_zipped (x ∷ xs) [] = refl
and_zipped (x ∷ xs) (y ∷ ys) = ap (λ (l : List ℕ). bit_and x y ∷ l) (and_zipped xs ys)

-- Laws of lists of bytes: the XOR of two, byte by byte, a bit that is flipped twice, and one that is flipped in either of two lists.
-- Assumes nothing.
use mathlib.Core.Path.{◌≡◌, refl, ◌∙◌, ap}
use mathlib.Core.List.{List, [], ◌∷◌, ◌++◌}
use Prim.Native.Nat.{ℕ, zero, suc, ◌+◌, ◌<◌, ◌^◌}
use native.Mathlib.Nat.{zero-add, suc-add}
use native.Mathlib.Omega.{arith}
use lib.Bits.{bit_xor}
use lib.ListN.{length, get_or, set, get_or-append}
use lib.Seq.{set-append_left, set-set, set-get_or, get_or-set_same}
use Rattle.bits.specs.Bytes.{flip_at, xor_bytes}
use Rattle.bits.proofs.Bit.{xor_twice}

pub length_xor : (x y : List ℕ) → length x ≡ length y → length (xor_bytes x y) ≡ length x
unfolding xor_bytes
length_xor [] y e = refl
length_xor (u ∷ x) [] e = absurd (omega arith)
length_xor (u ∷ x) (v ∷ y) e = ap suc (length_xor x y (omega arith))

pub get_d_xor : (x y : List ℕ) (i : ℕ) → length x ≡ length y → get_or (xor_bytes x y) i 0 ≡ bit_xor (get_or x i 0) (get_or y i 0)
unfolding xor_bytes
get_d_xor [] [] i e = refl
get_d_xor [] (v ∷ y) i e = absurd (omega arith)
get_d_xor (u ∷ x) [] i e = absurd (omega arith)
get_d_xor (u ∷ x) (v ∷ y) zero e = refl
get_d_xor (u ∷ x) (v ∷ y) (suc i) e = get_d_xor x y i (omega arith)

pub flip_twice : (l : List ℕ) (a b : ℕ) → a < length l → flip_at (flip_at l a b) a b ≡ l
flip_twice l a b h =
    set-set l a (bit_xor (get_or l a 0) (2 ^ b)) _
    ∙ ap (set l a) (ap (λ (n : ℕ). bit_xor n (2 ^ b)) (get_or-set_same l a (bit_xor (get_or l a 0) (2 ^ b)) 0 h) ∙ xor_twice (get_or l a 0) (2 ^ b))
    ∙ set-get_or l a 0

-- a list and another after it
pub flip_left : (x y : List ℕ) (a b : ℕ) → a < length x → flip_at (x ++ y) a b ≡ flip_at x a b ++ y
flip_left x y a b h = rw (get_or-append x y 0 a h) (set-append_left x y a (bit_xor (get_or x a 0) (2 ^ b)) h)

pub flip_right : (x y : List ℕ) (a b : ℕ) → flip_at (x ++ y) (length x + a) b ≡ x ++ flip_at y a b
flip_right [] y a b = ap (λ (i : ℕ). flip_at y i b) (zero-add a)
flip_right (v ∷ x) y a b =
    ap (λ (i : ℕ). flip_at (v ∷ (x ++ y)) i b) (suc-add (length x) a) ∙ ap (λ (l : List ℕ). v ∷ l) (flip_right x y a b)

-- Laws of `line_sum` and `byte_sum`: each is a XOR over the bytes, to which one byte more adds its own part.
-- Assumes nothing.
use mathlib.Core.Path.{◌≡◌, refl, ◌∙◌, ap, ap₂, sym}
use mathlib.Core.Bool.{Bool, true, false, cond, ◌&&◌, and_comm}
use mathlib.Core.List.{List, [], ◌∷◌, ◌++◌}
use Prim.Native.Nat.{ℕ, suc, ◌+◌, ◌*◌, ◌%◌, ◌<◌}
use native.Mathlib.Nat.{mod-eq_of_lt, zero-add}
use native.Mathlib.Omega.{arith}
use lib.Bits.{bit_and, bit_xor, and_le_l, xor_zero_r}
use lib.ListN.{length, get_or, take}
use lib.Seq.{length-take-le}
use Rattle.std.proofs.lemmas.Grind.{common_steps}
use Rattle.std.proofs.lemmas.List.{take_more}
use Rattle.bits.specs.Bits.{◌⊕◌, bit, number, parity_of}
use Rattle.bits.proofs.Bit.{bit-and, bit_mod, number_bits, number_ext, number_xor, xor_assoc}
use Rattle.bits.proofs.Computed.{below, same, same→eq}
use Rattle.bits.proofs.Parity.{parity_all, parity_xor}
use Rattle.bits.proofs.Sums.{⊕_false}
use Rattle.ecc.specs.Half.{parity}
use Rattle.ecc.specs.Sums.{line_sum, byte_sum, parity_bit}
use Rattle.ecc.proofs.Runs.{run_append}

-- ---- one byte more
-- all of a byte's bits, or none
mask_bit : (k : ℕ) (t : Bool) → k < 8 → bit k (cond t 1 0 * 255) ≡ t
unfolding bit
mask_bit k true h = same→eq _ _ (below (λ k. same (bit k 255) true) 8 tt k h)
mask_bit k false h = same→eq _ _ (below (λ k. same (bit k 0) false) 8 tt k h)

-- the address of a byte of odd parity, or nothing
line_one : (a v : ℕ) → bit_and (a % 256) (parity_bit v * 255) ≡ number 8 (λ k. parity_of 8 (λ b. bit k a) v)
line_one a v =
    sym (number_bits 8 (bit_and (a % 256) mask) ∙ mod-eq_of_lt small)
    ∙ number_ext 8 _ _ (λ k u.
    bit-and k (a % 256) mask ∙ ap₂ ◌&&◌ (bit_mod 8 k a u) (mask_bit k odd u) ∙ and_comm (bit k a) odd ∙ sym (parity_all 8 v (bit k a)))
  where
    odd : Bool
    odd = parity_of 8 (λ b. true) v

    mask : ℕ
    mask = cond odd 1 0 * 255

    small : bit_and (a % 256) mask < 256
    small = omega (arith, and_le_l (a % 256) mask)

pub line_none : line_sum [] ≡ 0
unfolding line_sum parity number
line_none = refl

pub line_more : (l : List ℕ) (i : ℕ) → i < length l
    → line_sum (take (i + 1) l) ≡ bit_xor (line_sum (take i l)) (bit_and (i % 256) (parity_bit (get_or l i 0) * 255))
unfolding line_sum parity
line_more l i h =
    number_ext 8 _ _ (λ k u. bit_more (bit k))
    ∙ sym (ap (bit_xor (line_sum (take i l))) (line_one i v) ∙ number_xor 8 (λ k. parity (λ x y. bit k x) 0 (take i l)) (λ k. parity_of 8 (λ b. bit k i) v))
  where
    v : ℕ
    v = get_or l i 0

    bit_more : (g : ℕ → Bool) → parity (λ x y. g x) 0 (take (i + 1) l) ≡ (parity (λ x y. g x) 0 (take i l) ⊕ parity_of 8 (λ b. g i) v)
    bit_more g =
        ap (parity (λ x y. g x) 0) (take_more l i 0 h) ∙ run_append (λ x y. g x) 0 (take i l) (v ∷ [])
        ∙ ap₂ ◌⊕◌ refl (⊕_false _ ∙ ap (λ (a : ℕ). parity_of 8 (λ b. g a) v) (zero-add _ ∙ length-take-le i l (omega arith)))

sum_append : (l m : List ℕ) → byte_sum (l ++ m) ≡ bit_xor (byte_sum l) (byte_sum m)
unfolding byte_sum
sum_append [] m = refl
sum_append (v ∷ l) m = rw (sum_append l m) (sym (xor_assoc v (byte_sum l) (byte_sum m)))

pub sum_none : byte_sum [] ≡ 0
unfolding byte_sum
sum_none = refl

pub sum_more : (l : List ℕ) (i : ℕ) → i < length l → byte_sum (take (i + 1) l) ≡ bit_xor (byte_sum (take i l)) (get_or l i 0)
unfolding byte_sum
sum_more l i h = rw (take_more l i 0 h, sum_append (take i l) (get_or l i 0 ∷ []), xor_zero_r)

pub ruleset summing = (line_none, line_more, sum_none, sum_more, common_steps)

-- ---- the parity of a sum of bytes is that of the bytes
pub sum_parity : (g : ℕ → Bool) (a : ℕ) (l : List ℕ) → parity_of 8 g (byte_sum l) ≡ parity (λ x y. g y) a l
unfolding parity byte_sum
sum_parity g a [] = unfold parity_of bit in refl
sum_parity g a (v ∷ l) = parity_xor 8 g v (byte_sum l) ∙ ap (λ (t : Bool). parity_of 8 g v ⊕ t) (sum_parity g (suc a) l)

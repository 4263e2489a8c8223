-- Laws of the check bits: each is the parity of a masked number, and they are linear.
-- Assumes nothing.
use mathlib.Core.Path.{◌≡◌, ◌∙◌, ap, sym}
use mathlib.Core.Bool.{Bool, cond}
use Prim.Native.Nat.{ℕ, ◌*◌, ◌%◌, ◌<◌, ◌^◌}
use native.Mathlib.Nat.{mod-lt}
use native.Mathlib.Omega.{arith}
use lib.Bits.{bit_and, bit_xor, and_le_r}
use lib.Count.{ones}
use lib.ListN.{get_or}
use Rattle.bits.specs.Bits.{bit, number, parity_of}
use Rattle.bits.proofs.Bit.{digit, number_lt, number_xor, number_ext}
use Rattle.bits.proofs.Parity.{parity_masked, parity_number, parity_xor}
use Rattle.hamming.specs.Word.{house_numbers, check_bit, check_bits}

-- the data bits that check bit j counts
abbrev pub counted : ℕ → ℕ → Bool
counted j i = bit j (get_or house_numbers i 0)

-- by a mask m of these data bits, the check bit's part of the five
pub check_masked : (j v m : ℕ) → number 26 (counted j) ≡ m → cond (check_bit j v) (2 ^ j) 0 ≡ (ones (bit_and v m) % 2) * 2 ^ j
unfolding check_bit
check_masked j v m e =
    let small : m < 2 ^ 26 = omega (arith, number_lt 26 (counted j)) in
    ap (λ (t : Bool). cond t (2 ^ j) 0)
    (parity_number 26 26 (counted j) v (omega arith) ∙ ap (λ (n : ℕ). parity_of 26 (λ i. bit i n) v) e
    ∙ parity_masked 26 v m (omega (arith, and_le_r v m)))
    ∙ digit (ones (bit_and v m) % 2) (2 ^ j) (mod-lt _ (omega arith))

pub check_xor : (v w : ℕ) → check_bits (bit_xor v w) ≡ bit_xor (check_bits v) (check_bits w)
unfolding check_bits check_bit
check_xor v w = number_ext 5 _ _ (λ j u. parity_xor 26 (counted j) v w) ∙ sym (number_xor 5 (λ j. check_bit j v) (λ j. check_bit j w))

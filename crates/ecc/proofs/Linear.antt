-- The code is linear: its bits are parities, and the XOR of two codes is inverted once more because each is stored inverted.
-- Assumes nothing.
use mathlib.Core.Path.{◌≡◌, refl, ◌∙◌, ap}
use mathlib.Core.Bool.{Bool, true, false, not, ◌||◌}
use mathlib.Core.List.{List}
use Prim.Native.Nat.{ℕ, ◌+◌, ◌-◌}
use native.Mathlib.Omega.{arith}
use lib.Bits.{bit_xor}
use lib.Dec.{ltb}
use lib.ListN.{length}
use Rattle.bits.specs.Bits.{◌⊕◌, number}
use Rattle.bits.specs.Bytes.{xor_bytes}
use Rattle.bits.proofs.Bit.{number_ext, number_not, number_xor}
use Rattle.ecc.specs.Half.{counts, code_bit, code_from, code_of}
use Rattle.ecc.specs.Claims.{xor_inverted, Linear}
use Rattle.ecc.proofs.Runs.{run_xor}

module _ (x y : List ℕ) (e : length x ≡ length y) where
  -- one of the three bytes: bit j holds code bit n j, or is 1 where t j
  byte : (t : ℕ → Bool) (n : ℕ → ℕ)
      → number 8 (λ j. t j || not (code_bit 0 (xor_bytes x y) (n j)))
      ≡ 255 - bit_xor (number 8 (λ j. t j || not (code_bit 0 x (n j)))) (number 8 (λ j. t j || not (code_bit 0 y (n j))))
  unfolding code_bit
  byte t n = omega (arith, number_ext 8 h (λ j. not (f j ⊕ g j)) (λ j u. bits j (t j)), number_not 8 (λ j. f j ⊕ g j), number_xor 8 f g)
    where
      f : ℕ → Bool
      f j = t j || not (code_bit 0 x (n j))

      g : ℕ → Bool
      g j = t j || not (code_bit 0 y (n j))

      h : ℕ → Bool
      h j = t j || not (code_bit 0 (xor_bytes x y) (n j))

      nots : (a b : Bool) → not (a ⊕ b) ≡ not (not a ⊕ not b)
      nots true true = refl
      nots true false = refl
      nots false true = refl
      nots false false = refl

      bits : (j : ℕ) (s : Bool) → (s || not (code_bit 0 (xor_bytes x y) (n j))) ≡ not ((s || not (code_bit 0 x (n j))) ⊕ (s || not (code_bit 0 y (n j))))
      bits j true = refl
      bits j false = ap not (run_xor (counts (n j)) 0 x y e) ∙ nots (code_bit 0 x (n j)) (code_bit 0 y (n j))

  code_xor : code_of (xor_bytes x y) ≡ xor_inverted (code_of x) (code_of y)
  unfolding code_from
  code_xor =
      λ i. record { one = byte (λ j. false) (λ j. j) i; two = byte (λ j. false) (λ j. 8 + j) i; three = byte (λ j. ltb j 2) (λ j. 14 + j) i }

pub code_linear : Linear
code_linear = record { xor = λ x y e. code_xor x y e }

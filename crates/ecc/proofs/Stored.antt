-- Laws of `stored_bit`, byte by byte: three bytes as 22 bits, of a code and of a difference.
-- Assumes nothing.
use mathlib.Core.Path.{◌≡◌, refl, ◌∙◌, ap, ap₂, fun_ext}
use mathlib.Core.Bool.{Bool, true, false, not, cond, ◌||◌}
use mathlib.Core.List.{List}
use Prim.Native.Nat.{ℕ, ◌+◌, ◌-◌, ◌<◌, ◌≤◌}
use native.Mathlib.Omega.{arith}
use borrow.Author.Tests.{ltb-true, ltb-false, le-ltb}
use lib.Bits.{bit_xor}
use lib.Dec.{ltb}
use Rattle.bits.specs.Bits.{◌⊕◌, bit}
use Rattle.bits.proofs.Bit.{bit-xor, bit_number}
use Rattle.ecc.specs.declared.Code.{Code}
use Rattle.ecc.specs.Half.{code_bit, code_from, stored_bit, difference}
use Rattle.ecc.specs.Verdicts.{verdict}

-- two codes XORed, byte by byte
abbrev pub xor_code : Code → Code → Code
xor_code s c = record { one = bit_xor s.one c.one; two = bit_xor s.two c.two; three = bit_xor s.three c.three }

pub stored_xor : (s c : Code) (j : ℕ) → stored_bit (xor_code s c) j ≡ difference s c j
unfolding stored_bit difference
stored_xor s c j = go (ltb j 8) (ltb j 16)
  where
    go : (t u : Bool)
        → cond t (bit j (bit_xor s.one c.one)) (cond u (bit (j - 8) (bit_xor s.two c.two)) (bit (j - 14) (bit_xor s.three c.three)))
        ≡ (cond t (bit j s.one) (cond u (bit (j - 8) s.two) (bit (j - 14) s.three))
        ⊕ cond t (bit j c.one) (cond u (bit (j - 8) c.two) (bit (j - 14) c.three)))
    go true u = bit-xor j s.one c.one
    go false true = bit-xor (j - 8) s.two c.two
    go false false = bit-xor (j - 14) s.three c.three

pub verdict_xor : (s c : Code) → verdict (stored_bit (xor_code s c)) ≡ verdict (difference s c)
verdict_xor s c = ap verdict (fun_ext (stored_xor s c))

-- a run's stored bytes hold its code bits inverted
pub stored-code : (a : ℕ) (l : List ℕ) (j : ℕ) → j < 22 → stored_bit (code_from a l) j ≡ not (code_bit a l j)
unfolding stored_bit code_from
stored-code a l j h = go (ltb j 8) (ltb j 16) refl refl
  where
    C : Code
    C = code_from a l

    go : (t u : Bool) → ltb j 8 ≡ t → ltb j 16 ≡ u → cond t (bit j C.one) (cond u (bit (j - 8) C.two) (bit (j - 14) C.three)) ≡ not (code_bit a l j)
    go true u p q = bit_number 8 j (λ j. not (code_bit a l j)) (ltb-true j 8 p)
    go false true p q =
        let e : 8 + (j - 8) ≡ j = omega (arith, ltb-false) in
        bit_number 8 (j - 8) (λ j. not (code_bit a l (8 + j))) (omega (arith, ltb-true)) ∙ ap (λ (n : ℕ). not (code_bit a l n)) e
    go false false p q =
        let e : 14 + (j - 14) ≡ j = omega (arith, ltb-false) in
        let r : 2 ≤ j - 14 = omega (arith, ltb-false) in
        bit_number 8 (j - 14) (λ j. ltb j 2 || not (code_bit a l (14 + j))) (omega arith)
        ∙ ap₂ (λ (t : Bool) (n : ℕ). t || not (code_bit a l n)) (le-ltb (j - 14) 2 r) e

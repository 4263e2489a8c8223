-- Document 01, "Half-page code": the 22 code bits of a half, and its three stored bytes.
-- Code bits are counted LP0 to LP15, then CP0 to CP5: 0 to 21.
use Rattle.std.specs.Prelude.{Bool, false, not, cond, ◌||◌, List, [], ◌∷◌, ℕ, suc, ◌+◌, ◌-◌, ◌/◌, ltb}
use Rattle.bits.specs.Bits.{◌⊕◌, bit, number, parity_of}
use Rattle.ecc.specs.declared.Code.{Code}

-- the eleven bits of a data bit's place: bits 0 to 7 of its byte's address, then bits 0 to 2 of its number in the byte
unfoldable pub place_bit : ℕ → ℕ → ℕ → Bool
place_bit k a b = cond (ltb k 8) (bit k a) (bit (k - 8) b)

-- code bit 2k is the parity of the data bits whose place has 0 at k, code bit 2k + 1 of those that have 1
unfoldable pub counts : ℕ → ℕ → ℕ → Bool
counts j a b = cond (bit 0 j) (place_bit (j / 2) a b) (not (place_bit (j / 2) a b))

-- the parity of the data bits that g picks, by address and bit number, of bytes that stand from address a on
unfoldable pub parity : (ℕ → ℕ → Bool) → ℕ → List ℕ → Bool
parity g a [] = false
parity g a (v ∷ vs) = parity_of 8 (g a) v ⊕ parity g (suc a) vs

-- code bit j of bytes that stand from address a on, where all others are 0; of a half, a is 0
unfoldable pub code_bit : ℕ → List ℕ → ℕ → Bool
code_bit a run j = parity (counts j) a run

-- stored inverted: byte one LP7..LP0, byte two LP15..LP8, byte three CP5..CP0 in bits 7 to 2 and 1s in bits 1 and 0
unfoldable pub code_from : ℕ → List ℕ → Code
code_from a run =
    record {
      one = number 8 (λ j. not (code_bit a run j));
      two = number 8 (λ j. not (code_bit a run (8 + j)));
      three = number 8 (λ j. ltb j 2 || not (code_bit a run (14 + j)));
    }

-- the code of a half
abbrev pub code_of : List ℕ → Code
code_of half = code_from 0 half

-- code bit j as three bytes hold it, inverted; the two low bits of the third are not among them
unfoldable pub stored_bit : Code → ℕ → Bool
stored_bit c j = cond (ltb j 8) (bit j c.one) (cond (ltb j 16) (bit (j - 8) c.two) (bit (j - 14) c.three))

-- the 22 bits in which a stored and a computed code differ
unfoldable pub difference : Code → Code → ℕ → Bool
difference stored computed j = stored_bit stored j ⊕ stored_bit computed j

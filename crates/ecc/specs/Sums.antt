-- What the code of a half is made from: the XOR of the addresses of the bytes of odd parity, and the XOR of all bytes.
use Rattle.std.specs.Prelude.{not, cond, ◌&&◌, ◌||◌, true, List, [], ◌∷◌, ℕ, ◌+◌, ◌/◌, ◌%◌, eqb, ltb, take, drop}
use Rattle.std.specs.Int.Bits.{bit_xor}
use Rattle.bits.specs.Bits.{◌⊕◌, bit, number, parity_of}
use Rattle.bits.specs.Bytes.{xor_bytes}
use Rattle.ecc.specs.declared.Code.{Code}
use Rattle.ecc.specs.Half.{counts, parity}

-- bit k is the parity of the bits in bytes whose address has bit k set
unfoldable pub line_sum : List ℕ → ℕ
line_sum run = number 8 (λ k. parity (λ a b. bit k a) 0 run)

-- the XOR of all bytes
unfoldable pub byte_sum : List ℕ → ℕ
byte_sum [] = 0
byte_sum (v ∷ vs) = bit_xor v (byte_sum vs)

-- the upper part of a run, from n on, XORed onto its lower part
abbrev pub fold_at : ℕ → List ℕ → List ℕ
fold_at n run = xor_bytes (take n run) (drop n run)

-- 1 for a byte of odd parity, 0 for one of even
abbrev pub parity_bit : ℕ → ℕ
parity_bit v = cond (parity_of 8 (λ b. true) v) 1 0

-- bits 0 to 3 of n at the even places of a byte
unfoldable pub spread_of : ℕ → ℕ
spread_of n = number 8 (λ j. not (bit 0 j) && bit (j / 2) n)

-- four pairs of line parities, inverted: the odd member of pair k is bit k of line, the even one differs from it by the parity of all
unfoldable pub pairs_of : ℕ → ℕ → ℕ
pairs_of line all = number 8 (λ j. not (bit (j / 2) line ⊕ (not (bit 0 j) && eqb all 1)))

-- the column parities of a byte, inverted, above two 1s
unfoldable pub columns_of : ℕ → ℕ
columns_of v = number 8 (λ j. ltb j 2 || not (parity_of 8 (counts (14 + j) 0) v))

-- the stored code from the two sums
unfoldable pub code_from_sums : ℕ → ℕ → Code
code_from_sums line all =
    record {
      one = pairs_of (line % 16) (cond (parity_of 8 (λ b. true) all) 1 0);
      two = pairs_of (line / 16) (cond (parity_of 8 (λ b. true) all) 1 0);
      three = columns_of all;
    }

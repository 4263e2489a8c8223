-- Document 01, "Protected word": 26 data bits in bits 31 to 6, bit 5 unused, 5 check bits in bits 4 to 0.
use Rattle.std.specs.Prelude.{Bool, true, false, cond, List, [], ◌∷◌, ℕ, zero, suc, ◌+◌, ◌*◌, ◌/◌, ◌%◌, ◌^◌, eqb, get_or}
use Rattle.std.specs.Int.Bits.{bit_xor}
use Rattle.std.specs.Int.Count.{ones}
use Rattle.bits.specs.Bits.{bit, number, parity_of}
use Rattle.hamming.specs.declared.Decoded.{Decoded}
use Rattle.hamming.specs.declared.Repair.{Repair}
use Rattle.hamming.specs.declared.Repair.TheVariants.{Clean, CheckBit, DataBit}

-- a power of two has exactly one bit set
abbrev pub power_of_two : ℕ → Bool
power_of_two n = eqb (ones n) 1

-- of the count numbers from n on, those that are not powers of two, in rising order
unfoldable pub not_powers : ℕ → ℕ → List ℕ
not_powers zero n = []
not_powers (suc count) n = cond (power_of_two n) (not_powers count (suc n)) (n ∷ not_powers count (suc n))

-- the house numbering (document 01's own term): data bit 0 upwards get the numbers from 3 to 31 that are not powers of two
unfoldable pub house_numbers : List ℕ
house_numbers = not_powers 29 3

-- check bit j is the odd-or-even sum of the data bits whose number has bit j set
unfoldable pub check_bit : ℕ → ℕ → Bool
check_bit j bits = parity_of 26 (λ i. bit j (get_or house_numbers i 0)) bits

unfoldable pub check_bits : ℕ → ℕ
check_bits bits = number 5 (λ j. check_bit j bits)

-- the word written for 26 data bits: bit 5 is 1
unfoldable pub encoded : ℕ → ℕ
encoded bits = bits % 2 ^ 26 * 64 + 32 + check_bits bits

-- on reading, the recomputed check bits XOR the stored ones give a number
unfoldable pub named : ℕ → ℕ
named word = bit_xor (check_bits (word / 64)) (word % 32)

-- the place of n in a list, or the list's length
unfoldable pub place_in : List ℕ → ℕ → ℕ
place_in [] n = 0
place_in (m ∷ ms) n = cond (eqb m n) 0 (suc (place_in ms n))

-- the data bit that has the number n
unfoldable pub data_bit_of : ℕ → ℕ
data_bit_of n = place_in house_numbers n

-- 0 is clean, a power of two is a check bit in error, any other names the data bit to flip
unfoldable pub decoded_by : ℕ → ℕ → Decoded
decoded_by bits n =
    cond (eqb n 0) (record { bits = bits; repair = Clean })
    (cond (power_of_two n) (record { bits = bits; repair = CheckBit })
    (record { bits = bit_xor bits (2 ^ data_bit_of n); repair = DataBit }))

-- the reading of a word
unfoldable pub decoded : ℕ → Decoded
decoded word = decoded_by (word / 64) (named word)

-- a check bit put right counts as a repair, as a data bit does
abbrev pub is_repair : Repair → Bool
is_repair Clean = false
is_repair CheckBit = true
is_repair DataBit = true

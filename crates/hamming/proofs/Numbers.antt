-- The house numbering backwards: the data bit of a number, in the closed form that the code has.
-- Assumes nothing.
use mathlib.Core.Path.{◌≡◌, refl}
use mathlib.Core.Bool.{cond, ◌||◌}
use Prim.Native.Nat.{ℕ, zero, suc, ◌-◌, ◌<◌}
use native.Mathlib.Omega.{arith}
use borrow.Author.Tests.{lt-leb, ne_eqb}
use lib.Bits.{bit_xor, xor_lt}
use lib.Count.{ones, ones_in}
use lib.Dec.{eqb, eqb→eq, leb, ltb}
use Rattle.std.proofs.lemmas.Bool.Decides.{nat_tests}
use Rattle.bits.proofs.Bit.{one_shifted}
use Rattle.bits.proofs.Computed.{below}
use Rattle.hamming.specs.Word.{power_of_two, not_powers, house_numbers, place_in, data_bit_of}

-- numbers lose one for each power of two below them
abbrev pub placed : ℕ → ℕ
placed n = cond (ltb n 4) 0 (cond (ltb n 8) (n - 4) (cond (ltb n 16) (n - 5) (n - 6)))

pub placed_right : (n : ℕ) → 2 < n → n < 32 → (ones n ≡ 1 → ⊥) → data_bit_of n ≡ placed n
unfolding data_bit_of place_in house_numbers not_powers ones ones_in
placed_right n low high other =
    eqb→eq (data_bit_of n) (placed n)
    (simp (lt-leb n 2 low, ne_eqb (ones n) 1 other) at
    (below (λ n. leb n 2 || (power_of_two n || eqb (data_bit_of n) (placed n))) 32 tt n high))

pub ruleset placing = (placed_right, nat_tests)

-- a number that names a data bit is above 2
pub above_two : (n : ℕ) → (n ≡ 0 → ⊥) → (ones n ≡ 1 → ⊥) → 2 < n
unfolding ones ones_in
above_two zero z o = absurd (z refl)
above_two (suc zero) z o = absurd (o refl)
above_two (suc (suc zero)) z o = absurd (o refl)
above_two (suc (suc (suc n))) z o = omega arith

-- and below 32, as the check bits are
pub named_lt : (x y : ℕ) → x < 32 → y < 32 → bit_xor x y < 32
named_lt x y h l = xor_lt 5 x y h l

pub ruleset naming = (above_two, named_lt, one_shifted)

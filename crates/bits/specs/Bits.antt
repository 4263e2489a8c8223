-- Bits of a number, a number from its bits, and parities. A family of bits is a function `ℕ → Bool`.
use Rattle.std.specs.Prelude.{Bool, true, false, not, cond, ◌&&◌, ℕ, zero, suc, ◌+◌, ◌/◌, ◌%◌, ◌^◌, eqb}

-- the odd-or-even sum of two bits
infixl 30 ◌⊕◌
abbrev pub ◌⊕◌ : Bool → Bool → Bool
true ⊕ b = not b
false ⊕ b = b

-- bit k of n
unfoldable pub bit : ℕ → ℕ → Bool
bit k n = eqb (n / 2 ^ k % 2) 1

-- the number below 2 ^ n whose bit k is f k
unfoldable pub number : ℕ → (ℕ → Bool) → ℕ
number zero f = 0
number (suc n) f = number n f + cond (f n) (2 ^ n) 0

-- the parity (odd-or-even sum) of those of v's n low bits that g picks
unfoldable pub parity_of : ℕ → (ℕ → Bool) → ℕ → Bool
parity_of zero g v = false
parity_of (suc n) g v = (bit n v && g n) ⊕ parity_of n g v

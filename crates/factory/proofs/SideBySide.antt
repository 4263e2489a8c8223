-- Laws of marks side by side in one number: which of them are not 0, byte by byte at once, and four blocks' entries from their flags.
-- Assumes nothing.
use mathlib.Core.Bool.{Bool, true, false, cond, ◌&&◌, ◌||◌}
use mathlib.Core.List.{List, [], ◌∷◌}
use mathlib.Core.Path.{◌≡◌, refl, ◌∙◌}
use Prim.Native.Nat.{ℕ, zero, suc, ◌+◌, ◌*◌, ◌/◌, ◌%◌}
use native.Mathlib.Omega.{arith}
use lib.Bits.{bit_and, bit_or}
use lib.Dec.{T, eqb, eqb→eq}
use lib.ListN.{length}
use Rattle.bits.proofs.Computed.{left, right}
use Rattle.bbt.specs.Entries.{entries_byte, mark_entry}
use Rattle.factory.specs.Marks.{lowest_first, flag}

-- ---- a flag for each byte

-- the number of n bytes that has c in each
abbrev pub each : ℕ → ℕ → ℕ
each c zero = 0
each c (suc n) = each c n * 256 + c

-- the code's step, for a byte or for many: bit 7 of the sum is set where a low bit of the byte is, and of the OR, where any bit of it is
abbrev pub judged : ℕ → ℕ → ℕ → ℕ
judged x low top = bit_and (bit_or (bit_and x low + low) x) top

-- ---- entries from flags

-- a test at every list of n bits
abbrev tested : ℕ → (List Bool → Bool) → Bool
tested zero f = f []
tested (suc n) f = tested n (λ l. f (true ∷ l)) && tested n (λ l. f (false ∷ l))

every : (n : ℕ) (f : List Bool → Bool) → T (tested n f) → (l : List Bool) → length l ≡ n → T (f l)
every zero f t [] e = t
every zero f t (b ∷ l) e = absurd (omega arith)
every (suc n) f t [] e = absurd (omega arith)
every (suc n) f t (true ∷ l) e = every n (λ l. f (true ∷ l)) (left (tested n (λ l. f (true ∷ l))) _ t) l (omega arith)
every (suc n) f t (false ∷ l) e = every n (λ l. f (false ∷ l)) (right (tested n (λ l. f (true ∷ l))) _ t) l (omega arith)

-- the flags of marks, and the entries of their blocks, where a bit tells that a mark is 0
flagged : List Bool → ℕ
flagged [] = 0
flagged (p ∷ l) = flagged l * 256 + cond p 0 1

entries : List Bool → ℕ
entries [] = 0
entries (p ∷ []) = 0
entries (p ∷ q ∷ l) = cond (p || q) 0 3 + 4 * entries l

-- the code's steps: a 1 for each block with both flags, 16 bits apart; 11 for each 1, two and two side by side; then all four
abbrev pub good : ℕ → ℕ
good n = bit_and (bit_and n (n / 256)) 281479271743489

abbrev pub paired : ℕ → ℕ
paired n = bit_or (3 * good n) (3 * good n / 16384)

abbrev pub gathered : ℕ → ℕ
gathered n = bit_or (paired n) (paired n / 268435456) % 256

pub of_flags : (a b c d e f g h : ℕ) → gathered (lowest_first (flag a ∷ flag b ∷ flag c ∷ flag d ∷ flag e ∷ flag f ∷ flag g ∷ flag h ∷ []))
    ≡ entries_byte (mark_entry a b) (mark_entry c d) (mark_entry e f) (mark_entry g h)
unfolding flagged entries
of_flags a b c d e f g h =
    eqb→eq _ _
    (every 8 (λ l. eqb (gathered (flagged l)) (entries l)) tt
    (eqb a 0 ∷ eqb b 0 ∷ eqb c 0 ∷ eqb d 0 ∷ eqb e 0 ∷ eqb f 0 ∷ eqb g 0 ∷ eqb h 0 ∷ []) refl)
    ∙ omega arith

-- Document 01, "Large chip": the entries of a bitmap, the first bitmap, the update rule and the AND of two bitmaps, byte by byte.
use Rattle.std.specs.Prelude.{cond, ◌||◌, List, [], ◌∷◌, ℕ, ◌+◌, ◌*◌, ◌/◌, ◌%◌, ◌^◌, eqb, get_or}
use Rattle.std.specs.Int.Bits.{bit_and}
use Rattle.bits.specs.Bytes.{build}

-- block b's entry: bits 2(b mod 4) and up of byte b/4; 11 good, 10 reserved, 01 late, 00 factory
abbrev pub entry_of : List ℕ → ℕ → ℕ
entry_of bitmap b = get_or bitmap (b / 4) 0 / 4 ^ (b % 4) % 4

-- a byte of four entries, lowest block first
abbrev pub entries_byte : ℕ → ℕ → ℕ → ℕ → ℕ
entries_byte a b c d = a + 4 * b + 16 * c + 64 * d

-- a block's first entry, by the marks on its first and on its second page: 00 when either is 0, otherwise 11
abbrev pub mark_entry : ℕ → ℕ → ℕ
mark_entry first second = cond (eqb first 0 || eqb second 0) 0 3

-- block b's marks are 2b and 2b + 1
abbrev pub first_entry : List ℕ → ℕ → ℕ
first_entry marks b = mark_entry (get_or marks (2 * b) 0) (get_or marks (2 * b + 1) 0)

unfoldable pub first_byte : List ℕ → ℕ → ℕ
first_byte marks k =
    entries_byte (first_entry marks (4 * k)) (first_entry marks (4 * k + 1)) (first_entry marks (4 * k + 2)) (first_entry marks (4 * k + 3))

-- of n blocks' marks
abbrev pub first_bitmap : ℕ → List ℕ → List ℕ
first_bitmap n marks = build (first_byte marks) (n / 4)

-- the update rule: the old entry where that isn't 11, else the wanted one
unfoldable pub updated_entry : ℕ → ℕ → ℕ
updated_entry old wanted = cond (eqb old 3) wanted old

unfoldable pub updated_byte : ℕ → ℕ → ℕ
updated_byte o w =
    entries_byte (updated_entry (o % 4) (w % 4)) (updated_entry (o / 4 % 4) (w / 4 % 4)) (updated_entry (o / 16 % 4) (w / 16 % 4))
    (updated_entry (o / 64 % 4) (w / 64 % 4))

unfoldable pub updated_bytes : List ℕ → List ℕ → List ℕ
updated_bytes [] ws = []
updated_bytes (o ∷ os) [] = []
updated_bytes (o ∷ os) (w ∷ ws) = updated_byte o w ∷ updated_bytes os ws

-- both bitmaps ANDed
unfoldable pub and_bytes : List ℕ → List ℕ → List ℕ
and_bytes [] ys = []
and_bytes (x ∷ xs) [] = []
and_bytes (x ∷ xs) (y ∷ ys) = bit_and x y ∷ and_bytes xs ys

-- Words of four bytes, big endian, and lists of bytes: built place by place, copied, with a flipped bit, and the XOR of two.
use Rattle.std.specs.Prelude.{cond, List, [], ◌∷◌, ◌++◌, ℕ, zero, suc, ◌+◌, ◌*◌, ◌/◌, ◌%◌, ◌^◌, eqb, length, get_or, set}
use Rattle.std.specs.Int.Bits.{bit_xor}

-- the number of four bytes, highest first
abbrev pub word : ℕ → ℕ → ℕ → ℕ → ℕ
word a b c d = ((a * 256 + b) * 256 + c) * 256 + d

-- byte k of a word, counted from the lowest
abbrev pub byte_of : ℕ → ℕ → ℕ
byte_of k w = w / 256 ^ k % 256

-- the four bytes of a word, highest first
abbrev pub word_bytes : ℕ → List ℕ
word_bytes w = byte_of 3 w ∷ byte_of 2 w ∷ byte_of 1 w ∷ byte_of 0 w ∷ []

-- the list of f at each place below n
unfoldable pub build : (ℕ → ℕ) → ℕ → List ℕ
build f zero = []
build f (suc n) = build f n ++ (f n ∷ [])

-- a list after another of its length was copied into it; of another length, nothing is
unfoldable pub copied : List ℕ → List ℕ → List ℕ
copied from to = cond (eqb (length to) (length from)) from to

-- a list of bytes with bit b of the byte at place a flipped
abbrev pub flip_at : List ℕ → ℕ → ℕ → List ℕ
flip_at bytes a b = set bytes a (bit_xor (get_or bytes a 0) (2 ^ b))

-- the XOR of two lists, byte by byte
unfoldable pub xor_bytes : List ℕ → List ℕ → List ℕ
xor_bytes [] ys = []
xor_bytes (x ∷ xs) [] = []
xor_bytes (x ∷ xs) (y ∷ ys) = bit_xor x y ∷ xor_bytes xs ys

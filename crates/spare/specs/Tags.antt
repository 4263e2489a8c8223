-- Document 01, "Tags": the seven tag bytes, and the tag that a byte stands for.
use Rattle.std.specs.Prelude.{Bool, true, false, cond, ◌&&◌, ◌||◌, List, [], ◌∷◌, ◌≡◌, ℕ, zero, suc, ◌+◌, ◌<◌, ◌≤◌, eqb, leb, Option, Some, None}
use Rattle.std.specs.Int.Bits.{bit_xor}
use Rattle.std.specs.Int.Count.{ones}

-- free, log-copying, log, data-copying, data, boot-copying, boot
abbrev pub tags : List ℕ
tags = 0xFF ∷ 0x67 ∷ 0x06 ∷ 0x79 ∷ 0x18 ∷ 0x1F ∷ 0x01 ∷ []

-- the number of bits in which two bytes differ
abbrev pub distance : ℕ → ℕ → ℕ
distance a b = ones (bit_xor a b)

-- a byte at most one bit from a tag is that tag
unfoldable pub nearest : List ℕ → ℕ → Option ℕ
nearest [] b = None
nearest (t ∷ ts) b = cond (leb (distance t b) 1) (Some t) (nearest ts b)

-- is t one of a list?
unfoldable pub is_in : List ℕ → ℕ → Bool
is_in [] t = false
is_in (u ∷ us) t = eqb u t || is_in us t

-- ---- what the table shows
-- every tag of a list is at least 3 bits from t
unfoldable pub apart_from : ℕ → List ℕ → Bool
apart_from t [] = true
apart_from t (u ∷ us) = leb 3 (distance t u) && apart_from t us

unfoldable pub all_apart : List ℕ → Bool
all_apart [] = true
all_apart (t ∷ ts) = apart_from t ts && all_apart ts

-- how many of the bytes below n are a tag
unfoldable pub is_found : Option ℕ → ℕ
is_found (Some t) = 1
is_found None = 0

unfoldable pub bytes_found : ℕ → ℕ
bytes_found zero = 0
bytes_found (suc n) = is_found (nearest tags n) + bytes_found n

pub record TagTable : Type 0 where
  -- any two differ in at least 3 bits
  pub apart : all_apart tags ≡ true
  -- 63 bytes are a tag, the other 193 are refused
  pub counted : bytes_found 256 ≡ 63
  pub refused : 193 + bytes_found 256 ≡ 256
  -- each tag is itself
  pub itself : (t : ℕ) → is_in tags t ≡ true → nearest tags t ≡ Some t
  -- a byte at most one bit from a tag is that tag
  pub near : (t b : ℕ) → b < 256 → is_in tags t ≡ true → distance t b ≤ 1 → nearest tags b ≡ Some t
  -- and no other byte is
  pub only : (t b : ℕ) → nearest tags b ≡ Some t → (is_in tags t ≡ true) × (distance t b ≤ 1)

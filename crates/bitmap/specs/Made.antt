-- What the functions over bitmaps answer and leave, at every input.
use Rattle.std.specs.Prelude.{Bool, cond, ◌&&◌, List, ◌≢◌, ◌≡◌, ◌⊎◌, ℕ, ◌^◌, ◌<◌, eqb, length, get_or}
use Rattle.std.specs.List.{list_all, zip}
use Rattle.bbt.specs.Entries.{updated_bytes, and_bytes}
use Rattle.bbt.specs.Pairs.{same}

-- the update rule changes no entry
unfoldable pub new_equals_old : List ℕ → List ℕ → Bool
new_equals_old old wanted = same (updated_bytes old wanted) old

-- three lists of one length
abbrev pub one_length : List ℕ → List ℕ → List ℕ → Bool
one_length a b c = eqb (length a) (length c) && eqb (length b) (length c)

unfoldable pub updated_into : List ℕ → List ℕ → List ℕ → List ℕ
updated_into old wanted out = cond (one_length old wanted out) (updated_bytes old wanted) out

unfoldable pub anded_into : List ℕ → List ℕ → List ℕ → List ℕ
anded_into a b out = cond (one_length a b out) (and_bytes a b) out

-- ---- what the private functions are asked for
-- a function that takes two bytes gives what f gives
abbrev pub Gives : (ℕ → ℕ → ℕ → Type 0) → (ℕ → ℕ → ℕ) → Type 0
Gives post f = (x y r : ℕ) → x < 2 ^ 8 → y < 2 ^ 8 → post x y r → r ≡ f x y

-- f gives 0 for each two bytes
abbrev pub no_difference : (ℕ → ℕ → ℕ) → List ℕ → List ℕ → Bool
no_difference f a b = list_all (λ (x, y). eqb (f x y) 0) (zip a b)

-- `out` after f of the bytes at each place was put into it, where all three are of one length; of other lengths, nothing is
pub record PutInto (f : ℕ → ℕ → ℕ) (a b out after : List ℕ) : Type 0 where
  pub long : length after ≡ length out
  pub each : length a ≡ length out → length b ≡ length out → (k : ℕ) → k < length out → get_or after k 0 ≡ f (get_or a k 0) (get_or b k 0)
  pub nothing : (length a ≢ length out) ⊎ (length b ≢ length out) → after ≡ out

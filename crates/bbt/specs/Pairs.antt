-- Document 01: the pair of tables and its case, by how many good copies there are of each kind, the version difference d and the bitmaps.
use Rattle.std.specs.Prelude.{Bool, true, false, cond, ◌&&◌, List, [], ◌∷◌, ℕ, zero, suc, ◌+◌, ◌-◌, ◌%◌, eqb, ltb, ℤ, pos, negsuc}
use Rattle.chip.specs.Large.{pages_of}
use Rattle.chip.specs.declared.LargeChip.{LargeChip}
use Rattle.chip.specs.declared.Refusal.{Refusal}
use Rattle.chip.specs.declared.Refusal.TheVariants.{NoCopy, SeveralCopies, Opposite}
use Rattle.bbt.specs.declared.Kind.{Kind}
use Rattle.bbt.specs.declared.Kind.TheVariants.{Primary, Mirror}
use Rattle.bbt.specs.Copies.{Table, table, good, Found, nowhere, only, several, find}
use Rattle.bbt.specs.Pages.{View}

-- equal bytes
unfoldable pub same : List ℕ → List ℕ → Bool
same [] [] = true
same [] (y ∷ ys) = false
same (x ∷ xs) [] = false
same (x ∷ xs) (y ∷ ys) = eqb x y && same xs ys

-- a number below 256 as a signed one from −128 to 127; negsuc n is −(n + 1)
unfoldable pub signed_of : ℕ → ℤ
signed_of u = cond (ltb u 128) (pos u) (negsuc (255 - u))

-- d: primary version minus mirror version, modulo 256, read as a signed number
unfoldable pub difference : ℕ → ℕ → ℤ
difference p m = signed_of ((p + 256 - m) % 256)

-- the pair's case; blocks are region blocks
pub data Case : Type 0 where
  -- refusal 8, 7 or 9
  no_pair : Refusal → Case
  -- only one kind is good
  alone : Kind → ℕ → Case
  -- both good, d = 0, bitmaps equal
  settled : ℕ → ℕ → Case
  -- both good, d = 0, bitmaps differ
  merging : ℕ → ℕ → Case
  -- both good, d from −127 to 127 and not 0
  differing : ℤ → ℕ → ℕ → Case

-- both good: d and the bitmaps decide
unfoldable pub both_case : ℤ → Bool → ℕ → ℕ → Case
both_case (pos zero) equal p m = cond equal (settled p m) (merging p m)
both_case (pos (suc n)) equal p m = differing (pos (suc n)) p m
both_case (negsuc n) equal p m = cond (eqb n 127) (no_pair Opposite) (differing (negsuc n) p m)

-- two tables compared
unfoldable pub compared : Table → Table → ℕ → ℕ → Case
compared x y p m = both_case (difference x.version y.version) (same x.bitmap y.bitmap) p m

-- from what was found of each kind: 8 before 7
unfoldable pub case_of : ℕ → View → Found → Found → Case
case_of P R several m = no_pair SeveralCopies
case_of P R nowhere several = no_pair SeveralCopies
case_of P R (only p) several = no_pair SeveralCopies
case_of P R nowhere nowhere = no_pair NoCopy
case_of P R (only p) nowhere = alone Primary p
case_of P R nowhere (only m) = alone Mirror m
case_of P R (only p) (only m) = compared (table P R p) (table P R m) p m

-- the blocks that hold a good copy of a kind
abbrev pub copies : LargeChip → View → Kind → Found
copies chip R k = find chip.region (good (pages_of chip) R k)

unfoldable pub pair_case : LargeChip → View → Case
pair_case chip R = case_of (pages_of chip) R (copies chip R Primary) (copies chip R Mirror)

-- Document 02, T-01: the map of the boot blocks, from what each block tells.
use Rattle.std.specs.Prelude.{Bool, true, false, cond, List, [], ◌∷◌, ◌++◌, ℕ, zero, suc, eqb, leb, ltb, length, Some, None, Result, Ok, Err}
use Rattle.chip.specs.Boot.{follows}
use Rattle.chip.specs.declared.ChipBlock.{ChipBlock}
use Rattle.chip.specs.declared.Generation.{Generation}
use Rattle.boot.specs.Counting.{Counted}
use Rattle.boot.specs.declared.Listing.{Listing}
use Rattle.boot.specs.declared.Listing.TheVariants.{ToMap, ToErase}
use Rattle.boot.specs.declared.MapCounts.{MapCounts}
use Rattle.boot.specs.declared.MapRefusal.{MapRefusal}
use Rattle.boot.specs.declared.MapRefusal.TheVariants.{OutOfOrder}
use Rattle.boot.specs.declared.Standing.{Standing}
use Rattle.boot.specs.declared.Standing.TheVariants.{Missing, One, Pair, Wrong}

-- what each block tells, by its place in the input
abbrev pub Blocks : Type 0
Blocks = ℕ → Counted

-- a block that carries a boot number, with its generation
pub record Copy : Type 0 where
  pub block : ChipBlock
  pub generation : Generation

-- block b as a copy of boot number k, if it is one
abbrev pub copy_of : ℕ → ℕ → Counted → List Copy
copy_of k b None = []
copy_of k b (Some (m, g)) = cond (eqb m.0 k) (record { block = record { 0 = b }; generation = g } ∷ []) []

-- the copies of boot number k among the first n blocks
unfoldable pub copies : Blocks → ℕ → ℕ → List Copy
copies blocks zero k = []
copies blocks (suc n) k = copies blocks n k ++ copy_of k n (blocks n)

-- two blocks with one boot number and generations g and g + 1 modulo 4: the older is kept, the newer named for erasing; any other pair is wrong
abbrev pub of_two : Copy → Copy → Standing
of_two a b =
    cond (follows b.generation a.generation) (Pair a.block b.block)
    (cond (follows a.generation b.generation) (Pair b.block a.block) Wrong)

-- how a boot number stands: with no copy, with one, with two, or with three or more
abbrev pub of_copies : List Copy → Standing
of_copies [] = Missing
of_copies (a ∷ []) = One a.block a.generation
of_copies (a ∷ b ∷ []) = of_two a b
of_copies (a ∷ b ∷ c ∷ more) = Wrong

unfoldable pub standing : Blocks → ℕ → ℕ → Standing
standing blocks n k = of_copies (copies blocks n k)

-- a number that is missing or wrong is out of order
abbrev pub in_order : Standing → Bool
in_order Missing = false
in_order (One b g) = true
in_order (Pair older newer) = true
in_order Wrong = false

-- one above the highest boot number found; 0 where there is no boot block at all
abbrev pub above_with : ℕ → Counted → ℕ
above_with m None = m
above_with m (Some (k, g)) = cond (leb m k.0) (suc k.0) m

unfoldable pub above : Blocks → ℕ → ℕ
above blocks zero = 0
above blocks (suc n) = above_with (above blocks n) (blocks n)

-- the smallest of the n numbers from k on at which f does not hold; k + n where it holds at all
unfoldable pub first_not : (ℕ → Bool) → ℕ → ℕ → ℕ
first_not f k zero = k
first_not f k (suc n) = cond (f k) (first_not f (suc k) n) k

-- the smallest boot number from 0 to the highest found that is out of order; one above the highest where there is none
unfoldable pub smallest_out : Blocks → ℕ → ℕ
smallest_out blocks n = first_not (λ k. in_order (standing blocks n k)) 0 (above blocks n)

-- what a boot number brings to the mapped blocks, and to those that are to be erased
abbrev pub entry_of : Listing → Standing → List ChipBlock
entry_of ToMap Missing = []
entry_of ToMap (One b g) = b ∷ []
entry_of ToMap (Pair older newer) = older ∷ []
entry_of ToMap Wrong = []
entry_of ToErase Missing = []
entry_of ToErase (One b g) = []
entry_of ToErase (Pair older newer) = newer ∷ []
entry_of ToErase Wrong = []

-- either list, of the numbers below m, in boot order
unfoldable pub listed : Listing → (ℕ → Standing) → ℕ → List ChipBlock
listed l f zero = []
listed l f (suc m) = listed l f m ++ entry_of l (f m)

unfoldable pub list_of : Listing → Blocks → ℕ → List ChipBlock
list_of l blocks n = listed l (standing blocks n) (above blocks n)

-- the map of n blocks: both counts, or refusal 13 with the smallest number that is out of order
unfoldable pub map_of : Blocks → ℕ → Result MapCounts MapRefusal
map_of blocks n =
    cond (ltb (smallest_out blocks n) (above blocks n))
    (Err (OutOfOrder (record { 0 = smallest_out blocks n })))
    (Ok (record { mapped = length (list_of ToMap blocks n); erased = length (list_of ToErase blocks n) }))

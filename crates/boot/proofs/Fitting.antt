-- Every boot number has its own blocks, so the numbers that are in order are no more than the blocks, and neither are the blocks that are listed.
-- Assumes nothing.
use mathlib.Core.Bool.{true, cond, false≢true}
use mathlib.Core.List.{List, [], ◌∷◌}
use mathlib.Core.Logic.{◌⊎◌, inr}
use mathlib.Core.Path.{◌≡◌, refl}
use Prim.Native.Nat.{ℕ, zero, suc, ◌+◌, ◌<◌, ◌≤◌}
use native.Mathlib.Omega.{arith}
use lib.Dec.{ltb}
use lib.ListN.{length, length-append}
use Rattle.std.proofs.lemmas.Bool.Decides.{nat_tests}
use Rattle.std.specs.Prelude.{Some, None}
use Rattle.boot.specs.declared.Listing.TheVariants.{ToMap, ToErase}
use Rattle.boot.specs.Counting.{Counted}
use Rattle.boot.specs.Mapping.{Blocks, Copy, copy_of, copies, of_copies, standing, in_order, above_with, above, entry_of, listed, list_of}

-- how many of the first n blocks count with a number below m
abbrev lesser : ℕ → Counted → ℕ
lesser m None = 0
lesser m (Some (k, g)) = cond (ltb k.0 m) 1 0

unfoldable below : Blocks → ℕ → ℕ → ℕ
below blocks m zero = 0
below blocks m (suc n) = below blocks m n + lesser m (blocks n)

-- a block adds one at most
lesser_one : (m : ℕ) (c : Counted) → lesser m c ≤ 1
lesser_one m None = omega arith
lesser_one m (Some (k, g)) = grind (arith, nat_tests)

below_all : (blocks : Blocks) (m n : ℕ) → below blocks m n ≤ n
unfolding below
below_all blocks m zero = omega arith
below_all blocks m (suc n) = omega (arith, below_all blocks m n, lesser_one m (blocks n))

-- up to number m itself, its copies are added
lesser_next : (m b : ℕ) (c : Counted) → lesser (suc m) c ≡ lesser m c + length (copy_of m b c)
lesser_next m b None = refl
lesser_next m b (Some (k, g)) = grind (arith, nat_tests)

below_next : (blocks : Blocks) (m n : ℕ) → below blocks (suc m) n ≡ below blocks m n + length (copies blocks n m)
unfolding below copies
below_next blocks m zero = refl
below_next blocks m (suc n) =
    omega (arith, below_next blocks m n, lesser_next m n (blocks n), length-append (copies blocks n m) (copy_of m n (blocks n)))

-- a number that is in order has a copy
in_order_copy : (c : List Copy) → in_order (of_copies c) ≡ true → 1 ≤ length c
in_order_copy [] e = absurd (false≢true e)
in_order_copy (a ∷ c) e = omega arith

-- so the numbers below m have m blocks
below_enough : (blocks : Blocks) (n m : ℕ) → ((k : ℕ) → k < m → in_order (standing blocks n k) ≡ true) → m ≤ below blocks m n
unfolding standing
below_enough blocks n zero all = omega arith
below_enough blocks n (suc m) all =
    omega (arith, below_enough blocks n m (λ k l. all k (omega arith)), below_next blocks m n, in_order_copy (copies blocks n m) (all m (omega arith)))

-- and where a higher number is found, a block with it is not among them
lesser_high : (m a : ℕ) (c : Counted) → m < above_with a c → (m < a) ⊎ (lesser m c ≡ 0)
lesser_high m a None h = inr refl
lesser_high m a (Some (k, g)) h = grind (arith, nat_tests)

below_some : (blocks : Blocks) (m n : ℕ) → m < above blocks n → below blocks m n < n
unfolding below above
below_some blocks m zero h = absurd (omega arith)
below_some blocks m (suc n) h =
    grind (arith, below_some blocks m n, below_all blocks m n, lesser_one m (blocks n), lesser_high m (above blocks n) (blocks n) h)

-- where the numbers below m are in order, and a higher one is found, there are more than m blocks
pub fits : (blocks : Blocks) (n m : ℕ) → ((k : ℕ) → k < m → in_order (standing blocks n k) ≡ true) → m < above blocks n → m < n
fits blocks n m all h = omega (arith, below_enough blocks n m all, below_some blocks m n h)

-- ---- the blocks that are listed
-- a number brings no more of them than it has copies
entries_few : (c : List Copy) → length (entry_of ToMap (of_copies c)) + length (entry_of ToErase (of_copies c)) ≤ length c
entries_few [] = omega arith
entries_few (a ∷ []) = omega arith
entries_few (a ∷ b ∷ []) = grind arith
entries_few (a ∷ b ∷ c ∷ more) = omega arith

listed_below : (blocks : Blocks) (n m : ℕ) → length (listed ToMap (standing blocks n) m) + length (listed ToErase (standing blocks n) m) ≤ below blocks m n
unfolding listed standing
listed_below blocks n zero = omega arith
listed_below blocks n (suc m) =
    omega (
      arith,
      listed_below blocks n m,
      below_next blocks m n,
      entries_few (copies blocks n m),
      length-append (listed ToMap (standing blocks n) m) (entry_of ToMap (of_copies (copies blocks n m))),
      length-append (listed ToErase (standing blocks n) m) (entry_of ToErase (of_copies (copies blocks n m))),
    )

pub listed_fits : (blocks : Blocks) (n : ℕ) → length (list_of ToMap blocks n) + length (list_of ToErase blocks n) ≤ n
unfolding list_of
listed_fits blocks n = omega (arith, listed_below blocks n (above blocks n), below_all blocks (above blocks n) n)

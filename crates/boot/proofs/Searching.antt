-- Laws of `first_not`, the search for the smallest number at which f does not hold: f holds before what it finds and not there, and of one
-- number alone is that so.
-- Assumes nothing.
use mathlib.Core.Bool.{Bool, true, false}
use mathlib.Core.Path.{◌≡◌, refl}
use Prim.Native.Nat.{ℕ, zero, suc, ◌+◌, ◌<◌, ◌≤◌}
use native.Mathlib.Omega.{arith}
use Rattle.boot.specs.Mapping.{Blocks, standing, in_order, above, first_not, smallest_out}

-- f holds at the numbers before what is found, and not at what is found
pub first_not_holds : (f : ℕ → Bool) (k n j : ℕ) → k ≤ j → j < first_not f k n → f j ≡ true
unfolding first_not
first_not_holds f k zero j h l = absurd (omega arith)
first_not_holds f k (suc n) j h l = grind (arith, first_not_holds f (suc k) n j)

pub first_not_fails : (f : ℕ → Bool) (k n : ℕ) → first_not f k n < k + n → f (first_not f k n) ≡ false
unfolding first_not
first_not_fails f k zero h = absurd (omega arith)
first_not_fails f k (suc n) h = grind (arith, first_not_fails f (suc k) n)

-- and only one number is so
pub first_not_is : (f : ℕ → Bool) (k n m : ℕ) → k ≤ m → m ≤ k + n → ((j : ℕ) → j < m → f j ≡ true) → (m < k + n → f m ≡ false) → first_not f k n ≡ m
unfolding first_not
first_not_is f k zero m h l before at = omega arith
first_not_is f k (suc n) m h l before at = grind (arith, before k, at, λ (q : k < m). first_not_is f (suc k) n m q (omega arith) before (λ i. at (omega arith)))

-- of two tests that are the same at the numbers asked
pub first_not_same : (f g : ℕ → Bool) (k n : ℕ) → ((i : ℕ) → i < k + n → f i ≡ g i) → first_not f k n ≡ first_not g k n
unfolding first_not
first_not_same f g k zero h = refl
first_not_same f g k (suc n) h = rw (h k (omega arith), first_not_same f g (suc k) n (λ i b. h i (omega arith))) refl

-- the smallest number out of order is out of order, and those below it are in order
module _ (blocks : Blocks) (n : ℕ) where
  pub smallest_out_below : (k : ℕ) → k < smallest_out blocks n → in_order (standing blocks n k) ≡ true
  unfolding smallest_out
  smallest_out_below k l = first_not_holds (λ k. in_order (standing blocks n k)) 0 (above blocks n) k (omega arith) l

  pub smallest_out_out : smallest_out blocks n < above blocks n → in_order (standing blocks n (smallest_out blocks n)) ≡ false
  unfolding smallest_out
  smallest_out_out l = first_not_fails (λ k. in_order (standing blocks n k)) 0 (above blocks n) (omega arith)

-- A block carries one number, with one generation. So no number is both in order and out of order; and `above` is one above the highest
-- number that a block carries.
-- Assumes nothing.
use mathlib.Core.Bool.{Bool, true, false, cond}
use mathlib.Core.Logic.{◌⊎◌, inl, inr}
use mathlib.Core.Path.{◌≡◌}
use Prim.Native.Nat.{ℕ, zero, suc, ◌<◌, ◌≤◌}
use native.Mathlib.Omega.{arith}
use lib.Dec.{leb}
use Rattle.std.proofs.lemmas.Bool.Decides.{nat_tests}
use Rattle.std.specs.Prelude.{Some, None}
use Rattle.chip.specs.declared.BootNumber.{BootNumber}
use Rattle.chip.specs.declared.Generation.{Generation}
use Rattle.boot.specs.Counting.{Counted}
use Rattle.boot.specs.Loader.{Carries, Ordered, Disordered, one, two, missing, doubled, tripled, Highest}
use Rattle.boot.specs.Mapping.{Blocks, above_with, above}

-- ---- one block
module _ {blocks : Blocks} {n k m b g h : ℕ} (c : Carries blocks n k b g) (d : Carries blocks n m b h) where
  pub carries_number : k ≡ m
  carries_number = grind (arith, c.told, d.told)

  pub carries_generation : g ≡ h
  carries_generation = grind (arith, c.told, d.told)

-- among more blocks
carries_more : {blocks : Blocks} {n k b g : ℕ} → Carries blocks n k b g → Carries blocks (suc n) k b g
carries_more c = record { below = omega (arith, c.below); told = c.told }

-- ---- in order and out of order, of the same carriers
pub ordered_either : {blocks : Blocks} {n k : ℕ} → Ordered blocks n k → Disordered blocks n k → ⊥
ordered_either (one a g c o) (missing m) = m a g c
ordered_either (one a g c o) (doubled x y h i l p q r s) = omega (arith, o x h p, o y i q)
ordered_either (one a g c o) (tripled x y z e f h l m p q r) = omega (arith, o x e p, o y f q)
ordered_either (two a b g c d o) (missing m) = m a g c
ordered_either (two a b g c d o) (doubled x y h i l p q r s) = grind (arith, c.told, d.told, p.told, q.told, o x h p, o y i q, r, s)
ordered_either (two a b g c d o) (tripled x y z e f h l m p q r) = grind (arith, o x e p, o y f q, o z h r)

-- ---- one above the highest
-- one block more: its own number is below, what was below stays below, and the highest is its own or an earlier one
above_with_own : (m : ℕ) (k : BootNumber) (g : Generation) → k.0 < above_with m (Some (k, g))
above_with_own m k g = grind (arith, nat_tests)

above_with_more : (m : ℕ) (c : Counted) → m ≤ above_with m c
above_with_more m None = omega arith
above_with_more m (Some (k, g)) = grind (arith, nat_tests)

above_with_from : (m k : ℕ) (c : Counted) → above_with m c ≡ suc k → (m ≡ suc k) ⊎ ((g : ℕ) × (c ≡ Some (record { 0 = k }, record { 0 = g })))
above_with_from m k None e = inl e
above_with_from m k (Some (j, g)) e = go (leb m j.0) e
  where
    go : (t : Bool) → cond t (suc j.0) m ≡ suc k → (m ≡ suc k) ⊎ ((x : ℕ) × (◌≡◌ {A = Counted} (Some (j, g)) (Some (record { 0 = k }, record { 0 = x }))))
    go true q = inr (g.0, grind arith)
    go false q = inl q

-- all blocks
pub above_every : (blocks : Blocks) (n k b g : ℕ) → Carries blocks n k b g → k < above blocks n
unfolding above
above_every blocks zero k b g c = absurd (omega (arith, c.below))
above_every blocks (suc n) k b g c = grind (arith, nat_tests, c.told, c.below, above_with_own, above_with_more, λ (l : b < n). above_every blocks n k b g (record { below = l; told = c.told }))

above_found : (blocks : Blocks) (n k : ℕ) → above blocks n ≡ suc k → (b : ℕ) × (g : ℕ) × Carries blocks n k b g
unfolding above
above_found blocks zero k e = absurd (omega arith)
above_found blocks (suc n) k e = go (above_found blocks n k) (above_with_from (above blocks n) k (blocks n) e)
  where
    go : (above blocks n ≡ suc k → (b : ℕ) × (g : ℕ) × Carries blocks n k b g)
        → (above blocks n ≡ suc k) ⊎ ((g : ℕ) × (blocks n ≡ Some (record { 0 = k }, record { 0 = g }))) → (b : ℕ) × (g : ℕ) × Carries blocks (suc n) k b g
    go rec (inl q) = let r = rec q in (r.0, r.1, carries_more r.2)
    go rec (inr t) = (n, t.0, record { below = omega arith; told = t.1 })

pub above_highest : (blocks : Blocks) (n : ℕ) → Highest blocks n
above_highest blocks n = record { every = above_every blocks n; found = above_found blocks n }

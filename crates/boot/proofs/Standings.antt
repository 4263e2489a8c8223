-- How a boot number stands says which blocks carry it: in order with one block or two, or out of order.
-- Assumes nothing.
use mathlib.Core.Bool.{Bool, true, false, true≢false, false≢true}
use mathlib.Core.List.{List, [], ◌∷◌}
use mathlib.Core.Logic.{◌⊎◌, ⊎_swap}
use mathlib.Core.Path.{◌≡◌, refl}
use Prim.Native.Nat.{ℕ, ◌+◌, ◌%◌}
use native.Mathlib.Omega.{arith}
use borrow.Author.Tests.{eqb-true, eqb-false}
use lib.Dec.{eqb}
use Rattle.std.proofs.lemmas.Grind.{common_steps}
use Rattle.chip.specs.Boot.{follows}
use Rattle.chip.specs.declared.ChipBlock.{ChipBlock}
use Rattle.chip.specs.declared.Generation.{Generation}
use Rattle.boot.specs.declared.Standing.{Standing}
use Rattle.boot.specs.declared.Standing.TheVariants.{Missing, One, Pair, Wrong}
use Rattle.boot.specs.Loader.{Carries, Only, Ordered, Disordered, one, two, missing, doubled, tripled}
use Rattle.boot.specs.Mapping.{Blocks, Copy, copies, of_two, of_copies, standing, in_order}
use Rattle.boot.proofs.Copies.{Held, copies_held}

module _ (blocks : Blocks) (n k : ℕ) where
  -- number k stands so: the blocks that carry it
  pub data Stands : Standing → Type 0 where
    no_block : Only blocks n k (λ b. ⊥) → Stands Missing
    one_block : {a : ChipBlock} {g : Generation} → Carries blocks n k a.0 g.0 → Only blocks n k (λ b. b ≡ a.0) → Stands (One a g)
    two_blocks : {older newer : ChipBlock} (g : ℕ) → Carries blocks n k older.0 g → Carries blocks n k newer.0 ((g + 1) % 4)
        → Only blocks n k (λ b. (b ≡ older.0) ⊎ (b ≡ newer.0)) → Stands (Pair older newer)
    wrong : Disordered blocks n k → Stands Wrong

  -- by how many copies there are: with two, either may be the older
  of_two_stands : (a b : Copy) → Held blocks n k (a ∷ b ∷ []) → Stands (of_two a b)
  of_two_stands a b h = go (follows b.generation a.generation) (follows a.generation b.generation) refl refl
    where
      x : ℕ
      x = a.generation.0

      y : ℕ
      y = b.generation.0

      first : Carries blocks n k a.block.0 x
      first = h.carried 0 (omega arith)

      second : Carries blocks n k b.block.0 y
      second = h.carried 1 (omega arith)

      only : Only blocks n k (λ c. (c ≡ a.block.0) ⊎ (c ≡ b.block.0))
      only c g d = let s = h.all c g d in grind (arith, common_steps, s.1, s.2)

      go : (t u : Bool) → eqb y ((x + 1) % 4) ≡ t → eqb x ((y + 1) % 4) ≡ u → Stands (of_two a b)
      go true u e f =
          let q : y ≡ (x + 1) % 4 = eqb-true y ((x + 1) % 4) e in
          rw e (two_blocks x first (rw q at second) only)
      go false true e f =
          let q : x ≡ (y + 1) % 4 = eqb-true x ((y + 1) % 4) f in
          rw (e, f) (two_blocks y second (rw q at first) (λ c g d. ⊎_swap (only c g d)))
      go false false e f =
          rw (e, f)
          (wrong
          (doubled a.block.0 b.block.0 x y (h.rising 0 1 (omega arith) (omega arith)) first second (eqb-false y ((x + 1) % 4) e)
          (eqb-false x ((y + 1) % 4) f)))

  of_copies_stands : (l : List Copy) → Held blocks n k l → Stands (of_copies l)
  of_copies_stands [] h = no_block (λ b g c. omega (arith, (h.all b g c).1))
  of_copies_stands (a ∷ []) h = one_block (h.carried 0 (omega arith)) (λ b g c. let s = h.all b g c in grind (arith, common_steps, s.1, s.2))
  of_copies_stands (a ∷ b ∷ []) h = of_two_stands a b h
  of_copies_stands (a ∷ b ∷ c ∷ l) h =
      wrong
      (tripled _ _ _ _ _ _ (h.rising 0 1 (omega arith) (omega arith)) (h.rising 1 2 (omega arith) (omega arith)) (h.carried 0 (omega arith))
      (h.carried 1 (omega arith)) (h.carried 2 (omega arith)))

  pub standing_stands : Stands (standing blocks n k)
  unfolding standing
  standing_stands = of_copies_stands (copies blocks n k) (copies_held blocks n k)

  -- in order, or out of order
  stands_ordered : {s : Standing} → Stands s → in_order s ≡ true → Ordered blocks n k
  stands_ordered (no_block o) e = absurd (false≢true e)
  stands_ordered (one_block c o) e = one _ _ c o
  stands_ordered (two_blocks g c d o) e = two _ _ g c d o
  stands_ordered (wrong d) e = absurd (false≢true e)

  stands_disordered : {s : Standing} → Stands s → in_order s ≡ false → Disordered blocks n k
  stands_disordered (no_block o) e = missing o
  stands_disordered (one_block c o) e = absurd (true≢false e)
  stands_disordered (two_blocks g c d o) e = absurd (true≢false e)
  stands_disordered (wrong d) e = d

  pub standing_ordered : in_order (standing blocks n k) ≡ true → Ordered blocks n k
  standing_ordered e = stands_ordered standing_stands e

  pub standing_disordered : in_order (standing blocks n k) ≡ false → Disordered blocks n k
  standing_disordered e = stands_disordered standing_stands e

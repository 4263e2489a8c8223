-- What `copies` holds: the blocks that carry a boot number, all of them, each once, in the order of the blocks.
-- Assumes nothing.
use mathlib.Core.List.{List, [], ◌∷◌}
use mathlib.Core.Path.{◌≡◌, refl, ap, ◌∙◌}
use Prim.Native.Nat.{ℕ, ◌<◌, ◌≤◌}
use native.Mathlib.Omega.{arith}
use lib.ListN.{length, get_or}
use Rattle.std.proofs.lemmas.Bool.Decides.{nat_tests}
use Rattle.std.specs.Prelude.{Some, None}
use Rattle.boot.specs.Counting.{Counted}
use Rattle.boot.specs.Loader.{Carries}
use Rattle.boot.specs.Mapping.{Blocks, Copy, copy_of, copies}
use Rattle.boot.proofs.Gathered.{Gathers, Brought, Source, gathers_order, gathers_brought, gathers_source}

-- ---- what one block brings
copy_of_one : (k b : ℕ) (c : Counted) → length (copy_of k b c) ≤ 1
copy_of_one k b None = omega arith
copy_of_one k b (Some (m, g)) = grind (arith, nat_tests)

-- it is the block itself, and carries the number
record Told (k b : ℕ) (c : Counted) (a : Copy) : Type 0 where
  itself : a.block.0 ≡ b
  told : c ≡ Some (record { 0 = k }, a.generation)

copy_of_told : (k b : ℕ) (c : Counted) (a : Copy) → copy_of k b c ≡ a ∷ [] → Told k b c a
copy_of_told k b None a e = absurd (omega (arith, ap length e))
copy_of_told k b (Some (m, g)) a e = grind (arith, nat_tests)

-- and a block that carries the number brings itself
copy_of_carried : (k b g : ℕ)
    → copy_of k b (Some (record { 0 = k }, record { 0 = g })) ≡ record { block = record { 0 = b }; generation = record { 0 = g } } ∷ []
copy_of_carried k b g = grind (arith, nat_tests)

-- ---- what all blocks bring, by places
-- past the end stands none
abbrev none : Copy
none = record { block = record { 0 = 0 }; generation = record { 0 = 0 } }

abbrev pub block_in : List Copy → ℕ → ℕ
block_in l i = (get_or l i none).block.0

abbrev pub generation_in : List Copy → ℕ → ℕ
generation_in l i = (get_or l i none).generation.0

module _ (blocks : Blocks) (n k : ℕ) where
  -- l holds the blocks that carry number k, rising
  pub record Held (l : List Copy) : Type 0 where
    pub carried : (i : ℕ) → i < length l → Carries blocks n k (block_in l i) (generation_in l i)
    pub rising : (i j : ℕ) → i < j → j < length l → block_in l i < block_in l j
    pub all : (b g : ℕ) → Carries blocks n k b g → (i : ℕ) × (i < length l) × (block_in l i ≡ b)

  -- what block b brings, and what the first m do
  abbrev brought : ℕ → List Copy
  brought b = copy_of k b (blocks b)

  abbrev found : ℕ → List Copy
  found m = copies blocks m k

  copies_gathers : Gathers brought found
  unfolding copies
  copies_gathers = record { start = refl; next = λ m. refl }

  -- the block at place i
  module _ (i : ℕ) (h : i < length (copies blocks n k)) where
    copies_source : Source brought found none i n
    copies_source = gathers_source copies_gathers none (λ b. copy_of_one k b (blocks b)) i n h

    copies_told : Told k copies_source.number (blocks copies_source.number) (get_or (copies blocks n k) i none)
    copies_told = copy_of_told k copies_source.number (blocks copies_source.number) (get_or (copies blocks n k) i none) copies_source.brings

    copies_carried : Carries blocks n k (block_in (copies blocks n k) i) (generation_in (copies blocks n k) i)
    copies_carried = record { below = omega (arith, copies_told.itself, copies_source.below); told = ap blocks copies_told.itself ∙ copies_told.told }

  copies_rising : (i j : ℕ) → i < j → j < length (copies blocks n k) → block_in (copies blocks n k) i < block_in (copies blocks n k) j
  copies_rising i j l h =
      let a : i < length (copies blocks n k) = omega arith in
      let o : (copies_source i a).number < (copies_source j h).number =
      gathers_order copies_gathers (copies_source i a).number (copies_source j h).number (omega (arith, (copies_source i a).place, (copies_source j h).place)) in
      omega (arith, (copies_told i a).itself, (copies_told j h).itself)

  copies_all : (b g : ℕ) → Carries blocks n k b g → (i : ℕ) × (i < length (copies blocks n k)) × (block_in (copies blocks n k) i ≡ b)
  copies_all b g c =
      let a : Copy = record { block = record { 0 = b }; generation = record { 0 = g } } in
      let w : Brought brought found none a b n = gathers_brought copies_gathers none a b n c.below (rw c.told (copy_of_carried k b g)) in
      (length (copies blocks b k), w.inside, ap (λ (x : Copy). x.block.0) w.there)

  pub copies_held : Held (copies blocks n k)
  copies_held = record { carried = copies_carried; rising = copies_rising; all = copies_all }

-- What stands at which place of the two lists. Where every number is in order, place k of the mapped is what number k brings, and each place
-- of those to erase was brought by a pair, in boot order.
-- Assumes nothing.
use mathlib.Core.Bool.{true, false≢true}
use mathlib.Core.List.{List, [], ◌∷◌}
use mathlib.Core.Logic.{◌⊎◌, inl, ⊎_map}
use mathlib.Core.Path.{◌≡◌, refl, sym, ap, ◌∙◌, subst}
use Prim.Native.Nat.{ℕ, ◌+◌, ◌%◌, ◌<◌, ◌≤◌}
use native.Mathlib.Omega.{arith}
use lib.ListN.{length, get_or}
use Rattle.chip.specs.declared.ChipBlock.{ChipBlock}
use Rattle.boot.specs.declared.Listing.{Listing}
use Rattle.boot.specs.declared.Listing.TheVariants.{ToMap, ToErase}
use Rattle.boot.specs.declared.Standing.{Standing}
use Rattle.boot.specs.declared.Standing.TheVariants.{Missing, One, Pair, Wrong}
use Rattle.boot.specs.Loader.{placed, Carries, mapped_list, erased_list, Newer}
use Rattle.boot.specs.Mapping.{Blocks, standing, in_order, above, entry_of, listed, list_of}
use Rattle.boot.proofs.Gathered.{Gathers, Source, gathers_full, gathers_order, gathers_brought, gathers_source}
use Rattle.boot.proofs.Carriers.{above_every}
use Rattle.boot.proofs.Putting.{entry_of_one}
use Rattle.boot.proofs.Standings.{Stands, no_block, one_block, two_blocks, wrong, standing_stands}

-- ---- what one number brings
-- to the mapped, one block where the number is in order
entry_of_mapped : (s : Standing) → in_order s ≡ true → length (entry_of ToMap s) ≡ 1
entry_of_mapped Missing e = absurd (false≢true e)
entry_of_mapped (One b g) e = refl
entry_of_mapped (Pair older newer) e = refl
entry_of_mapped Wrong e = absurd (false≢true e)

-- which block it is
same_entry : {a b : ChipBlock} → a ∷ [] ≡ b ∷ [] → a ≡ b
same_entry e = cc

no_entry : {b : ChipBlock} → [] ≡ b ∷ [] → ⊥
no_entry e = omega (arith, ap length e)

module _ {blocks : Blocks} {n k : ℕ} where
  -- what the block carries
  carries_same : {a x : ChipBlock} {g : ℕ} → a ≡ x → Carries blocks n k a.0 g → Carries blocks n k x.0 g
  carries_same {g = g} e c = subst (λ (z : ChipBlock). Carries blocks n k z.0 g) e c

  -- to the mapped, a block that carries it
  stands_mapped : {s : Standing} {x : ChipBlock} → Stands blocks n k s → entry_of ToMap s ≡ x ∷ [] → (g : ℕ) × Carries blocks n k x.0 g
  stands_mapped (no_block o) e = absurd (no_entry e)
  stands_mapped (one_block {g = g} c o) e = (g.0, carries_same (same_entry e) c)
  stands_mapped (two_blocks g c d o) e = (g, carries_same (same_entry e) c)
  stands_mapped (wrong d) e = absurd (no_entry e)

  -- to those to erase, the newer of two
  stands_erased : {s : Standing} {x y : ChipBlock} → Stands blocks n k s → entry_of ToMap s ≡ x ∷ [] → entry_of ToErase s ≡ y ∷ []
      → (g : ℕ) × Carries blocks n k x.0 g × Carries blocks n k y.0 ((g + 1) % 4)
  stands_erased (no_block o) e f = absurd (no_entry f)
  stands_erased (one_block c o) e f = absurd (no_entry f)
  stands_erased (two_blocks g c d o) e f = (g, carries_same (same_entry e) c, carries_same (same_entry f) d)
  stands_erased (wrong d) e f = absurd (no_entry f)

  -- and so all that carry it
  stands_all : {s : Standing} {x : ChipBlock} {b g : ℕ} → Stands blocks n k s → entry_of ToMap s ≡ x ∷ [] → Carries blocks n k b g
      → (b ≡ x.0) ⊎ ((y : ChipBlock) × (entry_of ToErase s ≡ y ∷ []) × (y.0 ≡ b))
  stands_all {b = b} {g = g} (no_block o) e c = absurd (o b g c)
  stands_all {b = b} {g = g} (one_block d o) e c = inl (o b g c ∙ ap (λ (z : ChipBlock). z.0) (same_entry e))
  stands_all {b = b} {g = g} (two_blocks {newer = newer} h i j o) e c =
      ⊎_map (λ q. q ∙ ap (λ (z : ChipBlock). z.0) (same_entry e)) (λ q. (newer, refl, sym q)) (o b g c)
  stands_all (wrong d) e c = absurd (no_entry e)

-- ---- what all numbers bring
-- what `placed` finds past the end
abbrev nought : ChipBlock
nought = record { 0 = 0 }

module _ (blocks : Blocks) (n : ℕ) where
  -- what number k brings, and what the numbers below m do
  abbrev pub entries : Listing → ℕ → List ChipBlock
  entries l k = entry_of l (standing blocks n k)

  abbrev pub up_to : Listing → ℕ → List ChipBlock
  up_to l m = listed l (standing blocks n) m

  listed_gathers : (l : Listing) → Gathers (entries l) (up_to l)
  unfolding listed
  listed_gathers l = record { start = refl; next = λ m. refl }

  -- the number that brought what stands at place i
  pub list_of_source : (l : Listing) (i : ℕ) → i < length (list_of l blocks n) → Source (entries l) (up_to l) nought i (above blocks n)
  unfolding list_of
  list_of_source l i h = gathers_source (listed_gathers l) nought (λ k. entry_of_one l (standing blocks n k)) i (above blocks n) h

  -- those of the blocks to erase rise
  abbrev pub number_of : (i : ℕ) → i < length (erased_list blocks n) → ℕ
  number_of i h = (list_of_source ToErase i h).number

  pub erased_rising : (i j : ℕ) (a : i < length (erased_list blocks n)) (b : j < length (erased_list blocks n)) → i < j → number_of i a < number_of j b
  erased_rising i j a b l =
      gathers_order (listed_gathers ToErase) (number_of i a) (number_of j b) (omega (arith, (list_of_source ToErase i a).place, (list_of_source ToErase j b).place))

  -- where every number is in order
  module _ (all : (k : ℕ) → k < above blocks n → in_order (standing blocks n k) ≡ true) where
    -- each number brings one block to the mapped, at its own place
    mapped_full : (m : ℕ) → m ≤ above blocks n → length (up_to ToMap m) ≡ m
    mapped_full m h = gathers_full (listed_gathers ToMap) m (λ k l. entry_of_mapped (standing blocks n k) (all k (omega arith)))

    pub mapped_length : length (mapped_list blocks n) ≡ above blocks n
    unfolding list_of
    mapped_length = mapped_full (above blocks n) (omega arith)

    mapped_at : (k : ℕ) → k < above blocks n → entries ToMap k ≡ get_or (mapped_list blocks n) k nought ∷ []
    unfolding list_of
    mapped_at k h =
        let s = list_of_source ToMap k (omega (arith, mapped_length)) in
        let q : s.number ≡ k = omega (arith, mapped_full s.number (omega (arith, s.below)), s.place) in
        ap (entries ToMap) (sym q) ∙ s.brings

    -- a block that carries it
    pub mapped_carries : (k : ℕ) → k < above blocks n → (g : ℕ) × Carries blocks n k (placed (mapped_list blocks n) k) g
    mapped_carries k h = stands_mapped (standing_stands blocks n k) (mapped_at k h)

    -- a block to erase is the newer of two
    pub erased_newer : (i : ℕ) (h : i < length (erased_list blocks n)) → Newer blocks n (number_of i h) (placed (erased_list blocks n) i)
    unfolding list_of
    erased_newer i h =
        let s = list_of_source ToErase i h in
        let b = stands_erased (standing_stands blocks n s.number) (mapped_at s.number s.below) s.brings in
        record { generation = b.0; older = b.1; newer = b.2 }

    -- no block that counts is left out
    pub listed_all : (k b g : ℕ) → Carries blocks n k b g → (b ≡ placed (mapped_list blocks n) k) ⊎ ((i : ℕ) × (i < length (erased_list blocks n)) × (placed (erased_list blocks n) i ≡ b))
    unfolding list_of
    listed_all k b g c = ⊎_map (λ e. e) place (stands_all (standing_stands blocks n k) (mapped_at k h) c)
      where
        h : k < above blocks n
        h = above_every blocks n k b g c

        place : (y : ChipBlock) × (entries ToErase k ≡ y ∷ []) × (y.0 ≡ b) → (i : ℕ) × (i < length (erased_list blocks n)) × (placed (erased_list blocks n) i ≡ b)
        place s =
            let w = gathers_brought (listed_gathers ToErase) nought s.0 k (above blocks n) h s.1 in
            (length (up_to ToErase k), w.inside, ap (λ (x : ChipBlock). x.0) w.there ∙ s.2)

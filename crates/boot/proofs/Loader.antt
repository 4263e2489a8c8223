-- What the loader relies on, from the definitions: a map is answered where no number up to the highest found is out of order.
-- Assumes nothing.
use mathlib.Core.Bool.{Bool, true, false}
use mathlib.Core.Path.{◌≡◌, refl}
use Prim.Native.Nat.{ℕ, ◌<◌, ◌≤◌}
use native.Mathlib.Omega.{arith}
use borrow.Author.Tests.{ltb-true, ltb-false}
use lib.Dec.{ltb}
use lib.ListN.{length}
use Rattle.boot.specs.declared.MapCounts.{MapCounts}
use Rattle.boot.specs.Loader.{placed, Carries, mapped_list, erased_list, Newer, Reliable, Answered, map, refusal, LoaderRelies}
use Rattle.boot.specs.Mapping.{Blocks, standing, in_order, above, smallest_out, map_of}
use Rattle.boot.proofs.Written.{written_counts}
use Rattle.boot.proofs.Carriers.{carries_number, carries_generation, ordered_either, above_highest}
use Rattle.boot.proofs.Fitting.{fits, listed_fits}
use Rattle.boot.proofs.Listings.{number_of, erased_rising, mapped_length, mapped_carries, erased_newer, listed_all}
use Rattle.boot.proofs.Searching.{smallest_out_below, smallest_out_out}
use Rattle.boot.proofs.Standings.{standing_ordered, standing_disordered}

module _ (blocks : Blocks) (n : ℕ) where
  -- what an answered map tells
  abbrev counts : MapCounts
  counts = record { mapped = length (mapped_list blocks n); erased = length (erased_list blocks n) }

  -- ---- where every number is in order
  module _ (all : (k : ℕ) → k < above blocks n → in_order (standing blocks n k) ≡ true) where
    -- a block carries the one number that brought it, so its place tells its number
    erased_order : (i j k m g h : ℕ) → i < j → j < length (erased_list blocks n) → Carries blocks n k (placed (erased_list blocks n) i) g
        → Carries blocks n m (placed (erased_list blocks n) j) h → k < m
    erased_order i j k m g h l b c d =
        let a : i < length (erased_list blocks n) = omega arith in
        omega (
          arith,
          erased_rising blocks n i j a b l,
          carries_number c (erased_newer blocks n all i a).newer,
          carries_number d (erased_newer blocks n all j b).newer,
        )

    mapped_once : (i j : ℕ) → i < j → j < above blocks n → placed (mapped_list blocks n) i ≡ placed (mapped_list blocks n) j → ⊥
    mapped_once i j l h e =
        omega (arith, carries_number (rw e at (mapped_carries blocks n all i (omega arith)).1) (mapped_carries blocks n all j h).1)

    erased_once : (i j : ℕ) → i < j → j < length (erased_list blocks n) → placed (erased_list blocks n) i ≡ placed (erased_list blocks n) j → ⊥
    erased_once i j l h e =
        let c = (erased_newer blocks n all j h).newer in
        omega (arith, erased_order i j _ _ _ _ l h (rw (← e) at c) c)

    -- the two that carry one number have different generations
    listed_in_one : (i j : ℕ) → i < above blocks n → j < length (erased_list blocks n) → placed (mapped_list blocks n) i ≡ placed (erased_list blocks n) j → ⊥
    listed_in_one i j a b e =
        let w : Newer blocks n (number_of blocks n j b) (placed (erased_list blocks n) j) = erased_newer blocks n all j b in
        let q : i ≡ number_of blocks n j b = carries_number (rw e at (mapped_carries blocks n all i a).1) w.newer in
        omega (arith, carries_generation (rw (← q, e) at w.older) w.newer)

    map_reliable : Reliable blocks n counts
    map_reliable =
        record {
          mapped_count = refl;
          erased_count = refl;
          every_number = mapped_length blocks n all;
          fits = listed_fits blocks n;
          mapped = mapped_carries blocks n all;
          erased = λ i h. (number_of blocks n i h, erased_newer blocks n all i h);
          all = listed_all blocks n all;
          order = erased_order;
          once_mapped = mapped_once;
          once_erased = erased_once;
          in_one = listed_in_one;
          ordered = λ k h. standing_ordered blocks n k (all k h);
        }

  -- ---- the answer
  map_answered : Answered blocks n
  unfolding map_of
  map_answered = go (ltb (smallest_out blocks n) (above blocks n)) refl
    where
      go : (t : Bool) → ltb (smallest_out blocks n) (above blocks n) ≡ t → Answered blocks n
      go true e =
          let l : smallest_out blocks n < above blocks n = ltb-true (smallest_out blocks n) (above blocks n) e in
          refusal (smallest_out blocks n) (rw e refl)
          (record {
            found = l;
            few = fits blocks n (smallest_out blocks n) (smallest_out_below blocks n) l;
            disordered = standing_disordered blocks n (smallest_out blocks n) (smallest_out_out blocks n l);
            smaller = λ k h. standing_ordered blocks n k (smallest_out_below blocks n k h);
          })
      go false e =
          let l : above blocks n ≤ smallest_out blocks n = ltb-false (smallest_out blocks n) (above blocks n) e in
          map counts (rw e refl) (map_reliable (λ k h. smallest_out_below blocks n k (omega arith)))

pub loader_relies : LoaderRelies
loader_relies = record { written = written_counts; highest = above_highest; answered = map_answered; either = λ blocks n k o d. ordered_either o d }

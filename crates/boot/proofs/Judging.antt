-- From the slots to the map: where a number below the highest found and below the number of blocks is out of order, the smallest such is the
-- one that the map names; where none is, no number can be above the blocks, and the lists are those of the map.
-- Assumes nothing.
use mathlib.Core.Bool.{Bool, true, false, not}
use mathlib.Core.List.{List, ◌++◌}
use mathlib.Core.Path.{◌≡◌, refl, sym, ◌∙◌, ap, ap₂}
use Prim.Native.Nat.{ℕ, zero, suc, min, ◌<◌, ◌≤◌}
use native.Mathlib.Omega.{arith}
use borrow.Author.Tests.{lt-ltb, le-ltb}
use lib.ListN.{length, replicate, take}
use Rattle.std.proofs.lemmas.Bool.Decides.{nat_tests}
use Rattle.std.proofs.lemmas.List.{get_or-take, length-take-le}
use Rattle.std.proofs.lemmas.List.Quantifiers.{position-Some}
use Rattle.std.proofs.lemmas.List.Sums.{fails_before_first}
use Rattle.std.specs.List.{position, position_or_len}
use Rattle.std.specs.Prelude.{Option, Some, None, Result, Ok, Err}
use Rattle.bits.proofs.Filling.{build_replicate}
use Rattle.chip.specs.declared.ChipBlock.{ChipBlock}
use Rattle.boot.specs.declared.Listing.{Listing}
use Rattle.boot.specs.declared.Listing.TheVariants.{ToMap, ToErase}
use Rattle.boot.specs.declared.MapCounts.{MapCounts}
use Rattle.boot.specs.declared.MapRefusal.{MapRefusal}
use Rattle.boot.specs.declared.MapRefusal.TheVariants.{OutOfOrder}
use Rattle.boot.specs.declared.Standing.{Standing}
use Rattle.boot.specs.declared.Standing.TheVariants.{Missing}
use Rattle.boot.specs.Counting.{block_at}
use Rattle.boot.specs.Mapping.{Blocks, standing, in_order, above, smallest_out, entry_of, listed, list_of, map_of}
use Rattle.boot.specs.Slots.{slot_of, of_slot, slots_of, in_slot}
use Rattle.boot.proofs.Fitting.{fits}
use Rattle.boot.proofs.Keeping.{small_standing}
use Rattle.boot.proofs.Searching.{first_not_is}
use Rattle.boot.proofs.Slots.{slot_told, length_slots}

-- before any block is looked at
pub slots_start : replicate 1024 0 ≡ slots_of (λ k. Missing)
unfolding slots_of slot_of
slots_start = sym (build_replicate 0 1024)

listed_same : (l : Listing) (f g : ℕ → Standing) (m : ℕ) → ((k : ℕ) → k < m → f k ≡ g k) → listed l f m ≡ listed l g m
unfolding listed
listed_same l f g zero h = refl
listed_same l f g (suc m) h = ap₂ (λ (x y : List ChipBlock). x ++ y) (listed_same l f g m (λ k b. h k (omega arith))) (ap (entry_of l) (h m (omega arith)))

-- is a number out of order, by its slot?
abbrev out : ℕ → Bool
out s = not (in_order (of_slot s))

-- what is answered of the slots that were searched, by what the search found
abbrev pub judged : Option ℕ → List ℕ → Result MapCounts MapRefusal
judged (Some k) s = Err (OutOfOrder (record { 0 = k }))
judged None s = Ok (record { mapped = length (listed ToMap (in_slot s) (length s)); erased = length (listed ToErase (in_slot s) (length s)) })

-- the slots that n blocks leave, as far as they are searched
module _ (spares : List ℕ) (n : ℕ) (few : n ≤ 1024) where
  abbrev blocks : Blocks
  blocks = block_at spares

  abbrev end : ℕ
  end = min (above blocks n) n

  abbrev searched : List ℕ
  searched = take end (slots_of (standing blocks n))

  length_searched : length searched ≡ end
  length_searched = length-take-le end (slots_of (standing blocks n)) (omega (arith, length_slots (standing blocks n)))

  told : (k : ℕ) → k < end → in_slot searched k ≡ standing blocks n k
  told k h = ap of_slot (get_or-take end (slots_of (standing blocks n)) k 0 h) ∙ slot_told (standing blocks n) k (omega arith) (small_standing spares n k few)

  -- a number is out of order
  refused : (k : ℕ) → position out searched ≡ Some k → map_of blocks n ≡ Err (OutOfOrder (record { 0 = k }))
  unfolding map_of smallest_out
  refused k found =
      let at = position-Some out searched k 0 found in
      let h : k < end = omega (arith, at.0, length_searched) in
      let wrong : in_order (standing blocks n k) ≡ false = rw (← told k h) (grind (arith, at.1)) in
      let right : (j : ℕ) → j < k → in_order (standing blocks n j) ≡ true = λ j l. rw (← told j (omega arith)) (grind (arith, at.2 j l)) in
      let first : smallest_out blocks n ≡ k = first_not_is (λ k. in_order (standing blocks n k)) 0 (above blocks n) k (omega arith) (omega arith) right (λ l. wrong) in
      rw (first, lt-ltb k (above blocks n) (omega arith)) refl

  -- none is: then all numbers were searched, since there are no more of them than blocks
  module _ (none : position out searched ≡ None) where
    right : (k : ℕ) → k < end → in_order (standing blocks n k) ≡ true
    right k h =
        let all : end ≤ position_or_len out searched = grind (arith, nat_tests, length_searched) in
        let in_it = fails_before_first out searched k 0 (omega arith) in
        rw (← told k h) (grind arith)

    all_searched : end ≡ above blocks n
    all_searched = grind (arith, fits blocks n end right)

    list_told : (l : Listing) → list_of l blocks n ≡ listed l (in_slot searched) (length searched)
    unfolding list_of
    list_told l = rw length_searched (ap (listed l (standing blocks n)) (sym all_searched) ∙ sym (listed_same l (in_slot searched) (standing blocks n) end told))

    answered : map_of blocks n ≡ judged None searched
    unfolding map_of smallest_out
    answered =
        let stays : smallest_out blocks n ≡ above blocks n =
        first_not_is (λ k. in_order (standing blocks n k)) 0 (above blocks n) (above blocks n) (omega arith) (omega arith) (λ j l. right j (omega (arith, all_searched))) (λ l. absurd (omega arith)) in
        rw (list_told ToMap, list_told ToErase, stays, le-ltb (above blocks n) (above blocks n) (omega arith)) refl

  pub map_judged : map_of blocks n ≡ judged (position out searched) searched
  map_judged = go (position out searched) refl
    where
      go : (o : Option ℕ) → position out searched ≡ o → map_of blocks n ≡ judged o searched
      go (Some k) e = refused k e
      go None e = answered e

  pub list_judged : (l : Listing) → position out searched ≡ None → list_of l blocks n ≡ listed l (in_slot searched) (length searched)
  list_judged l e = list_told e l

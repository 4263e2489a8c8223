-- The answer of ream_boot_map and its lists are the map's: both counts fit sixteen bits each, since no more blocks are listed than the 1,024
-- there can be, and so do the blocks.
-- Assumes nothing.
use Rattle.std.specs.Prelude.{Ok, Err}
use mathlib.Core.Bool.{Bool, true, false, ◌&&◌, false≢true}
use mathlib.Core.List.{List, [], ◌∷◌, ◌++◌}
use mathlib.Core.Path.{◌≡◌, refl, sym, ◌∙◌, ap}
use Prim.Native.Nat.{ℕ, zero, suc, ◌+◌, ◌*◌, ◌<◌, ◌≤◌, ◌^◌}
use native.Mathlib.Omega.{arith}
use borrow.Author.Tests.{eqb-true, eq-eqb, leb-true, leb-false}
use lib.Dec.{eqb, leb}
use lib.ListN.{length, drop}
use lib.Seq.{drop_at}
use Rattle.bits.proofs.Both.{both_left, both_right}
use Rattle.boot.proofs.Loader.{loader_relies}
use Rattle.boot.proofs.Putting.{length_bytes}
use Rattle.boot.specs.Answers.{is_lent, map_answer, block_bytes, starting_with}
use Rattle.boot.specs.Counting.{block_at}
use Rattle.boot.specs.Loader.{placed, Reliable, Answered, map, refusal}
use Rattle.boot.specs.Mapping.{list_of, map_of}
use Rattle.boot.specs.declared.Listing.{Listing}
use Rattle.boot.specs.declared.Listing.TheVariants.{ToMap, ToErase}
use Rattle.boot.specs.declared.MapCounts.{MapCounts}
use Rattle.boot.specs.declared.MapRefusal.TheVariants.{Refused, OutOfOrder}
use Rattle.chip.specs.declared.BootNumber.{BootNumber}
use Rattle.chip.specs.declared.ChipBlock.{ChipBlock}
use Rattle.chip.specs.declared.Refusal.{Refusal}
use Rattle.chip.specs.declared.Refusal.TheVariants.{Length, Range}
use Rattle.packing.specs.Packing.{refusal_code}
use Rattle.reamsickle.specs.Boundary.{map_code_by, map_code}
use Rattle.claims.specs.BootMap.{mapped_in, erased_in, detail_in, block_in, Fitting, Holds, answer, Map, Unchanged, Told, range, wrong_length, out_of_order, mapping, BootMapInC}

-- ---- a list
-- place i of the bytes of blocks
bytes_place : (bs : List ChipBlock) (rest : List ℕ) (i : ℕ) → i < length bs → placed bs i < 2 ^ 16 → block_in (block_bytes bs ++ rest) i ≡ placed bs i
unfolding block_bytes
bytes_place [] rest i h small = absurd (omega arith)
bytes_place (b ∷ bs) rest zero h small = omega arith
bytes_place (b ∷ bs) rest (suc i) h small =
    let first : 2 * suc i ≡ suc (suc (2 * i)) = omega arith in
    let second : 2 * suc i + 1 ≡ suc (suc (2 * i + 1)) = omega arith in
    rw (second, first) (bytes_place bs rest i (omega arith) small)

list_holds : (l : Listing) (n count : ℕ) (spares before : List ℕ) → count ≡ length (list_of l (block_at spares) n)
    → ((i : ℕ) → i < length (list_of l (block_at spares) n) → placed (list_of l (block_at spares) n) i < 2 ^ 16)
    → Holds (starting_with (block_bytes (list_of l (block_at spares) n)) before) before l n count spares
list_holds l n count spares before e small =
    let bs : List ChipBlock = list_of l (block_at spares) n in
    let long : length (block_bytes bs) ≡ 2 * count = length_bytes bs ∙ rw e refl in
    record {
      counted = e;
      places = λ i h. let inside : i < length bs = omega (arith, e, h) in bytes_place bs (drop (length (block_bytes bs)) before) i inside (small i inside);
      rest = drop_at (block_bytes bs) (drop (length (block_bytes bs)) before) (2 * count) long ∙ ap (λ (k : ℕ). drop k before) long;
    }

module _ (n : ℕ) (spares mapped erased : List ℕ) where
  -- ---- a refusal
  code_refused : (r : Refusal) → map_answer n spares mapped erased ≡ Err (Refused r) → answer n spares mapped erased ≡ refusal_code r
  unfolding map_code
  code_refused r e = ap map_code_by e

  unchanged : (r : Refusal) → map_answer n spares mapped erased ≡ Err (Refused r) → Unchanged n spares mapped erased
  unchanged r e = record { same_mapped = rw e refl; same_erased = rw e refl }

  code_order : (k : BootNumber) → map_answer n spares mapped erased ≡ Err (OutOfOrder k) → answer n spares mapped erased ≡ 13 + 2 ^ 8 * k.0
  unfolding map_code
  code_order k e = ap map_code_by e

  -- ---- what is lent
  lent_fitting : is_lent n spares mapped erased ≡ true → Fitting n spares mapped erased
  unfolding is_lent
  lent_fitting e =
      let first : (eqb (length spares) (32 * n) && eqb (length mapped) (2 * n)) ≡ true = both_left _ (eqb (length erased) (2 * n)) e in
      record {
        spare_bytes = eqb-true _ _ (both_left (eqb (length spares) (32 * n)) _ first);
        mapped_bytes = eqb-true _ _ (both_right (eqb (length spares) (32 * n)) _ first);
        erased_bytes = eqb-true _ _ (both_right (eqb (length spares) (32 * n) && eqb (length mapped) (2 * n)) _ e);
      }

  fitting_lent : Fitting n spares mapped erased → is_lent n spares mapped erased ≡ true
  unfolding is_lent
  fitting_lent f = rw (eq-eqb _ _ f.spare_bytes, eq-eqb _ _ f.mapped_bytes, eq-eqb _ _ f.erased_bytes) refl

  -- ---- the map
  code_mapped : (c : MapCounts) → map_answer n spares mapped erased ≡ Ok c → answer n spares mapped erased ≡ 2 ^ 8 * c.mapped + 2 ^ 24 * c.erased
  unfolding map_code
  code_mapped c e = ap map_code_by e

  told_map : n ≤ 1024 → (c : MapCounts) → map_answer n spares mapped erased ≡ Ok c → Reliable (block_at spares) n c → Map n spares mapped erased
  told_map few c e r =
      let code = code_mapped c e in
      let small : c.mapped + c.erased ≤ n = rw (r.mapped_count, r.erased_count) r.fits in
      let mapped_told : mapped_in (answer n spares mapped erased) ≡ c.mapped = rw code (omega (arith, small)) in
      let erased_told : erased_in (answer n spares mapped erased) ≡ c.erased = rw code (omega (arith, small)) in
      record {
        in_mapped = rw e (list_holds ToMap n _ spares mapped (mapped_told ∙ r.mapped_count) (λ i h. omega (arith, (r.mapped i (rw (← r.every_number) h)).1.below)));
        in_erased = rw e (list_holds ToErase n _ spares erased (erased_told ∙ r.erased_count) (λ i h. omega (arith, (r.erased i h).1.newer.below)));
        reliable = rw (mapped_told, erased_told) r;
      }

  judged : n ≤ 1024 → Fitting n spares mapped erased → map_answer n spares mapped erased ≡ map_of (block_at spares) n → Answered (block_at spares) n
      → Told n spares mapped erased
  judged few fit e (map c a r) =
      mapping few fit (rw (code_mapped c (e ∙ a)) (omega arith)) (told_map few c (e ∙ a) r)
  judged few fit e (refusal k a named) =
      let code = code_order (record { 0 = k }) (e ∙ a) in
      let detail : detail_in (answer n spares mapped erased) ≡ k = rw code (omega (arith, named.few)) in
      out_of_order few fit (rw code (omega arith)) (rw detail named) (record { same_mapped = rw (e ∙ a) refl; same_erased = rw (e ∙ a) refl })

pub boot_map_in_c : BootMapInC
unfolding map_answer
boot_map_in_c n spares mapped erased = go (leb n 1024) refl (is_lent n spares mapped erased) refl
  where
    go : (small : Bool) → leb n 1024 ≡ small → (lent : Bool) → is_lent n spares mapped erased ≡ lent → Told n spares mapped erased
    go false e lent f =
        let refused : map_answer n spares mapped erased ≡ Err (Refused Range) = rw e refl in
        range (leb-false n 1024 e) (code_refused n spares mapped erased Range refused) (unchanged n spares mapped erased Range refused)
    go true e false f =
        let refused : map_answer n spares mapped erased ≡ Err (Refused Length) = rw (e, f) refl in
        wrong_length (leb-true n 1024 e) (λ fit. false≢true (sym f ∙ fitting_lent n spares mapped erased fit)) (code_refused n spares mapped erased Length refused)
        (unchanged n spares mapped erased Length refused)
    go true e true f =
        judged n spares mapped erased (leb-true n 1024 e) (lent_fitting n spares mapped erased f) (rw (e, f) refl) (loader_relies.answered (block_at spares) n)

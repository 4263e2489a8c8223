-- A chip stated with d blocks fewer of its region: block b there is block d + b here, so a copy that lies at or above d is found, d lower, and
-- one that lies below is missing.
-- Assumes nothing.
use mathlib.Core.Bool.{Bool, true, false}
use mathlib.Core.List.{List}
use mathlib.Core.Path.{◌≡◌, refl, sym, ap, ap₂, ◌∙◌}
use Prim.Native.Nat.{ℕ, ◌+◌, ◌*◌, ◌-◌, ◌<◌, ◌≤◌}
use native.Mathlib.Nat.{add-mul}
use native.Mathlib.Omega.{arith}
use borrow.Author.Tests.{leb-true, leb-false}
use lib.Dec.{leb}
use lib.ListN.{take, drop, get_or, length-drop}
use lib.Seq.{get_or-drop, drop-drop}
use Rattle.chip.specs.Large.{pages_of, region_pages}
use Rattle.chip.specs.declared.LargeChip.{LargeChip}
use Rattle.bbt.specs.declared.Kind.{Kind}
use Rattle.bbt.specs.declared.Kind.TheVariants.{Primary, Mirror}
use Rattle.bbt.specs.Copies.{Table, good, table}
use Rattle.bbt.specs.Pages.{page_bytes, page_of, seen}
use Rattle.bbt.specs.Pairs.{case_of, pair_case}
use Rattle.bbt.specs.Plans.{read_case, reading}
use Rattle.bbt.specs.Regions.{Region, view}
use Rattle.bbt.specs.Sizes.{narrowed, last_image, last_status, found_above, BelowNotFound}
use Rattle.bbt.proofs.Forms.{Sole, Missing}
use Rattle.bbt.proofs.LeftPages.{Judged, judge}
use Rattle.bbt.proofs.Planning.{settled_reading, reading_settled}
use Rattle.bbt.proofs.Raw.{chip_valid}
use Rattle.bbt.proofs.Searches.{Unique, only_find, find_none, find_only}
use Rattle.bbt.proofs.Views.{good_agrees, table_agrees}

module _ {chip : LargeChip} (ok : Judged chip) (d : ℕ) (few : d ≤ chip.region) (r : Region chip) where
  abbrev P : ℕ
  P = pages_of chip

  abbrev small : LargeChip
  small = narrowed chip d

  -- the pages of the last blocks are all but the first d × P
  pub rest : d * P + region_pages small ≡ region_pages chip
  rest = sym (add-mul d (chip.region - d) P) ∙ ap (λ (x : ℕ). x * P) (omega arith)

  abbrev pub last : Region small
  last = record {
    image = last_image chip d r.image;
    status = last_status chip d r.status;
    image_length = length-drop (d * P * 2112) r.image ∙ omega (arith, r.image_length, rest);
    status_length = length-drop (d * P) r.status ∙ omega (arith, r.status_length, rest);
    image_bytes = λ i. rw (get_or-drop (d * P * 2112) r.image i 0) (r.image_bytes _);
    status_bits = λ i. rw (get_or-drop (d * P) r.status i 0) (r.status_bits _);
  }

  -- ---- what is seen of a block
  page : (b p : ℕ) → d * P + (b * P + p) ≡ (d + b) * P + p
  page b p = omega (arith, add-mul d b P)

  alike : (b p : ℕ) → view last b p ≡ view r (d + b) p
  unfolding seen page_of page_bytes
  alike b p =
      let status : get_or (last_status chip d r.status) (b * P + p) 0 ≡ get_or r.status ((d + b) * P + p) 0 =
      get_or-drop (d * P) r.status (b * P + p) 0 ∙ ap (λ (i : ℕ). get_or r.status i 0) (page b p) in
      let bytes : drop ((b * P + p) * 2112) (last_image chip d r.image) ≡ drop (((d + b) * P + p) * 2112) r.image =
      drop-drop ((b * P + p) * 2112) (d * P * 2112) r.image ∙ ap (λ (i : ℕ). drop i r.image) (sym (add-mul (d * P) (b * P + p) 2112) ∙ ap (λ (i : ℕ). i * 2112) (page b p)) in
      ap₂ (λ (x : ℕ) (l : List ℕ). page_of chip p x (take 2112 l)) status bytes

  good_alike : (k : Kind) (b : ℕ) → good P (view last) k b ≡ good P (view r) k (d + b)
  unfolding good
  good_alike k b = good_agrees P ok.some_page (view last) (λ c. view r (d + c)) b (λ p h. alike b p) k

  table_alike : (b : ℕ) → table P (view last) b ≡ table P (view r) (d + b)
  unfolding table
  table_alike b = table_agrees P ok.some_page (view last) (λ c. view r (d + c)) b (λ p h. alike b p)

  -- ---- the one copy of a kind
  module _ {k : Kind} {b : ℕ} {t : Table} (x : Sole r k b t) where
    its : Unique chip.region (good P (view r) k) b
    its = only_find chip.region (good P (view r) k) b x.found

    above : d ≤ b → Sole last k (b - d) t
    above h =
        let same : d + (b - d) ≡ b = omega arith in
        record {
          found = find_only small.region (good P (view last) k) (b - d) (omega (arith, its.inside))
              (good_alike k (b - d) ∙ ap (good P (view r) k) same ∙ its.passes)
              (λ i l ne. good_alike k i ∙ its.no_other (d + i) (omega arith) (λ e. ne (omega arith)));
          content = table_alike (b - d) ∙ ap (table P (view r)) same ∙ x.content;
        }

    below : b < d → Missing last k
    below h = record {
      not_found = find_none small.region (good P (view last) k) (λ i l. good_alike k i ∙ its.no_other (d + i) (omega arith) (λ e. omega arith));
    }

  -- ---- the pair
  reads : (p m : ℕ) (t : Table) → Sole r Primary p t → Sole r Mirror m t → reading small (view last) ≡ found_above d p m t
  unfolding found_above reading read_case pair_case case_of
  reads p m t x y = go (leb d p) refl (leb d m) refl
    where
      go : (a : Bool) → leb d p ≡ a → (b : Bool) → leb d m ≡ b → reading small (view last) ≡ found_above d p m t
      go true a true b = settled_reading (above x (leb-true d p a)) (above y (leb-true d m b)) ∙ rw (a, b)
      go true a false b = rw ((above x (leb-true d p a)).found, (below y (leb-false d m b)).not_found, a, b)
      go false a true b = rw ((below x (leb-false d p a)).not_found, (above y (leb-true d m b)).found, a, b)
      go false a false b = rw ((below x (leb-false d p a)).not_found, (below y (leb-false d m b)).not_found, a, b)

pub below_not_found : BelowNotFound
below_not_found n size chip e d h r = record {
  seen_alike = alike ok d few r;
  pairs = λ p m t f. let s = reading_settled r p m t f in reads ok d few r p m t s.0 s.1;
}
  where
    ok : Judged chip
    ok = judge n size chip e

    few : d ≤ chip.region
    few = let v = chip_valid n size chip e in omega arith

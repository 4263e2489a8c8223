-- The first pair in C: pages by the entry's contract, and refusals by their numbers, which are told apart.
-- Assumes nothing.
use mathlib.Core.List.{List}
use mathlib.Core.Path.{◌≡◌, refl, sym, ap, ◌∙◌}
use Prim.Native.Nat.{ℕ, ◌<◌}
use native.Mathlib.Omega.{arith}
use lib.ListN.{length}
use Rattle.bbt.proofs.LeftPages.{Judged, judge}
use Rattle.bbt.specs.Copies.{Table}
use Rattle.bbt.specs.Histories.{snapshot, answer}
use Rattle.bbt.specs.Images.{Imaged, page_image}
use Rattle.bbt.specs.Plans.{Answer, refuse, plan, Reading, refused, reading, read_case, for_recovery}
use Rattle.bbt.specs.Regions.{Region, view}
use Rattle.bbt.specs.Starts.{AnyTable}
use Rattle.bbt.specs.Told.{told_answer}
use Rattle.bbt.specs.declared.Kind.{Kind}
use Rattle.bbt.specs.declared.Kind.TheVariants.{Primary}
use Rattle.bringup.proofs.Pages.{primary_lent}
use Rattle.bringup.specs.FirstPair.{OneCopy}
use Rattle.bringup.specs.TablePages.{table_page_answer, table_page_after}
use Rattle.chip.proofs.Telling.{refusal_of, refusal_back, told_apart}
use Rattle.chip.specs.Large.{bitmap_bytes, pages_of}
use Rattle.chip.specs.Refusals.{refusal_number, refusal_detail}
use Rattle.chip.specs.declared.LargeChip.{LargeChip}
use Rattle.chip.specs.declared.Refusal.{Refusal}
use Rattle.chip.specs.declared.Refusal.TheVariants.{NoCopy, NotSettled}
use Rattle.images.specs.Made.{image_answer_by, image_after_by}
use Rattle.packing.specs.Packing.{refusal_code}
use Rattle.reamsickle.specs.Boundary.{code_by}
use Rattle.reamsickle.specs.LargeBoundary.{table_code_by, plan_code_by, table_page_code}
use Rattle.table.specs.Tables.{told_reading}
use Rattle.claims.specs.Driver.{refusal_in, plan_told, read_told}
use Rattle.claims.specs.FirstPair.{FirstPairInC}
use Rattle.claims.proofs.Found.{plan-told, plan_answered, read_told_lem}

-- 7 is one refusal's number
seven_is : (x : Refusal) → refusal_in (refusal_code x) ≡ 7 → x ≡ NoCopy
unfolding refusal_of
seven_is x e =
    let number : refusal_number x ≡ 7 = omega (arith, told_apart.byte x) in
    sym (refusal_back x) ∙ ap (λ (n : ℕ). refusal_of n (refusal_detail x)) number

module _ {chip : LargeChip} (ok : Judged chip) where
  page : (t : Table) → AnyTable chip t → (p : ℕ) → p < pages_of chip → (room : List ℕ) → length room ≡ 2112
      → (table_page_code chip.blocks chip.region t.bitmap 1 t.version p room ≡ 0)
      × (table_page_after chip.blocks chip.region t.bitmap 1 t.version p room ≡ page_image Primary t p)
  unfolding table_page_code table_page_answer table_page_after
  page t any p l room h =
      let e = primary_lent ok t any p l room h in
      (ap (λ (x : Imaged). code_by (image_answer_by x)) e, ap (λ (x : Imaged). image_after_by x room) e)

  module _ (r : Region chip) (steps : List ℕ) (long : length steps ≡ 64) where
    code : (x : Refusal) → answer for_recovery (snapshot r) ≡ refuse x → plan_told for_recovery (snapshot r) steps ≡ refusal_code x
    code x e = plan-told ok (snapshot r) for_recovery steps long ∙ ap (λ (y : Answer). plan_code_by (told_answer chip y)) e

    begins : refusal_in (plan_told for_recovery (snapshot r) steps) ≡ 7 → answer for_recovery (snapshot r) ≡ refuse NoCopy
    begins z = go (answer for_recovery (snapshot r)) refl
      where
        go : (x : Answer) → answer for_recovery (snapshot r) ≡ x → x ≡ refuse NoCopy
        go (refuse x) e = ap refuse (seven_is x (ap refusal_in (sym (code x e)) ∙ z))
        go (plan q) e = let o = plan_answered ok (snapshot r) for_recovery steps long q e in absurd (omega (arith, o, z))

  module _ (r : Region chip) (room : List ℕ) (long : length room ≡ bitmap_bytes chip) where
    read : (x : Refusal) → reading chip (view r) ≡ refused x → read_told r room ≡ refusal_code x
    read x e = read_told_lem ok r room long ∙ ap (λ (y : Reading). table_code_by (told_reading chip y)) e

    one : (k : Kind) (b : ℕ) (t : Table) → OneCopy r k b t → read_told r room ≡ 10
    unfolding reading read_case
    one k b t h = read NotSettled (rw h.case)

pub first_pair_in_c : FirstPairInC
first_pair_in_c n size chip e = record {
  pages = page ok;
  begins = begins ok;
  seven = λ r steps long a. ap refusal_in (code ok r steps long NoCopy a);
  no_table = λ r room long h. read ok r room long NoCopy h.no_reading;
  one_copy = λ r k b t room long h. one ok r room long k b t h;
}
  where
    ok : Judged chip
    ok = judge n size chip e

-- The seventeen bytes of a page: eleven, and three for each half, put one behind the other.
-- Assumes nothing.
use mathlib.Core.List.{List, [], ◌++◌, append_assoc, append-nil}
use mathlib.Core.Path.{◌≡◌, refl, sym, ap, ap₂, ◌∙◌}
use Prim.Native.Nat.{ℕ}
use native.Mathlib.Omega.{arith}
use borrow.Author.Tests.{ne_eqb}
use borrow.Rule.Slice.PartMut.{put_mid, mid_of}
use lib.ListN.{length, drop, length-append, length-drop}
use lib.Seq.{drop-drop, drop-length}
use Rattle.bits.proofs.Filling.{copied_same}
use Rattle.bits.proofs.Parts.{fill_part}
use Rattle.bits.specs.Bytes.{copied}
use Rattle.ecc.specs.declared.Verdict.{Verdict}
use Rattle.ecc.specs.declared.Verdict.TheVariants.{Clean, CodeBit, DataBit, NotRepairable}
use Rattle.page.specs.Pages.{page_repairs}
use Rattle.page.specs.declared.PageFields.{PageFields}
use Rattle.packing.specs.Packing.{field_bytes, place_bytes, page_bytes}

place_long : (v : Verdict) → length (place_bytes v) ≡ 3
place_long Clean = refl
place_long (CodeBit j) = refl
place_long (DataBit a b) = refl
place_long NotRepairable = refl

pub page_long : (f : PageFields) → length (page_bytes f) ≡ 17
unfolding page_bytes
page_long f = simp length-append (omega (arith, place_long f.first, place_long f.second))

module _ (f : PageFields) (l : List ℕ) where
  -- into bytes of another number nothing is put
  pub page_kept : (length l ≡ 17 → ⊥) → l ≡ copied (page_bytes f) l
  unfolding copied
  page_kept h = sym (simp (ne_eqb (length l) (length (page_bytes f)) (λ e. h (e ∙ page_long f))))

  -- the three parts, one behind the other
  pub page_put : {repairs : ℕ} {first second a b c : List ℕ} → length l ≡ 17
      → repairs ≡ page_repairs f → first ≡ place_bytes f.first → second ≡ place_bytes f.second
      → a ≡ copied (field_bytes f.spare repairs) (mid_of 0 11 l) → b ≡ copied first (mid_of 11 3 (put_mid 0 11 l a)) → c ≡ copied second (mid_of 14 3 (put_mid 11 3 (put_mid 0 11 l a) b))
      → put_mid 14 3 (put_mid 11 3 (put_mid 0 11 l a) b) c ≡ copied (page_bytes f) l
  unfolding page_bytes
  page_put {repairs} {first} {second} {a} {b} {c} long er ef es ea eb ec =
      let told = field_bytes f.spare repairs in
      let three : length first ≡ 3 = ap length ef ∙ place_long f.first in
      let other : length second ≡ 3 = ap length es ∙ place_long f.second in
      let end : drop 3 (drop 3 (drop 11 l)) ≡ [] = ap (drop 3) (drop-drop 3 11 l) ∙ drop-drop 3 14 l ∙ ap (λ (n : ℕ). drop n l) (sym long) ∙ drop-length l in
      let one : put_mid 0 11 l a ≡ told ++ drop 11 l = ap (put_mid 0 11 l) ea ∙ fill_part [] told l 0 11 refl refl (omega arith) in
      let two : put_mid 11 3 (put_mid 0 11 l a) b ≡ (told ++ first) ++ drop 3 (drop 11 l)
      = ap (put_mid 11 3 (put_mid 0 11 l a)) eb ∙ ap (λ (x : List ℕ). put_mid 11 3 x (copied first (mid_of 11 3 x))) one
      ∙ fill_part told first (drop 11 l) 11 3 refl three (simp length-drop (omega arith)) in
      ap (put_mid 14 3 (put_mid 11 3 (put_mid 0 11 l a) b)) ec ∙ ap (λ (x : List ℕ). put_mid 14 3 x (copied second (mid_of 14 3 x))) two
      ∙ fill_part (told ++ first) second (drop 3 (drop 11 l)) 14 3 (simp length-append (omega arith)) other (simp (length-drop, length-drop) (omega arith))
      ∙ ap (λ (x : List ℕ). ((told ++ first) ++ second) ++ x) end ∙ append-nil ((told ++ first) ++ second) ∙ append_assoc told first second
      ∙ ap (λ (r : ℕ). field_bytes f.spare r ++ (first ++ second)) er ∙ ap₂ (λ (p q : List ℕ). field_bytes f.spare (page_repairs f) ++ (p ++ q)) ef es
      ∙ sym (copied_same (page_bytes f) l (long ∙ sym (page_long f)))

-- Demand 2 in C: each entry tells what the contracts below it answer, and those read back (`reads_back`).
-- Assumes nothing.
use Rattle.std.specs.Prelude.{Result}
use mathlib.Core.List.{List}
use mathlib.Core.Path.{◌≡◌, refl, ap, ◌∙◌}
use Prim.Native.Nat.{ℕ, ◌+◌}
use borrow.Author.Tests.{eq-eqb}
use lib.ListN.{length}
use Rattle.chip.specs.declared.Half.TheVariants.{First, Second}
use Rattle.chip.specs.declared.Refusal.{Refusal}
use Rattle.chip.specs.declared.Refusal.TheVariants.{Unrepairable}
use Rattle.packing.specs.Packing.{refusal_code}
use Rattle.page.proofs.ReadBack.{reads_back}
use Rattle.page.specs.Claims.{Page, written as as_written, Flips, none, one, two, with_flips, flip_verdict, flip_repairs, fields_of, flip_answer, flip_data, Reading, ReadsBack}
use Rattle.page.specs.Pages.{page_repairs}
use Rattle.page.specs.declared.PageFields.{PageFields}
use Rattle.reamsickle.specs.Boundary.{code_by, write_code, spare_code, spare_fields_after, page_code_by, page_fields_by, page_code, page_data_after, page_fields_after}
use Rattle.claims.specs.ReadBack.{written_fields, by_flips, PageReads, Demand2InC}

-- what reading a page answers, told in C
told : (p : Page) (fields : List ℕ) → length fields ≡ 11 → (answer : Result PageFields Refusal) (after : List ℕ) → Reading p answer after
    → PageReads p fields (page_code_by answer) after (page_fields_by answer fields)
unfolding page_code page_data_after page_fields_after
told p fields long answer after h = record {
  answered = rw (eq-eqb (length fields) 11 long) (ap page_code_by h.answered);
  left = rw (eq-eqb (length fields) 11 long) h.left;
  filled = rw (eq-eqb (length fields) 11 long) (ap (λ (a : Result PageFields Refusal). page_fields_by a fields) h.answered);
}

-- the answer by the flipped bits, as C tells it
module _ (tag path count : ℕ) (fields : List ℕ) where
  code_told : (f g : Flips) → page_code_by (flip_answer tag path count f g) ≡ by_flips f g (refusal_code (Unrepairable First)) (refusal_code (Unrepairable Second)) 0
  code_told none none = refl
  code_told none (one q) = refl
  code_told none (two q r) = refl
  code_told (one p) none = refl
  code_told (one p) (one q) = refl
  code_told (one p) (two q r) = refl
  code_told (two p s) g = refl

  data_told : (f g : Flips) (bytes lent : List ℕ) → flip_data (flip_answer tag path count f g) bytes lent ≡ by_flips f g lent lent bytes
  data_told none none bytes lent = refl
  data_told none (one q) bytes lent = refl
  data_told none (two q r) bytes lent = refl
  data_told (one p) none bytes lent = refl
  data_told (one p) (one q) bytes lent = refl
  data_told (one p) (two q r) bytes lent = refl
  data_told (two p s) g bytes lent = refl

  fields_told : (f g : Flips) → page_repairs (fields_of tag path count (flip_verdict f) (flip_verdict g)) ≡ flip_repairs f + flip_repairs g
      → page_fields_by (flip_answer tag path count f g) fields ≡ by_flips f g fields fields (written_fields tag path count (flip_repairs f + flip_repairs g))
  fields_told none none e = ap (written_fields tag path count) e
  fields_told none (one q) e = ap (written_fields tag path count) e
  fields_told none (two q r) e = refl
  fields_told (one p) none e = ap (written_fields tag path count) e
  fields_told (one p) (one q) e = ap (written_fields tag path count) e
  fields_told (one p) (two q r) e = refl
  fields_told (two p s) g e = refl

pub demand2_in_c : Demand2InC
unfolding write_code spare_code spare_fields_after
demand2_in_c bytes tag path count spare fields w ls lf = record {
  written = ap code_by (h.spare.accepted spare ls).0;
  spare_answered = rw (eq-eqb (length fields) 11 lf, (h.spare.accepted spare ls).1, h.spare.alone) refl;
  spare_told = rw (eq-eqb (length fields) 11 lf, (h.spare.accepted spare ls).1, h.spare.alone) refl;
  page-told = λ f g rf rg. rw (h.spare.accepted spare ls).1 (page f g (h.reads f g rf rg));
}
  where
    h : ReadsBack bytes tag path count
    h = reads_back bytes tag path count w

    after : Flips → Flips → Page
    after f g = with_flips First f (with_flips Second g (as_written bytes tag path count))

    page : (f g : Flips) → Reading (after f g) (flip_answer tag path count f g) (flip_data (flip_answer tag path count f g) bytes (after f g).bytes)
        → PageReads (after f g) fields (by_flips f g (refusal_code (Unrepairable First)) (refusal_code (Unrepairable Second)) 0)
        (by_flips f g (after f g).bytes (after f g).bytes bytes) (by_flips f g fields fields (written_fields tag path count (flip_repairs f + flip_repairs g)))
    page f g x =
        let t = told (after f g) fields lf (flip_answer tag path count f g) (flip_data (flip_answer tag path count f g) bytes (after f g).bytes) x in
        record {
          answered = t.answered ∙ code_told tag path count fields f g;
          left = t.left ∙ data_told tag path count fields f g bytes (after f g).bytes;
          filled = t.filled ∙ fields_told tag path count fields f g (h.counted f g);
        }

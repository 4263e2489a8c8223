-- A spare that is not ours, in C: both entries tell the refusal of the spare (`splits_five`), and a number tells which refusal it is (`told_apart`).
-- Assumes nothing.
use Rattle.std.specs.Prelude.{Result, Ok, Err}
use mathlib.Core.Bool.{Bool, true, false}
use mathlib.Core.List.{List}
use mathlib.Core.Path.{◌≡◌, refl, sym, ◌∙◌, ap}
use Prim.Native.Nat.{ℕ, ◌<◌}
use native.Mathlib.Omega.{arith}
use borrow.Author.Tests.{eq-eqb}
use lib.ListN.{length}
use Rattle.chip.proofs.Telling.{told_apart}
use Rattle.chip.specs.Refusals.{refusal_number}
use Rattle.chip.specs.declared.Refusal.{Refusal}
use Rattle.chip.specs.declared.Refusal.TheVariants.{Erased, NotOurs, NotOursRepaired}
use Rattle.ecc.specs.declared.Verdict.{Verdict}
use Rattle.packing.specs.Packing.{refusal_code}
use Rattle.page.specs.Pages.{is_repairable, by_verdicts, by_spare, page_answer, data_after}
use Rattle.reamsickle.specs.Boundary.{spare_code_by, spare_code, spare_fields_after, page_code_by, page_code, page_data_after, page_fields_after}
use Rattle.spare.proofs.WhyNotOurs.{splits_five}
use Rattle.spare.specs.Reading.{spare_answer}
use Rattle.spare.specs.WhyNotOurs.{Why}
use Rattle.spare.specs.declared.SpareFields.{SpareFields}
use Rattle.claims.specs.NotOurs.{BothRefuse, ExactlyWhen, NotOursInC}

-- what is told in C is one refusal's
code_is : (x r : Refusal) → refusal_code x ≡ refusal_code r → x ≡ r
code_is x r e = told_apart.apart x r (omega (arith, told_apart.byte x, told_apart.byte r)) (omega (arith, told_apart.byte x, told_apart.byte r))

-- a spare that is read is told as 0, or as 6 where a half is not repairable
zero_or_six : (f : SpareFields) (first second : Verdict) (r : Refusal) → 50 < refusal_number r → page_code_by (by_verdicts f first second) ≡ refusal_code r → ⊥
unfolding by_verdicts
zero_or_six f first second r h e = go (is_repairable first) refl (is_repairable second) refl
  where
    go : (a : Bool) → is_repairable first ≡ a → (b : Bool) → is_repairable second ≡ b → ⊥
    go false ea b eb = omega (arith, rw ea at e, told_apart.byte r)
    go true ea false eb = omega (arith, rw (ea, eb) at e, told_apart.byte r)
    go true ea true eb = omega (arith, rw (ea, eb) at e)

module _ (bytes spare fields : List ℕ) (lb : length bytes ≡ 512) (lf : length fields ≡ 11) where
  module _ (r : Refusal) (h : 50 < refusal_number r) where
    refused : Why spare r → BothRefuse bytes spare fields (refusal_code r)
    unfolding spare_code spare_fields_after page_code page_fields_after page_data_after data_after page_answer
    refused y =
        let answer = (splits_five spare).told r y in
        let room = eq-eqb (length fields) 11 lf in
        let page = eq-eqb (length bytes) 512 lb in
        record {
          spare_answered = rw (room, answer) refl;
          page_answered = rw (room, page, answer) refl;
          spare_fields = rw (room, answer) refl;
          page_fields = rw (room, page, answer) refl;
          page_data = rw (room, page, answer) refl;
        }

    spare_only : spare_code spare fields ≡ refusal_code r → Why spare r
    unfolding spare_code
    spare_only e = go (spare_answer spare) refl
      where
        code : spare_code_by (spare_answer spare) ≡ refusal_code r
        code = rw (eq-eqb (length fields) 11 lf) at e

        go : (a : Result SpareFields Refusal) → spare_answer spare ≡ a → Why spare r
        go (Ok f) q = absurd (omega (arith, sym (ap spare_code_by q) ∙ code))
        go (Err x) q = (splits_five spare).only r h (q ∙ ap Err (code_is x r (sym (ap spare_code_by q) ∙ code)))

    page_only : page_code bytes spare fields ≡ refusal_code r → Why spare r
    unfolding page_code page_answer
    page_only e = go (spare_answer spare) refl
      where
        code : page_code_by (by_spare bytes spare (spare_answer spare)) ≡ refusal_code r
        code = rw (eq-eqb (length fields) 11 lf, eq-eqb (length bytes) 512 lb) at e

        go : (a : Result SpareFields Refusal) → spare_answer spare ≡ a → Why spare r
        go (Ok f) q = absurd (zero_or_six f _ _ r h (rw q at code))
        go (Err x) q = (splits_five spare).only r h (q ∙ ap Err (code_is x r (rw q at code)))

    exactly : ExactlyWhen bytes spare fields (refusal_code r) (Why spare r)
    exactly = record { refused = refused; spare_only = spare_only; page_only = page_only }

pub not_ours_in_c : NotOursInC
not_ours_in_c bytes spare fields lb lf =
    (exactly bytes spare fields lb lf Erased (omega arith), exactly bytes spare fields lb lf NotOurs (omega arith), exactly bytes spare fields lb lf NotOursRepaired (omega arith))

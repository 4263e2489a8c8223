-- Planning and page images answer by what was judged: a refusal of what was lent or of the pair, or what is planned for the work that the pair's
-- case comes to.
-- Assumes nothing.
use Rattle.std.specs.Prelude.{Result, Ok, Err}
use mathlib.Core.Bool.{Bool, true, false, ◌&&◌}
use mathlib.Core.List.{List}
use mathlib.Core.Path.{◌≡◌, refl, ◌∙◌, ap, sym}
use Prim.Native.Nat.{ℕ}
use Rattle.bbt.specs.Failures.{failures}
use Rattle.bbt.specs.Lent.{judged, region_lent, call_lent, statuses_right, lent_plan, on_chip}
use Rattle.bbt.specs.Pages.{seen}
use Rattle.bbt.specs.Pairs.{pair_case}
use Rattle.bbt.specs.Plans.{Answer, refuse, Call, for_update, for_recovery, plan_by_rules}
use Rattle.bbt.specs.Told.{told_answer, told_case}
use Rattle.chip.specs.Large.{chip_of}
use Rattle.chip.specs.declared.LargeChip.{LargeChip}
use Rattle.chip.specs.declared.Refusal.{Refusal}
use Rattle.chip.specs.declared.Refusal.TheVariants.{Length, Range}
use Rattle.plan.proofs.Working.{answer_of, call_plans}
use Rattle.plan.specs.Answers.{plan_answer}
use Rattle.plan.specs.Calls.{beside_of, wanted_of}
use Rattle.plan.specs.Works.{call_work, work_answer}
use Rattle.plan.specs.declared.Work.{Work}
use Rattle.region.proofs.Judged.{by_lent}
use Rattle.region.specs.Cases.{beside_lent, lent_chip}
use Rattle.retire.proofs.Failing.{refused_on}

module _ (call : Call) (n size : ℕ) (image status failed : List ℕ) where
  -- what is planned on a chip, once these steps have failed
  abbrev pub planned_on : LargeChip → Answer
  planned_on own = failures own (seen own image status) (plan_by_rules own (seen own image status) call) failed

  -- what f makes of an answer, where it passes a refusal on
  module _ {A : Type 0} (out : Refusal → A) (f : LargeChip → Answer → A) (passed : (chip : LargeChip) (r : Refusal) → f chip (refuse r) ≡ out r) where
    -- is judged in the order of what is lent
    in_order : (own : LargeChip) (l s : Bool) (a : Answer) → f own (judged refuse l s a) ≡ judged out l s (f own a)
    in_order own false s a = passed own Length
    in_order own true false a = passed own Range
    in_order own true true a = refl

    same_lent : (own : LargeChip) → call_lent own call ≡ beside_lent own (beside_of call)
    same_lent own = go call
      where
        go : (call : Call) → call_lent own call ≡ beside_lent own (beside_of call)
        go (for_update w) = refl
        go for_recovery = refl

    one_chip : (own : LargeChip) → f own (lent_plan own call image status failed)
        ≡ judged out (region_lent own image status && beside_lent own (beside_of call)) (statuses_right status) (f own (planned_on own))
    unfolding lent_plan
    one_chip own =
        in_order own (region_lent own image status && call_lent own call) (statuses_right status) (planned_on own)
        ∙ ap (λ (t : Bool). judged out (region_lent own image status && t) (statuses_right status) (f own (planned_on own))) (same_lent own)

    by_chip : on_chip out (chip_of n size) (λ own. f own (lent_plan own call image status failed))
        ≡ on_chip out (lent_chip n size (beside_of call) image status) (λ own. f own (planned_on own))
    by_chip = go (chip_of n size) ∙ by_lent n size (beside_of call) image status out (λ own. f own (planned_on own))
      where
        go : (a : Result LargeChip Refusal) → on_chip out a (λ own. f own (lent_plan own call image status failed))
            ≡ on_chip out a (λ own. judged out (region_lent own image status && beside_lent own (beside_of call)) (statuses_right status) (f own (planned_on own)))
        go (Err r) = refl
        go (Ok own) = one_chip own

    pub by_out : (r : Refusal) → lent_chip n size (beside_of call) image status ≡ Err r
        → on_chip out (chip_of n size) (λ own. f own (lent_plan own call image status failed)) ≡ out r
    by_out r e = by_chip ∙ rw e refl

    module _ (chip : LargeChip) (lent : lent_chip n size (beside_of call) image status ≡ Ok chip) where
      by_call : on_chip out (chip_of n size) (λ own. f own (lent_plan own call image status failed))
          ≡ f chip (failures chip (seen chip image status) (answer_of chip image (wanted_of call) (call_work call chip image status (told_case (pair_case chip (seen chip image status))))) failed)
      by_call = by_chip ∙ rw lent (ap (λ (a : Answer). f chip (failures chip (seen chip image status) a failed)) (sym (call_plans n size chip image status call lent)))

      pub by_no_work : (r : Refusal) → call_work call chip image status (told_case (pair_case chip (seen chip image status))) ≡ Err r
          → on_chip out (chip_of n size) (λ own. f own (lent_plan own call image status failed)) ≡ out r
      by_no_work r w =
          by_call
          ∙ ap (λ (x : Result Work Refusal). f chip (failures chip (seen chip image status) (answer_of chip image (wanted_of call) x) failed)) w
          ∙ ap (f chip) (refused_on chip (seen chip image status) r failed) ∙ passed chip r

      pub by_work : (work : Work) → call_work call chip image status (told_case (pair_case chip (seen chip image status))) ≡ Ok work
          → on_chip out (chip_of n size) (λ own. f own (lent_plan own call image status failed))
          ≡ f chip (failures chip (seen chip image status) (work_answer chip image (wanted_of call) work) failed)
      by_work work w = by_call ∙ ap (λ (x : Result Work Refusal). f chip (failures chip (seen chip image status) (answer_of chip image (wanted_of call) x) failed)) w

  -- a plan's answer
  pub answer_out : (r : Refusal) → lent_chip n size (beside_of call) image status ≡ Err r → plan_answer n size call image status failed ≡ Err r
  unfolding plan_answer
  answer_out = by_out Err told_answer (λ chip r. refl)

  pub answer_no_work : (chip : LargeChip) (r : Refusal) → lent_chip n size (beside_of call) image status ≡ Ok chip
      → call_work call chip image status (told_case (pair_case chip (seen chip image status))) ≡ Err r → plan_answer n size call image status failed ≡ Err r
  unfolding plan_answer
  answer_no_work chip r lent = by_no_work Err told_answer (λ chip r. refl) chip lent r

  pub answer_work : (chip : LargeChip) (work : Work) → lent_chip n size (beside_of call) image status ≡ Ok chip
      → call_work call chip image status (told_case (pair_case chip (seen chip image status))) ≡ Ok work
      → plan_answer n size call image status failed ≡ told_answer chip (failures chip (seen chip image status) (work_answer chip image (wanted_of call) work) failed)
  unfolding plan_answer
  answer_work chip work lent = by_work Err told_answer (λ chip r. refl) chip lent work

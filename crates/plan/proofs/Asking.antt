-- A page image is asked for by what was judged: N, the room for a page, what else was lent, then the step of what is planned.
-- Assumes nothing.
use Rattle.std.specs.Prelude.{Result, Ok, Err}
use mathlib.Core.List.{List}
use mathlib.Core.Path.{◌≡◌, refl, ap}
use Prim.Native.Nat.{ℕ}
use borrow.Author.Tests.{eq-eqb, ne_eqb}
use lib.ListN.{length}
use Rattle.bbt.specs.Failures.{failures}
use Rattle.bbt.specs.Images.{Imaged, no_image, plan_image}
use Rattle.bbt.specs.Lent.{imaged}
use Rattle.bbt.specs.Pages.{seen}
use Rattle.bbt.specs.Pairs.{pair_case}
use Rattle.bbt.specs.Plans.{Call}
use Rattle.bbt.specs.Told.{told_case}
use Rattle.chip.specs.Large.{chip_of}
use Rattle.chip.specs.declared.LargeChip.{LargeChip}
use Rattle.chip.specs.declared.Refusal.{Refusal}
use Rattle.chip.specs.declared.Refusal.TheVariants.{Length}
use Rattle.images.specs.Made.{image_answer_by, image_after_by}
use Rattle.plan.proofs.Answering.{by_out, by_no_work, by_work}
use Rattle.plan.specs.Calls.{beside_of, wanted_of}
use Rattle.plan.specs.PageImages.{lent_image, image_answer, image_after}
use Rattle.plan.specs.Works.{call_work, work_answer}
use Rattle.plan.specs.declared.Work.{Work}
use Rattle.region.specs.Cases.{lent_chip}

-- why a call without room for a page is refused
abbrev reason : Result LargeChip Refusal → Refusal
reason (Err r) = r
reason (Ok chip) = Length

module _ (call : Call) (n size : ℕ) (image status failed : List ℕ) (i : ℕ) (room : List ℕ) where
  -- what is answered, and the room after it
  pub record Tells (x : Imaged) : Type 0 where
    pub answer : image_answer n size call image status failed i room ≡ image_answer_by x
    pub out : image_after n size call image status failed i room ≡ image_after_by x room

  tells : (x : Imaged) → lent_image n size call image status failed i room ≡ x → Tells x
  unfolding image_answer image_after
  tells x e = record { answer = ap image_answer_by e; out = ap (λ (z : Imaged). image_after_by z room) e }

  -- without room for a page: N and the size first
  no_room : (length room ≡ 2112 → ⊥) → (a : Result LargeChip Refusal) → chip_of n size ≡ a → Tells (no_image (reason a))
  unfolding lent_image
  no_room h (Err r) e = tells (no_image r) (rw (ne_eqb (length room) 2112 h, e) refl)
  no_room h (Ok chip) e = tells (no_image Length) (rw (ne_eqb (length room) 2112 h, e) refl)

  pub no_room_out_answer : (r : Refusal) → (length room ≡ 2112 → ⊥) → chip_of n size ≡ Err r → image_answer n size call image status failed i room ≡ Err r
  no_room_out_answer r h e = (no_room h (Err r) e).answer

  pub no_room_out_after : (r : Refusal) → (length room ≡ 2112 → ⊥) → chip_of n size ≡ Err r → image_after n size call image status failed i room ≡ room
  no_room_out_after r h e = (no_room h (Err r) e).out

  pub no_room_answer : (chip : LargeChip) → (length room ≡ 2112 → ⊥) → chip_of n size ≡ Ok chip → image_answer n size call image status failed i room ≡ Err Length
  no_room_answer chip h e = (no_room h (Ok chip) e).answer

  pub no_room_after : (chip : LargeChip) → (length room ≡ 2112 → ⊥) → chip_of n size ≡ Ok chip → image_after n size call image status failed i room ≡ room
  no_room_after chip h e = (no_room h (Ok chip) e).out

  -- what was lent is refused
  page_out : (r : Refusal) → length room ≡ 2112 → lent_chip n size (beside_of call) image status ≡ Err r → Tells (no_image r)
  unfolding lent_image imaged plan_image
  page_out r long e =
      tells (no_image r) (rw (eq-eqb (length room) 2112 long)
      (by_out call n size image status failed no_image (λ chip a. plan_image chip a i) (λ chip s. refl) r e))

  pub page_out_answer : (r : Refusal) → length room ≡ 2112 → lent_chip n size (beside_of call) image status ≡ Err r → image_answer n size call image status failed i room ≡ Err r
  page_out_answer r long e = (page_out r long e).answer

  pub page_out_after : (r : Refusal) → length room ≡ 2112 → lent_chip n size (beside_of call) image status ≡ Err r → image_after n size call image status failed i room ≡ room
  page_out_after r long e = (page_out r long e).out

  module _ (chip : LargeChip) where
    -- what the pair's case comes to
    comes_to : Result Work Refusal
    comes_to = call_work call chip image status (told_case (pair_case chip (seen chip image status)))

    page_no_work : (r : Refusal) → length room ≡ 2112 → lent_chip n size (beside_of call) image status ≡ Ok chip → comes_to ≡ Err r → Tells (no_image r)
    unfolding lent_image imaged plan_image comes_to
    page_no_work r long lent w =
        tells (no_image r) (rw (eq-eqb (length room) 2112 long)
        (by_no_work call n size image status failed no_image (λ chip a. plan_image chip a i) (λ chip s. refl) chip lent r w))

    pub page_no_work_answer : (r : Refusal) → length room ≡ 2112 → lent_chip n size (beside_of call) image status ≡ Ok chip
        → call_work call chip image status (told_case (pair_case chip (seen chip image status))) ≡ Err r → image_answer n size call image status failed i room ≡ Err r
    unfolding comes_to
    page_no_work_answer r long lent w = (page_no_work r long lent w).answer

    pub page_no_work_after : (r : Refusal) → length room ≡ 2112 → lent_chip n size (beside_of call) image status ≡ Ok chip
        → call_work call chip image status (told_case (pair_case chip (seen chip image status))) ≡ Err r → image_after n size call image status failed i room ≡ room
    unfolding comes_to
    page_no_work_after r long lent w = (page_no_work r long lent w).out

    -- by the work
    module _ (work : Work) (long : length room ≡ 2112) (lent : lent_chip n size (beside_of call) image status ≡ Ok chip)
        (w : call_work call chip image status (told_case (pair_case chip (seen chip image status))) ≡ Ok work) where
      by_plan : Tells (plan_image chip (failures chip (seen chip image status) (work_answer chip image (wanted_of call) work) failed) i)
      unfolding lent_image imaged plan_image
      by_plan =
          tells (plan_image chip (failures chip (seen chip image status) (work_answer chip image (wanted_of call) work) failed) i) (rw (eq-eqb (length room) 2112 long)
          (by_work call n size image status failed no_image (λ chip a. plan_image chip a i) (λ chip s. refl) chip lent work w))

      pub page_work_answer : image_answer n size call image status failed i room
          ≡ image_answer_by (plan_image chip (failures chip (seen chip image status) (work_answer chip image (wanted_of call) work) failed) i)
      page_work_answer = by_plan.answer

      pub page_work_after : image_after n size call image status failed i room
          ≡ image_after_by (plan_image chip (failures chip (seen chip image status) (work_answer chip image (wanted_of call) work) failed) i) room
      page_work_after = by_plan.out

-- The public answers go by N's refusal, or by what bbt's law says is the same.
-- Assumes nothing.
use Rattle.std.specs.Prelude.{Result, Ok, Err}
use mathlib.Core.List.{List}
use mathlib.Core.Path.{◌≡◌, refl, sym, ap, ◌∙◌}
use Prim.Native.Nat.{ℕ}
use Rattle.bbt.proofs.Dependence.{dependence}
use Rattle.bbt.specs.Dependence.{Alike, Depends}
use Rattle.bbt.specs.Lent.{on_chip, table_reading, planned, imaged}
use Rattle.bbt.specs.Plans.{Reading, Call}
use Rattle.bbt.specs.Told.{told_answer}
use Rattle.chip.specs.Large.{chip_of}
use Rattle.chip.specs.declared.LargeChip.{LargeChip}
use Rattle.chip.specs.declared.Refusal.{Refusal}
use Rattle.images.specs.Made.{image_answer_by, image_after_by}
use Rattle.table.specs.Tables.{told_reading, room_by, table_answer, table_after}
use Rattle.plan.proofs.Bridge.{bridged}
use Rattle.plan.specs.Answers.{plan_answer}
use Rattle.plan.specs.Dependence.{PublicDependence}
use Rattle.plan.specs.PageImages.{lent_image, image_answer, image_after}

module _ (n size : ℕ) (status x y : List ℕ) where
  -- bbt's law for every N and size: refused ones are answered without a look at the image
  depends : (a : Result LargeChip Refusal) → chip_of n size ≡ a → ((chip : LargeChip) → chip_of n size ≡ Ok chip → Alike chip status x y) → Depends n size status x y
  unfolding table_reading planned imaged
  depends (Err r) e alike = record { reads = λ room. rw e; plans = λ call failed. rw e; images = λ call failed i. rw e }
  depends (Ok chip) e alike = dependence n size chip status x y e (alike chip e)

  plans_same : (a : Result LargeChip Refusal) → chip_of n size ≡ a → Depends n size status x y → (call : Call) (failed : List ℕ)
      → plan_answer n size call x status failed ≡ plan_answer n size call y status failed
  unfolding plan_answer
  plans_same (Err r) e d call failed = rw e
  plans_same (Ok chip) e d call failed =
      (bridged n size chip call x status failed e).plans ∙ ap (told_answer chip) (d.plans call failed) ∙ sym (bridged n size chip call y status failed e).plans

  module _ (d : Depends n size status x y) where
    tables_same : (room : List ℕ) → table_answer n size x status room ≡ table_answer n size y status room
    unfolding table_answer
    tables_same room = ap (λ (t : Reading). on_chip Err (chip_of n size) (λ chip. told_reading chip t)) (d.reads room)

    bitmaps_same : (room : List ℕ) → table_after n size x status room ≡ table_after n size y status room
    unfolding table_after
    bitmaps_same room = ap (λ (t : Reading). room_by t room) (d.reads room)

    lent_same : (call : Call) (failed : List ℕ) (i : ℕ) (room : List ℕ) → lent_image n size call x status failed i room ≡ lent_image n size call y status failed i room
    unfolding lent_image
    lent_same call failed i room = rw (d.images call failed i)

    images_same : (call : Call) (failed : List ℕ) (i : ℕ) (room : List ℕ) → image_answer n size call x status failed i room ≡ image_answer n size call y status failed i room
    unfolding image_answer
    images_same call failed i room = ap image_answer_by (lent_same call failed i room)

    pages_same : (call : Call) (failed : List ℕ) (i : ℕ) (room : List ℕ) → image_after n size call x status failed i room ≡ image_after n size call y status failed i room
    unfolding image_after
    pages_same call failed i room = ap (λ t. image_after_by t room) (lent_same call failed i room)

pub public_dependence : PublicDependence
public_dependence n size status x y alike =
    let d = depends n size status x y (chip_of n size) refl alike in
    record {
      tables = tables_same n size status x y d;
      bitmaps = bitmaps_same n size status x y d;
      plans = plans_same n size status x y (chip_of n size) refl d;
      images = images_same n size status x y d;
      pages = pages_same n size status x y d;
    }

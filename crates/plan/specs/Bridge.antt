-- The bridge from the histories of demand 3 to the code that plans: for every call on the chip of N and the region's size, and room for a
-- page, what the contracts of planning and of page images answer and leave is what a history asks for (`planned`, `imaged`).
-- `table/specs/Bridge.antt` has reading.
use Rattle.std.specs.Prelude.{List, ◌≡◌, ℕ, length, Ok}
use Rattle.bbt.specs.Lent.{planned, imaged}
use Rattle.bbt.specs.Plans.{Call}
use Rattle.bbt.specs.Told.{told_answer}
use Rattle.chip.specs.Large.{chip_of}
use Rattle.chip.specs.declared.LargeChip.{LargeChip}
use Rattle.images.specs.Made.{image_answer_by, image_after_by}
use Rattle.plan.specs.Answers.{plan_answer}
use Rattle.plan.specs.PageImages.{image_answer, image_after}

pub record Bridge (n size : ℕ) (chip : LargeChip) (call : Call) (image status failed : List ℕ) : Type 0 where
  -- the plan or its refusal, as it is told
  pub plans : plan_answer n size call image status failed ≡ told_answer chip (planned n size call image status failed)
  -- the page of step i or its refusal, where there is room for a page
  pub answers : (i : ℕ) (room : List ℕ) → length room ≡ 2112 → image_answer n size call image status failed i room ≡ image_answer_by (imaged n size call image status failed i)
  pub pages : (i : ℕ) (room : List ℕ) → length room ≡ 2112 → image_after n size call image status failed i room ≡ image_after_by (imaged n size call image status failed i) room

abbrev pub Bridged : Type 0
Bridged = (n size : ℕ) (chip : LargeChip) (call : Call) (image status failed : List ℕ) → chip_of n size ≡ Ok chip → Bridge n size chip call image status failed

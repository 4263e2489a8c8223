-- Document 01: "Any other byte may change and no answer does", of the C entries that take a region image: for every N and size of
-- the region, refused ones too, every answer and every lent byte after the call.
use Rattle.std.specs.Prelude.{List, ◌≡◌, ℕ, Ok}
use Rattle.bbt.specs.Dependence.{Alike}
use Rattle.bbt.specs.Plans.{Call}
use Rattle.chip.specs.Large.{chip_of}
use Rattle.chip.specs.declared.LargeChip.{LargeChip}
use Rattle.plan.specs.Answers.{plan_answer}
use Rattle.plan.specs.PageImages.{image_after}
use Rattle.table.specs.Tables.{table_after}
use Rattle.reamsickle.specs.LargeBoundary.{table_code, plan_code, steps_after, image_code}

-- of images x and y under the same status bytes: ream_table_read, the plan entries, the page entries
pub record SameInC (n size : ℕ) (status x y : List ℕ) : Type 0 where
  pub tables : (room : List ℕ) → table_code n size x status room ≡ table_code n size y status room
  pub bitmaps : (room : List ℕ) → table_after n size x status room ≡ table_after n size y status room
  pub plans : (call : Call) (failed room : List ℕ)
      → plan_code n size (plan_answer n size call x status failed) room ≡ plan_code n size (plan_answer n size call y status failed) room
  pub steps : (call : Call) (failed room : List ℕ)
      → steps_after (plan_answer n size call x status failed) room ≡ steps_after (plan_answer n size call y status failed) room
  pub images : (call : Call) (failed : List ℕ) (i : ℕ) (room : List ℕ)
      → image_code n size call x status failed i room ≡ image_code n size call y status failed i room
  pub pages : (call : Call) (failed : List ℕ) (i : ℕ) (room : List ℕ)
      → image_after n size call x status failed i room ≡ image_after n size call y status failed i room

abbrev pub DependenceInC : Type 0
DependenceInC = (n size : ℕ) (status x y : List ℕ) → ((chip : LargeChip) → chip_of n size ≡ Ok chip → Alike chip status x y) → SameInC n size status x y

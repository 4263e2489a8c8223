-- Document 01: answers of reading, planning and page images depend on N, the region's size, the call's other arguments, the status
-- bytes, of well-read pages only the bitmap bytes and OOB 14-18, and of a block's first page its 64 OOB bytes. Here of the answers that the
-- public contracts name, and of what they leave in the lent room. For every N and size of the region: where they are refused, two images need nothing in common.
use Rattle.std.specs.Prelude.{List, ◌≡◌, ℕ, Ok}
use Rattle.bbt.specs.Dependence.{Alike}
use Rattle.bbt.specs.Plans.{Call}
use Rattle.chip.specs.Large.{chip_of}
use Rattle.chip.specs.declared.LargeChip.{LargeChip}
use Rattle.plan.specs.Answers.{plan_answer}
use Rattle.plan.specs.PageImages.{image_answer, image_after}
use Rattle.table.specs.Tables.{table_answer, table_after}

-- of images x and y under the same status bytes: reading, planning, page images
pub record SameAnswers (n size : ℕ) (status x y : List ℕ) : Type 0 where
  pub tables : (room : List ℕ) → table_answer n size x status room ≡ table_answer n size y status room
  pub bitmaps : (room : List ℕ) → table_after n size x status room ≡ table_after n size y status room
  pub plans : (call : Call) (failed : List ℕ) → plan_answer n size call x status failed ≡ plan_answer n size call y status failed
  pub images : (call : Call) (failed : List ℕ) (i : ℕ) (room : List ℕ) → image_answer n size call x status failed i room ≡ image_answer n size call y status failed i room
  pub pages : (call : Call) (failed : List ℕ) (i : ℕ) (room : List ℕ) → image_after n size call x status failed i room ≡ image_after n size call y status failed i room

abbrev pub PublicDependence : Type 0
PublicDependence =
    (n size : ℕ) (status x y : List ℕ) → ((chip : LargeChip) → chip_of n size ≡ Ok chip → Alike chip status x y) → SameAnswers n size status x y

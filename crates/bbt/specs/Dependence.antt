-- Document 01: answers depend on N, the region's size, the call's other arguments, the status bytes, of well-read pages only the bitmap bytes
-- and OOB 14-18, and of a block's first page, well-read or not, its 64 OOB bytes. Any other byte may change and no answer does.
use Rattle.std.specs.Prelude.{List, ◌≡◌, ℕ, ◌+◌, ◌*◌, ◌<◌, ◌≤◌, length, get_or, Ok}
use Rattle.chip.specs.Large.{chip_of, pages_of}
use Rattle.chip.specs.declared.LargeChip.{LargeChip}
use Rattle.bbt.specs.Lent.{table_reading, planned, imaged}
use Rattle.bbt.specs.Pages.{page_status, page_bytes, part_length}
use Rattle.bbt.specs.Plans.{Call}

-- byte j of page p of region block b
abbrev pub byte_in : LargeChip → List ℕ → ℕ → ℕ → ℕ → ℕ
byte_in chip image b p j = get_or (page_bytes image (b * pages_of chip + p)) j 0

-- a page of the region that reads well
pub record WellRead (chip : LargeChip) (status : List ℕ) (b p : ℕ) : Type 0 where
  pub block : b < chip.region
  pub page : p < pages_of chip
  pub well : page_status status (b * pages_of chip + p) ≡ 0

-- two images of one length that agree, under the same status bytes, on the bytes that count
pub record Alike (chip : LargeChip) (status x y : List ℕ) : Type 0 where
  pub lengths : length x ≡ length y
  pub bitmap : (b p j : ℕ) → WellRead chip status b p → j < part_length chip p → byte_in chip x b p j ≡ byte_in chip y b p j
  pub oob : (b p j : ℕ) → WellRead chip status b p → 14 ≤ j → j ≤ 18 → byte_in chip x b p (2048 + j) ≡ byte_in chip y b p (2048 + j)
  pub first_oob : (b j : ℕ) → b < chip.region → j < 64 → byte_in chip x b 0 (2048 + j) ≡ byte_in chip y b 0 (2048 + j)

-- the answers of reading, planning and page images are the same
pub record Depends (n size : ℕ) (status x y : List ℕ) : Type 0 where
  pub reads : (room : List ℕ) → table_reading n size x status room ≡ table_reading n size y status room
  pub plans : (call : Call) (failed : List ℕ) → planned n size call x status failed ≡ planned n size call y status failed
  pub images : (call : Call) (failed : List ℕ) (i : ℕ) → imaged n size call x status failed i ≡ imaged n size call y status failed i

abbrev pub Dependence : Type 0
Dependence = (n size : ℕ) (chip : LargeChip) (status x y : List ℕ) → chip_of n size ≡ Ok chip → Alike chip status x y → Depends n size status x y

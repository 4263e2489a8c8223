-- The C boundary of the large chip: what an answered call tells above the refusal number, and what each lent buffer holds afterwards.
-- Every definition is at every input; a refused call leaves what was lent.
use Rattle.std.specs.Prelude.{cond, List, ℕ, ◌+◌, ◌*◌, ◌%◌, eqb, length, Result, Ok, Err}
use Rattle.bbt.specs.Lent.{on_chip}
use Rattle.bbt.specs.Plans.{Call}
use Rattle.bbt.specs.Told.{told_steps}
use Rattle.bbt.specs.declared.Plan.{Plan}
use Rattle.factory.specs.FirstBitmap.{first_answer}
use Rattle.bringup.specs.TablePages.{table_page_answer}
use Rattle.chip.specs.Large.{chip_of}
use Rattle.chip.specs.declared.Refusal.{Refusal}
use Rattle.chip.specs.declared.Refusal.TheVariants.{Length}
use Rattle.packing.specs.Packing.{refusal_code, steps_put}
use Rattle.plan.specs.PageImages.{image_answer}
use Rattle.table.specs.Tables.{table_answer}
use Rattle.table.specs.declared.Pair.{Pair}
use Rattle.reamsickle.specs.Boundary.{code_by}

-- ---- ream_first_bitmap
unfoldable pub first_code : ℕ → ℕ → List ℕ → List ℕ → ℕ
first_code n size marks room = code_by (first_answer n size marks room)

-- ---- ream_table_read: the version in bits 8-15, the primary's chip block in bits 16-31, the mirror's in bits 32-47; sixteen bits
-- hold a chip block (`BlocksInRegion`, crate `claims`)
abbrev pub table_code_by : Result Pair Refusal → ℕ
table_code_by (Ok pair) = 256 * pair.version + 65536 * (pair.primary.0 % 65536) + 4294967296 * (pair.mirror.0 % 65536)
table_code_by (Err r) = refusal_code r

unfoldable pub table_code : ℕ → ℕ → List ℕ → List ℕ → List ℕ → ℕ
table_code n size image status room = table_code_by (table_answer n size image status room)

-- ---- ream_update_plan, ream_recovery_plan
-- the version in bits 8-15, the number of steps in bits 16-23
abbrev pub plan_code_by : Result Plan Refusal → ℕ
plan_code_by (Ok q) = 256 * q.version + 65536 * length (told_steps q)
plan_code_by (Err r) = refusal_code r

abbrev pub steps_put_by : Result Plan Refusal → List ℕ → List ℕ
steps_put_by (Ok q) room = steps_put (told_steps q) room
steps_put_by (Err r) room = room

-- N and the region's size first (2), then room for sixteen steps (1), then the answer, which is their own refusal where they are refused
unfoldable pub plan_code : ℕ → ℕ → Result Plan Refusal → List ℕ → ℕ
plan_code n size a room = cond (eqb (length room) 64) (plan_code_by a) (on_chip refusal_code (chip_of n size) (λ chip. refusal_code Length))

unfoldable pub steps_after : Result Plan Refusal → List ℕ → List ℕ
steps_after a room = cond (eqb (length room) 64) (steps_put_by a room) room

-- how many bytes the steps of an answer take
abbrev pub room_of : Result Plan Refusal → ℕ
room_of (Ok q) = 4 * length (told_steps q)
room_of (Err r) = 0

-- ---- ream_update_page, ream_recovery_page
unfoldable pub image_code : ℕ → ℕ → Call → List ℕ → List ℕ → List ℕ → ℕ → List ℕ → ℕ
image_code n size call image status failed i room = code_by (image_answer n size call image status failed i room)

-- ---- ream_table_page
unfoldable pub table_page_code : ℕ → ℕ → List ℕ → ℕ → ℕ → ℕ → List ℕ → ℕ
table_page_code n size bitmap kind version p room = code_by (table_page_answer n size bitmap kind version p room)

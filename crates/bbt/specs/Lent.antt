-- Document 01: what is lent to reading and planning, judged in its order: N and the region's size, then lengths, then status bytes, then the rest.
use Rattle.std.specs.Prelude.{Bool, true, cond, ◌&&◌, List, ℕ, eqb, ltb, length, get_or, Result, Ok, Err}
use Rattle.chip.specs.Large.{chip_of, bitmap_bytes, region_pages, region_bytes}
use Rattle.chip.specs.declared.LargeChip.{LargeChip}
use Rattle.chip.specs.declared.Refusal.{Refusal}
use Rattle.chip.specs.declared.Refusal.TheVariants.{Length, Range}
use Rattle.bbt.specs.Failures.{failures}
use Rattle.bbt.specs.Images.{Imaged, no_image, plan_image}
use Rattle.bbt.specs.Pages.{all, seen}
use Rattle.bbt.specs.Plans.{Reading, refused, reading, Answer, refuse, Call, for_update, for_recovery, plan_by_rules}

-- on the chip of N blocks with a region of its size, or their refusal
abbrev pub on_chip : {A : Type 0} → (Refusal → A) → Result LargeChip Refusal → (LargeChip → A) → A
on_chip out (Err r) f = out r
on_chip out (Ok chip) f = f chip

-- the image and its status bytes have their lengths
unfoldable pub region_lent : LargeChip → List ℕ → List ℕ → Bool
region_lent chip image status = eqb (length image) (region_bytes chip) && eqb (length status) (region_pages chip)

-- each status byte is 0, read well, or 1, unreadable
unfoldable pub statuses_right : List ℕ → Bool
statuses_right status = all (length status) (λ i. ltb (get_or status i 0) 2)

-- lengths (1), then status bytes (2), then the answer
abbrev pub judged : {A : Type 0} → (Refusal → A) → Bool → Bool → A → A
judged out lengths statuses a = cond lengths (cond statuses a (out Range)) (out Length)

-- reading, with room for the bitmap
unfoldable pub lent_reading : LargeChip → List ℕ → List ℕ → List ℕ → Reading
lent_reading chip image status room =
    judged refused (region_lent chip image status && eqb (length room) (bitmap_bytes chip)) (statuses_right status)
    (reading chip (seen chip image status))

unfoldable pub table_reading : ℕ → ℕ → List ℕ → List ℕ → List ℕ → Reading
table_reading n size image status room = on_chip refused (chip_of n size) (λ chip. lent_reading chip image status room)

-- planning, with a wanted bitmap for an update, and the numbers of the steps that have failed since the first plan, as many as there are
abbrev pub call_lent : LargeChip → Call → Bool
call_lent chip (for_update w) = eqb (length w) (bitmap_bytes chip)
call_lent chip for_recovery = true

unfoldable pub lent_plan : LargeChip → Call → List ℕ → List ℕ → List ℕ → Answer
lent_plan chip call image status failed =
    judged refuse (region_lent chip image status && call_lent chip call) (statuses_right status)
    (failures chip (seen chip image status) (plan_by_rules chip (seen chip image status) call) failed)

unfoldable pub planned : ℕ → ℕ → Call → List ℕ → List ℕ → List ℕ → Answer
planned n size call image status failed = on_chip refuse (chip_of n size) (λ chip. lent_plan chip call image status failed)

-- the page image of step i of the plan that planning gives
unfoldable pub imaged : ℕ → ℕ → Call → List ℕ → List ℕ → List ℕ → ℕ → Imaged
imaged n size call image status failed i = on_chip no_image (chip_of n size) (λ chip. plan_image chip (lent_plan chip call image status failed) i)

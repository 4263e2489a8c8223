-- A driver that follows the header: the numbers that it takes out of an answer, the steps that it finds in its buffer, and what a step, done,
-- cut or failed, leaves of the region. Nothing here but the entries' answers and bytes says what is done.
use Rattle.std.specs.Prelude.{cond, List, ◌⊎◌, ◌≢◌, ◌≡◌, ℕ, suc, ◌+◌, ◌*◌, ◌-◌, ◌/◌, ◌%◌, ◌<◌, ◌≤◌, eqb, length, get_or}
use Rattle.bbt.specs.Copies.{Table}
use Rattle.bbt.specs.Histories.{Last, one_table, pending, Closes, Snapshot, snapshot, with_failed}
use Rattle.bbt.specs.Plans.{updated, Call, for_update, for_recovery}
use Rattle.bbt.specs.Regions.{Region, Blank, Complete, Zeroed, Unreadable, Lost, Kept}
use Rattle.chip.specs.Large.{bitmap_bytes, pages_of}
use Rattle.chip.specs.declared.LargeChip.{LargeChip}
use Rattle.plan.specs.Answers.{plan_answer}
use Rattle.plan.specs.PageImages.{image_after}
use Rattle.table.specs.Tables.{table_after}
use Rattle.reamsickle.specs.LargeBoundary.{table_code, plan_code, steps_after, image_code}

-- ---- an answer taken apart: ream_refusal, ream_version, ream_step_count, ream_primary_block, ream_mirror_block
abbrev pub refusal_in : ℕ → ℕ
refusal_in a = a % 256

abbrev pub version_in : ℕ → ℕ
version_in a = a / 256 % 256

abbrev pub steps_in : ℕ → ℕ
steps_in a = a / 65536 % 256

abbrev pub primary_in : ℕ → ℕ
primary_in a = a / 65536 % 65536

abbrev pub mirror_in : ℕ → ℕ
mirror_in a = a / 4294967296 % 65536

-- ---- step i of the 64 bytes, four bytes a step: ream_step_get
pub data DriverStep : Type 0 where
  -- a chip block
  erases : ℕ → DriverStep
  -- a chip block and a page
  writes : ℕ → ℕ → DriverStep
  -- a chip block: zeros to the 64 OOB bytes of its first page
  zeroes : ℕ → DriverStep

abbrev pub step_byte : List ℕ → ℕ → ℕ → ℕ
step_byte steps i k = get_or steps (4 * i + k) 0

abbrev pub step_block : List ℕ → ℕ → ℕ
step_block steps i = 256 * step_byte steps i 1 + step_byte steps i 2

unfoldable pub driver_step : List ℕ → ℕ → DriverStep
driver_step steps i =
    cond (eqb (step_byte steps i 0) 0) (erases (step_block steps i))
    (cond (eqb (step_byte steps i 0) 1) (writes (step_block steps i) (step_byte steps i 3)) (zeroes (step_block steps i)))

-- the region block of a chip block: the region is the last blocks of the chip
abbrev pub place_of : LargeChip → ℕ → ℕ
place_of chip c = c - (chip.blocks - chip.region)

-- the pages that a step is about: all of its block, or one
abbrev pub StepTouches : LargeChip → DriverStep → ℕ → ℕ → Type 0
StepTouches chip (erases c) b q = b ≡ place_of chip c
StepTouches chip (writes c p) b q = (b ≡ place_of chip c) × (q ≡ p)
StepTouches chip (zeroes c) b q = (b ≡ place_of chip c) × (q ≡ 0)

module _ {chip : LargeChip} where
  -- ---- the entries on a region of a chip, with the numbers of the steps that have failed: their answers, and the lent bytes afterwards
  -- ream_update_plan, ream_recovery_plan
  abbrev pub plan_told : Call → Snapshot chip → List ℕ → ℕ
  plan_told call a steps = plan_code chip.blocks chip.region (plan_answer chip.blocks chip.region call a.from.image a.from.status a.failed) steps

  abbrev pub steps_told : Call → Snapshot chip → List ℕ → List ℕ
  steps_told call a steps = steps_after (plan_answer chip.blocks chip.region call a.from.image a.from.status a.failed) steps

  -- ream_update_page, ream_recovery_page
  abbrev pub image_told : Call → Snapshot chip → ℕ → List ℕ → ℕ
  image_told call a i page = image_code chip.blocks chip.region call a.from.image a.from.status a.failed i page

  abbrev pub page_told : Call → Snapshot chip → ℕ → List ℕ → List ℕ
  page_told call a i page = image_after chip.blocks chip.region call a.from.image a.from.status a.failed i page

  -- ream_table_read: its answer, the bitmap, and both as a table
  abbrev pub read_told : Region chip → List ℕ → ℕ
  read_told r room = table_code chip.blocks chip.region r.image r.status room

  abbrev pub bitmap_told : Region chip → List ℕ → List ℕ
  bitmap_told r room = table_after chip.blocks chip.region r.image r.status room

  abbrev pub table_told : Region chip → List ℕ → Table
  table_told r room = record { version = version_in (read_told r room); bitmap = bitmap_told r room }

  -- ---- what a step leaves
  -- done: all P pages blank, its page complete, as the filled buffer asks, or zeros in those 64 bytes
  abbrev pub StepDone : List ℕ → DriverStep → Region chip → Type 0
  StepDone page (erases c) s = (p : ℕ) → p < pages_of chip → Blank s (place_of chip c) p
  StepDone page (writes c p) s = Complete s (place_of chip c) p page
  StepDone page (zeroes c) s = Zeroed s (place_of chip c) 0

  -- cut or failed: each of the P pages as it was, blank or unreadable; its page blank, complete or unreadable; its first page as it was, with those
  -- bytes 0, or unreadable
  abbrev pub StepCut : List ℕ → DriverStep → Region chip → Region chip → Type 0
  StepCut page (erases c) r s = (p : ℕ) → p < pages_of chip → Kept r s (place_of chip c) p ⊎ (Blank s (place_of chip c) p ⊎ Lost s (place_of chip c) p)
  StepCut page (writes c p) r s = Blank s (place_of chip c) p ⊎ (Complete s (place_of chip c) p page ⊎ Lost s (place_of chip c) p)
  StepCut page (zeroes c) r s = Kept r s (place_of chip c) 0 ⊎ (Zeroed s (place_of chip c) 0 ⊎ Unreadable s (place_of chip c) 0)

  -- other pages keep status and bytes
  abbrev pub RestKept : DriverStep → Region chip → Region chip → Type 0
  RestKept e r s = (b p : ℕ) → b < chip.region → p < pages_of chip → ¬ StepTouches chip e b p → Kept r s b p

-- ---- what a driver has in hand: nothing, or a call, the region that it was planned from with the failed steps' numbers, the 64 bytes, the number
-- of steps and the next one
pub data DriverHand (chip : LargeChip) : Type 0 where
  nothing : DriverHand chip
  doing : Call → Snapshot chip → List ℕ → ℕ → ℕ → DriverHand chip

pub data DriverWorld (chip : LargeChip) : Type 0 where
  at : Region chip → DriverHand chip → Last → DriverWorld chip

-- the last update as its plan is made, with or without steps
abbrev pub as_told : Table → Table → ℕ → Last
as_told o n count = cond (eqb count 0) (one_table o) (pending o n)

module _ {chip : LargeChip} where
  -- after a step: the plan has ended where no step is left
  pub record StepsLeft (s : Region chip) (left : ℕ) (l l' : Last) : Type 0 where
    pub none : left ≡ 0 → Closes s l l'
    pub some : left ≢ 0 → l' ≡ l

  -- an event at region r, with a plan in hand, after the last update l. Buffers of the header's lengths hold anything before a call
  pub data DriverEvent (r : Region chip) (l : Last) : DriverHand chip → DriverWorld chip → Type 0 where
    -- a refusal changes nothing
    refused : {h : DriverHand chip} (call : Call) (steps : List ℕ) → length steps ≡ 64 → refusal_in (plan_told call (snapshot r) steps) ≢ 0
        → DriverEvent r l h (at r h l)
    -- a plan replaces the one in hand
    update : {h : DriverHand chip} (wanted steps room : List ℕ) → length steps ≡ 64 → length room ≡ bitmap_bytes chip
        → refusal_in (plan_told (for_update wanted) (snapshot r) steps) ≡ 0
        → DriverEvent r l h
        (at r (doing (for_update wanted) (snapshot r) (steps_told (for_update wanted) (snapshot r) steps) (steps_in (plan_told (for_update wanted) (snapshot r) steps)) 0)
        (as_told (table_told r room) (updated (table_told r room) wanted) (steps_in (plan_told (for_update wanted) (snapshot r) steps))))
    recovery : {h : DriverHand chip} (steps : List ℕ) (l' : Last) → length steps ≡ 64 → refusal_in (plan_told for_recovery (snapshot r) steps) ≡ 0 → Closes r l l'
        → DriverEvent r l h
        (at r (doing for_recovery (snapshot r) (steps_told for_recovery (snapshot r) steps) (steps_in (plan_told for_recovery (snapshot r) steps)) 0) l')
    -- the next step runs to its end
    done : {call : Call} {a : Snapshot chip} {steps : List ℕ} {n i : ℕ} (s : Region chip) (l' : Last) (page : List ℕ) → i < n → length page ≡ 2112
        → RestKept (driver_step steps i) r s → StepDone (page_told call a i page) (driver_step steps i) s → StepsLeft s (n - suc i) l l'
        → DriverEvent r l (doing call a steps n i) (at s (doing call a steps n (suc i)) l')
    -- power is cut in the next step, or between steps: a cut ends the plan
    cut : {call : Call} {a : Snapshot chip} {steps : List ℕ} {n i : ℕ} (s : Region chip) (l' : Last) (page : List ℕ) → i < n → length page ≡ 2112
        → RestKept (driver_step steps i) r s → StepCut (page_told call a i page) (driver_step steps i) r s → Closes s l l'
        → DriverEvent r l (doing call a steps n i) (at s nothing l')
    cut_between : {h : DriverHand chip} (l' : Last) → Closes r l l' → DriverEvent r l h (at r nothing l')
    -- the next step fails: its number joins the others, and the driver plans anew, from the same region, into room for sixteen steps; it goes on at
    -- step 0, or, refused, gives the plan up
    fail : {call : Call} {a : Snapshot chip} {steps : List ℕ} {n i : ℕ} (s : Region chip) (page room : List ℕ) → i < n → length page ≡ 2112 → length room ≡ 64
        → RestKept (driver_step steps i) r s → StepCut (page_told call a i page) (driver_step steps i) r s → refusal_in (plan_told call (with_failed a i) room) ≡ 0
        → DriverEvent r l (doing call a steps n i)
        (at s (doing call (with_failed a i) (steps_told call (with_failed a i) room) (steps_in (plan_told call (with_failed a i) room)) 0) l)
    give_up : {call : Call} {a : Snapshot chip} {steps : List ℕ} {n i : ℕ} (s : Region chip) (l' : Last) (page room : List ℕ) → i < n → length page ≡ 2112
        → length room ≡ 64 → RestKept (driver_step steps i) r s → StepCut (page_told call a i page) (driver_step steps i) r s
        → refusal_in (plan_told call (with_failed a i) room) ≢ 0 → Closes s l l' → DriverEvent r l (doing call a steps n i) (at s nothing l')
    -- a step with no step left, or with no plan, changes nothing
    no_step_left : {call : Call} {a : Snapshot chip} {steps : List ℕ} {n i : ℕ} → n ≤ i → DriverEvent r l (doing call a steps n i) (at r (doing call a steps n i) l)
    no_plan : DriverEvent r l nothing (at r nothing l)

  pub data DriverHistory : DriverWorld chip → DriverWorld chip → Type 0 where
    start : {w : DriverWorld chip} → DriverHistory w w
    next : {w u : DriverWorld chip} {r : Region chip} {h : DriverHand chip} {l : Last} → DriverHistory w (at r h l) → DriverEvent r l h u → DriverHistory w u

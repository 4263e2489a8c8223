-- The bridge to C: what a driver that follows the header finds in its buffers is what the events of a history speak of. On a region of the
-- chip, with rooms of the lengths that the header names.
use Rattle.std.specs.Prelude.{List, ◌≡◌, ℕ, ◌<◌, length, get_or, Some, Ok}
use Rattle.bbt.specs.Copies.{Table}
use Rattle.bbt.specs.Histories.{Snapshot, answer, asked}
use Rattle.bbt.specs.Images.{no_image, page-image}
use Rattle.bbt.specs.Plans.{Plan, steps_of, plan_version, refuse, plan, Call, refused, holds, reading}
use Rattle.bbt.specs.Regions.{Region, view}
use Rattle.bbt.specs.Told.{chip_block, told_plan, told_steps, nth_step}
use Rattle.bbt.specs.declared.Step.{Step}
use Rattle.chip.specs.Large.{chip_of, bitmap_bytes, pages_of}
use Rattle.chip.specs.declared.LargeChip.{LargeChip}
use Rattle.chip.specs.declared.Refusal.{Refusal}
use Rattle.packing.specs.Packing.{refusal_code, step_bytes}
use Rattle.claims.specs.Driver.{refusal_in, version_in, steps_in, primary_in, mirror_in, step_byte, plan_told, steps_told, image_told, page_told, read_told, bitmap_told}

-- for a snapshot: a region, and the numbers of the steps that have failed
module _ {chip : LargeChip} (a : Snapshot chip) where
  -- the plan that the history is given: its version and number of steps, and the four bytes of each step
  pub record PlanFound (call : Call) (q : Plan) (steps : List ℕ) : Type 0 where
    pub answered : refusal_in (plan_told call a steps) ≡ 0
    pub version : version_in (plan_told call a steps) ≡ plan_version q
    pub count : steps_in (plan_told call a steps) ≡ length (steps_of (pages_of chip) q)
    pub each : (i : ℕ) → i < length (steps_of (pages_of chip) q)
        → (s : Step) × (nth_step (told_steps (told_plan chip q)) i ≡ Some s)
        × ((k : ℕ) → k < 4 → step_byte (steps_told call a steps) i k ≡ get_or (step_bytes s) k 0)

  pub record FindsPlans : Type 0 where
    -- ream_update_plan, ream_recovery_plan: the history's plan, or its refusal alone
    pub plans : (call : Call) (q : Plan) (steps : List ℕ) → length steps ≡ 64 → answer call a ≡ plan q → PlanFound call q steps
    pub no_plan : (call : Call) (x : Refusal) (steps : List ℕ) → length steps ≡ 64 → answer call a ≡ refuse x
        → (plan_told call a steps ≡ refusal_code x) × (steps_told call a steps ≡ steps)
    -- ream_update_page, ream_recovery_page: the page that the history asks for by a step's number, or its refusal alone
    pub pages : (call : Call) (i : ℕ) (page bytes : List ℕ) → length page ≡ 2112 → asked call a i ≡ page-image bytes
        → (image_told call a i page ≡ 0) × (page_told call a i page ≡ bytes)
    pub no_page : (call : Call) (i : ℕ) (page : List ℕ) (x : Refusal) → length page ≡ 2112 → asked call a i ≡ no_image x
        → (image_told call a i page ≡ refusal_code x) × (page_told call a i page ≡ page)

module _ {chip : LargeChip} (r : Region chip) where
  -- the table that the history holds: its version, the chip blocks of both copies, the bitmap
  pub record TableFound (p m : ℕ) (t : Table) (room : List ℕ) : Type 0 where
    pub answered : refusal_in (read_told r room) ≡ 0
    pub version : version_in (read_told r room) ≡ t.version
    pub primary : primary_in (read_told r room) ≡ (chip_block chip p).0
    pub mirror : mirror_in (read_told r room) ≡ (chip_block chip m).0
    pub bitmap : bitmap_told r room ≡ t.bitmap

  pub record FindsTables : Type 0 where
    -- ream_table_read: the settled table, or its refusal alone
    pub tables : (p m : ℕ) (t : Table) (room : List ℕ) → length room ≡ bitmap_bytes chip → reading chip (view r) ≡ holds p m t → TableFound p m t room
    pub no_table : (x : Refusal) (room : List ℕ) → length room ≡ bitmap_bytes chip → reading chip (view r) ≡ refused x
        → (read_told r room ≡ refusal_code x) × (bitmap_told r room ≡ room)

abbrev pub BridgeToC : Type 0
BridgeToC = (n size : ℕ) (chip : LargeChip) → chip_of n size ≡ Ok chip → ((a : Snapshot chip) → FindsPlans a) × ((r : Region chip) → FindsTables r)

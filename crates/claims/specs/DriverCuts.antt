-- Demand 3 as a sentence about the bytes of the C entries: a driver that follows the header, from any region that ream_table_read answers,
-- through any list of plans, steps, cuts and failed steps.
use Rattle.std.specs.Prelude.{false, List, ◌⊎◌, ◌≡◌, ℕ, ◌+◌, ◌-◌, ◌<◌, ◌≤◌, length, Ok}
use Rattle.bbt.specs.Copies.{reads_bad}
use Rattle.bbt.specs.Histories.{one_table, Snapshot, snapshot, with_failed, Hand, empty, holding, World, world, History}
use Rattle.bbt.specs.Plans.{Call, for_update, for_recovery}
use Rattle.bbt.specs.PowerCuts.{NotGoodKept, Outcome, Start}
use Rattle.bbt.specs.Regions.{Region, view}
use Rattle.chip.specs.Large.{chip_of, bitmap_bytes, pages_of}
use Rattle.chip.specs.declared.LargeChip.{LargeChip}
use Rattle.claims.specs.Driver.{refusal_in, DriverStep, erases, writes, zeroes, driver_step, plan_told, steps_told, image_told, read_told, table_told, place_of, DriverHand, nothing, doing, DriverWorld, at, DriverHistory}

-- the chip block that a step names is one of N − size to N − 1
abbrev pub BlockInRegion : LargeChip → ℕ → Type 0
BlockInRegion chip c = (chip.blocks - chip.region ≤ c) × (c < chip.blocks)

module _ {chip : LargeChip} where
  abbrev pub region_at : DriverWorld chip → Region chip
  region_at (at r h l) = r

  -- ream_table_read answers: the pair is settled
  abbrev pub Answers : Region chip → List ℕ → Type 0
  Answers r room = (length room ≡ bitmap_bytes chip) × (refusal_in (read_told r room) ≡ 0)

  -- any region that it answers, no plan in hand; old is what it told
  pub data DriverStart : DriverWorld chip → Type 0 where
    from_settled : {r : Region chip} (room : List ℕ) → Answers r room → DriverStart (at r nothing (one_table (table_told r room)))

  -- a recovery with no step left: ream_table_read answers, with the version and the bitmap of the outcome
  abbrev pub DriverSettles : DriverWorld chip → Type 0
  DriverSettles (at r nothing l) = Unit {0}
  DriverSettles (at r (doing (for_update w) a steps n i) l) = Unit {0}
  DriverSettles (at r (doing for_recovery a steps n i) l) =
      n ≤ i → (room : List ℕ) → length room ≡ bitmap_bytes chip → (refusal_in (read_told r room) ≡ 0) × Outcome l (table_told r room)

  -- the next step erases no block readable as bad, or writes a page below P, for which the page entry is not refused
  abbrev pub DriverHarmless : Call → Snapshot chip → ℕ → Region chip → DriverStep → Type 0
  DriverHarmless call a i r (erases c) = BlockInRegion chip c × (reads_bad (view r) (place_of chip c) ≡ false)
  DriverHarmless call a i r (writes c p) =
      BlockInRegion chip c × (p < pages_of chip) × ((page : List ℕ) → length page ≡ 2112 → image_told call a i page ≡ 0)
  DriverHarmless call a i r (zeroes c) = BlockInRegion chip c

  -- were the next step to fail, planning anew is refused with 11, or gives a plan that starts with zeros to its block; for zeros it is refused with 12
  abbrev pub Retires : Call → Snapshot chip → ℕ → List ℕ → Type 0
  Retires call a c room = (refusal_in (plan_told call a room) ≡ 11) ⊎ ((refusal_in (plan_told call a room) ≡ 0) × (driver_step (steps_told call a room) 0 ≡ zeroes c))

  abbrev pub DriverFails : Call → Snapshot chip → DriverStep → List ℕ → Type 0
  DriverFails call a (erases c) room = Retires call a c room
  DriverFails call a (writes c p) room = Retires call a c room
  DriverFails call a (zeroes c) room = refusal_in (plan_told call a room) ≡ 12

  abbrev pub DriverNext : DriverWorld chip → Type 0
  DriverNext (at r nothing l) = Unit {0}
  DriverNext (at r (doing call a steps n i) l) =
      i < n → DriverHarmless call a i r (driver_step steps i)
      × ((room : List ℕ) → length room ≡ 64 → DriverFails call (with_failed a i) (driver_step steps i) room)

  -- what holds at every moment; ream_recovery_plan, called for what the region holds, is never refused
  pub record DriverPromise (w : DriverWorld chip) : Type 0 where
    pub settles : DriverSettles w
    pub next_step : DriverNext w
    pub recovers : (steps : List ℕ) → length steps ≡ 64 → refusal_in (plan_told for_recovery (snapshot (region_at w)) steps) ≡ 0

-- after every list of events; and a block that a settled table calls not good keeps that entry in every later settled one
pub record DriverSafe (chip : LargeChip) : Type 0 where
  pub promise : {w v : DriverWorld chip} → DriverStart w → DriverHistory w v → DriverPromise v
  pub not_good_kept : {w v u : DriverWorld chip} → DriverStart w → DriverHistory w v → DriverHistory v u → (x y : List ℕ)
      → Answers (region_at v) x → Answers (region_at u) y → NotGoodKept chip (table_told (region_at v) x) (table_told (region_at u) y)

abbrev pub Demand3InC : Type 0
Demand3InC = (n size : ℕ) (chip : LargeChip) → chip_of n size ≡ Ok chip → DriverSafe chip

-- ---- nothing is left out
module _ {chip : LargeChip} where
  -- a driver has in hand what a history has: the call, the region that it was planned from with the failed steps' numbers, the next step's number,
  -- and as many steps left
  abbrev pub SameHand : DriverHand chip → Hand chip → Type 0
  SameHand nothing empty = Unit {0}
  SameHand nothing (holding c a j es) = ⊥
  SameHand (doing call a steps n i) empty = ⊥
  SameHand (doing call a steps n i) (holding c b j es) = (c ≡ call) × (b ≡ a) × (j ≡ i) × (length es + i ≡ n)

  -- where a history of demand 3 starts, a driver's can start, and whatever world the one leads to, the other leads there
  abbrev pub DriverReaches : World chip → World chip → Type 0
  DriverReaches (world r k m) (world s h l) =
      DriverStart (at r nothing m) × (d : DriverHand chip) × SameHand d h × DriverHistory (at r nothing m) (at s d l)

abbrev pub NothingLeftOutInC : Type 0
NothingLeftOutInC = (n size : ℕ) (chip : LargeChip) → chip_of n size ≡ Ok chip → (w v : World chip) → Start w → History w v → DriverReaches w v

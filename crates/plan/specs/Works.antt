-- What a call of planning comes to by the pair's case, and what the rules plan for it from the tables that the blocks' bytes hold.
use Rattle.std.specs.Prelude.{true, false, List, [], ◌≡◌, ℕ, ◌<◌, ℤ, pos, negsuc, replicate, set, Option, Some, None, Result, Ok, Err}
use Rattle.std.specs.Coded.{×_prop, Unit-prop, le_prop, Coded-set, coded_ℕ}
use Rattle.bbt.specs.Entries.{updated_bytes, and_bytes}
use Rattle.bbt.specs.Pages.{seen}
use Rattle.bbt.specs.Plans.{Answer, Call, for_update, for_recovery, plan, fresh, idle, single, double, holds, update_from, other_kind, anded}
use Rattle.region.specs.Stored.{stored_table}
use Rattle.bbt.specs.declared.Kind.{Kind}
use Rattle.bbt.specs.declared.Kind.TheVariants.{Primary, Mirror}
use Rattle.bbt.specs.declared.PairCase.{PairCase}
use Rattle.bbt.specs.declared.PairCase.TheVariants.{Alone, Settled, Merging, Differing}
use Rattle.chip.specs.Large.{bitmap_bytes}
use Rattle.chip.specs.declared.LargeChip.{LargeChip}
use Rattle.chip.specs.declared.Refusal.{Refusal}
use Rattle.chip.specs.declared.Refusal.TheVariants.{NotSettled, NoTarget}
use Rattle.chip.specs.declared.RegionBlock.{RegionBlock}
use Rattle.plan.specs.declared.Work.{Work}
use Rattle.plan.specs.declared.Work.TheVariants.{Keep, Update, Copy, Merge}
use Rattle.region.specs.Targets.{told_target, target_by}

-- ---- by the pair's case
-- an update
abbrev pub update_work : PairCase → Result Work Refusal
update_work (Alone k b) = Err NotSettled
update_work (Settled p m) = Ok (Update p m)
update_work (Merging p m) = Err NotSettled
update_work (Differing d p m) = Err NotSettled

-- a recovery: only one kind good, by the target that was found
abbrev pub missing_work : Kind → RegionBlock → Option RegionBlock → Result Work Refusal
missing_work k g None = Err NoTarget
missing_work k g (Some b) = Ok (Copy g b (other_kind k))

-- the sign of d chooses which copy is written anew
abbrev pub newer_work : ℤ → RegionBlock → RegionBlock → Work
newer_work (pos n) p m = Copy p m Mirror
newer_work (negsuc n) p m = Copy m p Primary

abbrev pub recovery_work : LargeChip → List ℕ → List ℕ → PairCase → Result Work Refusal
recovery_work chip image status (Alone k g) = missing_work k g (told_target (target_by chip (seen chip image status) (set (replicate 7 false) g.0 true)))
recovery_work chip image status (Settled p m) = Ok (Keep p)
recovery_work chip image status (Merging p m) = Ok (Merge p m)
recovery_work chip image status (Differing d p m) = Ok (newer_work d p m)

-- what is asked, by the pair's case, or why there is none
abbrev pub work_of : Call → LargeChip → List ℕ → List ℕ → PairCase → Result Work Refusal
work_of (for_update w) chip image status c = update_work c
work_of for_recovery chip image status c = recovery_work chip image status c

abbrev pub call_work : Call → LargeChip → List ℕ → List ℕ → Result PairCase Refusal → Result Work Refusal
call_work call chip image status (Ok c) = work_of call chip image status c
call_work call chip image status (Err r) = Err r

-- ---- what is planned, and the bitmap that is written
unfoldable pub work_answer : LargeChip → List ℕ → List ℕ → Work → Answer
work_answer chip image w (Keep b) = plan (fresh (idle (stored_table chip image b.0).version))
work_answer chip image w (Update p m) = update_from w (holds p.0 m.0 (stored_table chip image p.0))
work_answer chip image w (Copy b t k) = plan (fresh (single k t.0 b.0 (stored_table chip image b.0)))
work_answer chip image w (Merge p m) = plan (fresh (double p.0 m.0 (anded (stored_table chip image p.0) (stored_table chip image m.0))))

unfoldable pub work_bitmap : LargeChip → List ℕ → List ℕ → Work → List ℕ
work_bitmap chip image w (Keep b) = []
work_bitmap chip image w (Update p m) = updated_bytes (stored_table chip image p.0).bitmap w
work_bitmap chip image w (Copy b t k) = (stored_table chip image b.0).bitmap
work_bitmap chip image w (Merge p m) = and_bytes (stored_table chip image p.0).bitmap (stored_table chip image m.0).bitmap

-- the blocks that the bitmap comes from are in the region, and a wanted one has its length
abbrev pub Placed : LargeChip → ℕ → Work → Type 0
Placed chip size (Keep b) = Unit {0}
Placed chip size (Update p m) = (p.0 < chip.region) × (size ≡ bitmap_bytes chip)
Placed chip size (Copy b t k) = b.0 < chip.region
Placed chip size (Merge p m) = (p.0 < chip.region) × (m.0 < chip.region)

-- a fact with one proof at most
pub Placed-prop : (chip : LargeChip) (size : ℕ) (work : Work) → IsProp (Placed chip size work)
Placed-prop chip size (Keep b) = Unit-prop
Placed-prop chip size (Update p m) = ×_prop le_prop (Coded-set coded_ℕ size (bitmap_bytes chip))
Placed-prop chip size (Copy b t k) = le_prop
Placed-prop chip size (Merge p m) = ×_prop le_prop le_prop

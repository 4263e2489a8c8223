-- Document 01, "Update" and "Recovery": what reading a pair gives, and the plans, case by case. Blocks are region blocks here.
use Rattle.std.specs.Prelude.{Bool, false, not, cond, ◌&&◌, ◌||◌, List, [], ◌∷◌, ℕ, zero, suc, ◌+◌, ◌%◌, eqb, ℤ, pos, negsuc}
use Rattle.std.proofs.Math.Option.{Option, none, some}
use Rattle.chip.specs.Large.{pages_of}
use Rattle.chip.specs.declared.LargeChip.{LargeChip}
use Rattle.chip.specs.declared.Refusal.{Refusal}
use Rattle.chip.specs.declared.Refusal.TheVariants.{NotSettled, NoTarget}
use Rattle.bbt.specs.declared.Kind.{Kind}
use Rattle.bbt.specs.declared.Kind.TheVariants.{Primary, Mirror, Neither}
use Rattle.bbt.specs.Copies.{Table, table, reads_bad, highest}
use Rattle.bbt.specs.Entries.{updated_bytes, and_bytes}
use Rattle.bbt.specs.Pages.{View}
use Rattle.bbt.specs.Pairs.{same, Case, no_pair, alone, settled, merging, differing, pair_case}

-- ---- reading
-- what reading gives: a refusal, or primary's block, mirror's block and the table
pub data Reading : Type 0 where
  refused : Refusal → Reading
  holds : ℕ → ℕ → Table → Reading

-- a pair that is not settled, and none of 7 to 9: refusal 10
unfoldable pub read_case : ℕ → View → Case → Reading
read_case P R (no_pair r) = refused r
read_case P R (alone k b) = refused NotSettled
read_case P R (settled p m) = holds p m (table P R p)
read_case P R (merging p m) = refused NotSettled
read_case P R (differing d p m) = refused NotSettled

unfoldable pub reading : LargeChip → View → Reading
reading chip R = read_case (pages_of chip) R (pair_case chip R)

-- ---- steps and plans
-- a step: a block erased; a page of a copy written: its block, page, kind and table; or zeros written to the 64 OOB bytes of a block's first page
pub data Step : Type 0 where
  erase : ℕ → Step
  write : ℕ → ℕ → Kind → Table → Step
  zeros : ℕ → Step

-- what a plan writes
pub data Job : Type 0 where
  -- nothing; the version kept
  idle : ℕ → Job
  -- one copy: its kind and block, the block where the other kind's copy stands, and the table
  single : Kind → ℕ → ℕ → Table → Job
  -- both copies: primary's block, then mirror's, and the table
  double : ℕ → ℕ → Table → Job

-- a plan: the blocks that have failed under it, the newest first, and what it writes
pub record Plan : Type 0 where
  pub failed : List ℕ
  pub job : Job

-- as it is made: no block has failed
abbrev pub fresh : Job → Plan
fresh j = record { failed = []; job = j }

pub data Answer : Type 0 where
  refuse : Refusal → Answer
  plan : Plan → Answer

-- n pages from page p on, in rising order, then the rest
unfoldable pub writes : ℕ → ℕ → ℕ → Kind → Table → List Step → List Step
writes zero p b k t rest = rest
writes (suc n) p b k t rest = write b p k t ∷ writes n (suc p) b k t rest

-- a copy: its block erased, its P pages written, then the rest
unfoldable pub copy_steps : ℕ → ℕ → Kind → Table → List Step → List Step
copy_steps P b k t rest = erase b ∷ writes P 0 b k t rest

-- what a plan writes, step by step: none, P + 1 or 2P + 2
unfoldable pub job_steps : ℕ → Job → List Step
job_steps P (idle v) = []
job_steps P (single k b g t) = copy_steps P b k t []
job_steps P (double p m t) = copy_steps P p Primary t (copy_steps P m Mirror t [])

-- once a block has failed, zeros to the newest come first
abbrev pub zero_first : List ℕ → List Step → List Step
zero_first [] es = es
zero_first (b ∷ bs) es = zeros b ∷ es

-- the steps of a plan, numbered from 0
abbrev pub steps_of : ℕ → Plan → List Step
steps_of P q = zero_first q.failed (job_steps P q.job)

-- step i
unfoldable pub step_at : List Step → ℕ → Option Step
step_at [] i = none
step_at (e ∷ es) zero = some e
step_at (e ∷ es) (suc i) = step_at es i

-- the version that a plan tells
unfoldable pub job_version : Job → ℕ
job_version (idle v) = v
job_version (single k b g t) = t.version
job_version (double p m t) = t.version

abbrev pub plan_version : Plan → ℕ
plan_version q = job_version q.job

-- version plus 1 modulo 256
unfoldable pub next_version : ℕ → ℕ
next_version v = (v + 1) % 256

-- ---- update
-- what the update rule makes of the old table: new equals old, version kept; otherwise version plus 1
unfoldable pub updated : Table → List ℕ → Table
updated o w =
    cond (same (updated_bytes o.bitmap w) o.bitmap) o
    (record { version = next_version o.version; bitmap = updated_bytes o.bitmap w })

-- new equals old: an empty plan. Otherwise both copies, the primary first
unfoldable pub update_from : List ℕ → Reading → Answer
update_from w (refused r) = refuse r
update_from w (holds p m o) =
    plan (fresh (cond (same (updated_bytes o.bitmap w) o.bitmap) (idle o.version) (double p m (updated o w))))

unfoldable pub update : LargeChip → View → List ℕ → Answer
update chip R w = update_from w (reading chip R)

-- ---- recovery
unfoldable pub member : ℕ → List ℕ → Bool
member x [] = false
member x (y ∷ ys) = eqb x y || member x ys

-- the target: the highest block that is not among those to avoid nor readable as bad
abbrev pub is_free : View → List ℕ → ℕ → Bool
is_free R avoid b = not (member b avoid) && not (reads_bad R b)

unfoldable pub target : LargeChip → View → List ℕ → Option ℕ
target chip R avoid = highest chip.region (is_free R avoid)

-- the kind that is missing beside a good one
abbrev pub other_kind : Kind → Kind
other_kind Primary = Mirror
other_kind Mirror = Primary
other_kind Neither = Neither

-- only one kind good, in block g: erase the target, write the missing kind, same version; no target is refusal 11
unfoldable pub recover_to : Kind → ℕ → Table → Option ℕ → Answer
recover_to k g t none = refuse NoTarget
recover_to k g t (some b) = plan (fresh (single k b g t))

-- bitmaps ANDed, version plus 1
unfoldable pub anded : Table → Table → Table
anded x y = record { version = next_version x.version; bitmap = and_bytes x.bitmap y.bitmap }

-- the sign of d chooses which copy is written anew, with the table and version of the newer
unfoldable pub recover_newer : ℤ → Table → Table → ℕ → ℕ → Answer
recover_newer (pos n) x y p m = plan (fresh (single Mirror m p x))
recover_newer (negsuc n) x y p m = plan (fresh (single Primary p m y))

unfoldable pub recover_case : LargeChip → View → Case → Answer
recover_case chip R (no_pair r) = refuse r
recover_case chip R (alone k g) = recover_to (other_kind k) g (table (pages_of chip) R g) (target chip R (g ∷ []))
recover_case chip R (settled p m) = plan (fresh (idle (table (pages_of chip) R p).version))
recover_case chip R (merging p m) = plan (fresh (double p m (anded (table (pages_of chip) R p) (table (pages_of chip) R m))))
recover_case chip R (differing d p m) = recover_newer d (table (pages_of chip) R p) (table (pages_of chip) R m) p m

unfoldable pub recovery : LargeChip → View → Answer
recovery chip R = recover_case chip R (pair_case chip R)

-- ---- one planning function
-- what is asked of planning: an update to a wanted bitmap, or a recovery
pub data Call : Type 0 where
  for_update : List ℕ → Call
  for_recovery : Call

unfoldable pub plan_by_rules : LargeChip → View → Call → Answer
plan_by_rules chip R (for_update w) = update chip R w
plan_by_rules chip R for_recovery = recovery chip R

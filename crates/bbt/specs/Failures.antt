-- Blocks that fail under a plan: the chip reports that an erase or a write has failed. The plan then becomes: zeros to the 64 OOB bytes of that
-- block's first page, then that copy's erase and all its pages at the highest block that is neither the other copy's, readable as bad nor failed,
-- then the other copy's steps if still to come. It is numbered from 0, and stays the same update or recovery, with its table and version.
use Rattle.std.specs.Prelude.{cond, List, [], ◌∷◌, ℕ, eqb}
use Rattle.std.proofs.Math.Option.{Option, none, some}
use Rattle.chip.specs.Large.{pages_of}
use Rattle.chip.specs.declared.LargeChip.{LargeChip}
use Rattle.chip.specs.declared.Refusal.TheVariants.{Range, NoTarget, ZeroFailed}
use Rattle.bbt.specs.declared.Kind.TheVariants.{Mirror}
use Rattle.bbt.specs.Pages.{View}
use Rattle.bbt.specs.Plans.{Step, erase, write, zeros, Job, idle, single, double, Plan, steps_of, step_at, Answer, refuse, plan, target}

-- the other copy's block, where block b is one copy's: where it stands, or will be written
unfoldable pub other_block : Job → ℕ → ℕ
other_block (idle v) b = b
other_block (single k c g t) b = g
other_block (double p m t) b = cond (eqb b p) m p

-- the copy of block b goes to block x, all of it; of two copies the second follows the first
unfoldable pub moved : Job → ℕ → ℕ → Job
moved (idle v) b x = idle v
moved (single k c g t) b x = single k x g t
moved (double p m t) b x = cond (eqb b p) (double x m t) (single Mirror x p t)

-- block b fails: its copy goes to the target; no target is refusal 11
unfoldable pub moved_to : Plan → ℕ → Option ℕ → Answer
moved_to q b none = refuse NoTarget
moved_to q b (some x) = plan (record { failed = b ∷ q.failed; job = moved q.job b x })

unfoldable pub block_fails : LargeChip → View → Plan → ℕ → Answer
block_fails chip R q b = moved_to q b (target chip R (other_block q.job b ∷ b ∷ q.failed))

-- a step fails: past the plan's end is refusal 2, a zero write 12
unfoldable pub step_fails : LargeChip → View → Plan → Option Step → Answer
step_fails chip R q none = refuse Range
step_fails chip R q (some (erase b)) = block_fails chip R q b
step_fails chip R q (some (write b p k t)) = block_fails chip R q b
step_fails chip R q (some (zeros b)) = refuse ZeroFailed

-- step i of what was planned
unfoldable pub failure : LargeChip → View → Answer → ℕ → Answer
failure chip R (refuse r) i = refuse r
failure chip R (plan q) i = step_fails chip R q (step_at (steps_of (pages_of chip) q) i)

-- the numbers of failed steps, oldest first, each in the plan as it stood after the failures before it; the first refusal met is the answer
unfoldable pub failures : LargeChip → View → Answer → List ℕ → Answer
failures chip R a [] = a
failures chip R a (i ∷ is) = failures chip R (failure chip R a i) is

-- Laws of failed steps: with none nothing changes, and what the moving of a copy to another block keeps of a plan, failures keep: its table.
-- Assumes nothing.
use mathlib.Core.Bool.{Bool, true, false, cond}
use mathlib.Core.List.{List, [], ◌∷◌}
use mathlib.Core.Option.{Option, none, some}
use mathlib.Core.Path.{◌≡◌, refl}
use Prim.Native.Nat.{ℕ}
use native.Mathlib.Omega.{arith}
use lib.Dec.{eqb}
use lib.ListN.{length}
use Rattle.bbt.specs.Copies.{Table}
use Rattle.bbt.specs.Failures.{other_block, moved, moved_to, block_fails, step_fails, failure, failures}
use Rattle.bbt.specs.Pages.{View}
use Rattle.bbt.specs.Plans.{Step, erase, write, zeros, Job, idle, single, double, Plan, steps_of, step_at, Answer, refuse, plan, target}
use Rattle.bbt.specs.declared.Kind.TheVariants.{Mirror}
use Rattle.chip.specs.Large.{pages_of}
use Rattle.chip.specs.declared.LargeChip.{LargeChip}

-- ---- no failed step
pub failures_none : (chip : LargeChip) (R : View) (a : Answer) (is : List ℕ) → length is ≡ 0 → failures chip R a is ≡ a
unfolding failures
failures_none chip R a [] e = refl
failures_none chip R a (i ∷ is) e = absurd (omega arith)

-- ---- what a plan writes, where there is one, has a property
abbrev pub Planning : (Job → Type 0) → Answer → Type 0
Planning K (refuse r) = Unit {0}
Planning K (plan q) = K q.job

module _ (chip : LargeChip) (R : View) (K : Job → Type 0) (keeps : (j : Job) (b x : ℕ) → K j → K (moved j b x)) where
  moved_keeps : (q : Plan) (b : ℕ) (o : Option ℕ) → K q.job → Planning K (moved_to q b o)
  unfolding moved_to
  moved_keeps q b none h = tt
  moved_keeps q b (some x) h = keeps q.job b x h

  step_keeps : (q : Plan) (o : Option Step) → K q.job → Planning K (step_fails chip R q o)
  unfolding step_fails block_fails
  step_keeps q none h = tt
  step_keeps q (some (erase b)) h = moved_keeps q b (target chip R (other_block q.job b ∷ b ∷ q.failed)) h
  step_keeps q (some (write b p k t)) h = moved_keeps q b (target chip R (other_block q.job b ∷ b ∷ q.failed)) h
  step_keeps q (some (zeros b)) h = tt

  failure_keeps : (a : Answer) (i : ℕ) → Planning K a → Planning K (failure chip R a i)
  unfolding failure
  failure_keeps (refuse r) i h = tt
  failure_keeps (plan q) i h = step_keeps q (step_at (steps_of (pages_of chip) q) i) h

  pub failures_keep : (a : Answer) (is : List ℕ) → Planning K a → Planning K (failures chip R a is)
  unfolding failures
  failures_keep a [] h = h
  failures_keep a (i ∷ is) h = failures_keep (failure chip R a i) is (failure_keeps a i h)

-- ---- the table: t is what a plan writes, if it writes anything
abbrev pub Writes : Table → Job → Type 0
Writes t (idle v) = Unit {0}
Writes t (single k b g u) = u ≡ t
Writes t (double p m u) = u ≡ t

moved_writes : (t : Table) (j : Job) (b x : ℕ) → Writes t j → Writes t (moved j b x)
unfolding moved
moved_writes t (idle v) b x h = tt
moved_writes t (single k c g u) b x h = h
moved_writes t (double p m u) b x h = go (eqb b p)
  where
    go : (s : Bool) → Writes t (cond s (double x m u) (single Mirror x p u))
    go true = h
    go false = h

pub table_kept : (chip : LargeChip) (R : View) (t : Table) (a : Answer) (is : List ℕ) → Planning (Writes t) a → Planning (Writes t) (failures chip R a is)
table_kept chip R t = failures_keep chip R (Writes t) (moved_writes t)

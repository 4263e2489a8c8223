-- `after_steps` meets its contract. The loop's invariant: the steps that are left, under the plan and beside the flags as they stand, make of it
-- what all of them make of the first.
-- Assumes nothing.
use mathlib.Core.Bool.{false}
use mathlib.Core.Path.{◌≡◌}
use lib.ListN.{drop, replicate}
use Rattle.retire.specs.Retiring.{steps_retired}
use Rattle.retire.proofs.after_steps.Given as goal

abbrev pub invariant-loop-k : goal.invariant-loop-k
invariant-loop-k l =
    steps_retired l.n l.size l.image l.status l.gone l.plan (drop l.k-index l.failed) ≡ steps_retired l.n l.size l.image l.status (replicate 7 false) l.initial.plan l.failed

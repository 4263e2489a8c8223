-- `put_shape` meets its contract: the steps before k stand in the first 4k bytes, the others are as they were.
-- Assumes nothing.
use mathlib.Core.Path.{◌≡◌}
use lib.ListN.{length, take}
use Rattle.bbt.specs.Told.{steps_by}
use Rattle.packing.specs.Packing.{steps_put}
use Rattle.packing.proofs.put_shape.Given as goal

abbrev pub invariant-loop-k : goal.invariant-loop-k
invariant-loop-k l = (length l.steps ≡ length l.initial.steps) × (l.steps ≡ steps_put (take l.k (steps_by l.chip l.shape)) l.initial.steps)

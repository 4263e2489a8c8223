-- `gather` meets its contract: after b turns the slots tell how each number stands by the first b blocks.
-- Assumes nothing.
use mathlib.Core.Path.{◌≡◌}
use Rattle.boot.specs.Counting.{block_at}
use Rattle.boot.specs.Mapping.{standing, above}
use Rattle.boot.specs.Slots.{slots_of}
use Rattle.boot.proofs.gather.Given as goal

abbrev pub invariant-loop-b : goal.invariant-loop-b
invariant-loop-b l = (l.above ≡ above (block_at l.spares) l.b) × (l.slots ≡ slots_of (standing (block_at l.spares) l.b))

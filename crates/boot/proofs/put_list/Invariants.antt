-- `put_list` meets its contract: at each turn the list starts with the entries of the numbers before.
-- Assumes nothing.
use mathlib.Core.Path.{◌≡◌}
use Prim.Native.Nat.{◌≤◌}
use lib.ListN.{length}
use Rattle.boot.specs.Answers.{block_bytes, starting_with}
use Rattle.boot.specs.Mapping.{listed}
use Rattle.boot.specs.Slots.{in_slot}
use Rattle.boot.proofs.put_list.Given as goal

abbrev pub invariant-loop-slot : goal.invariant-loop-slot
invariant-loop-slot l =
    (l.filled ≤ l.slot-index) × (l.filled ≡ length (listed l.listing (in_slot l.slots) l.slot-index))
    × (l.list ≡ starting_with (block_bytes (listed l.listing (in_slot l.slots) l.slot-index)) l.initial.list)

-- `fill_first` meets its contract: after i turns the first i bytes are those of the marks.
-- Assumes nothing.
use mathlib.Core.Path.{◌≡◌}
use Prim.Native.Nat.{ℕ, ◌<◌}
use lib.ListN.{length, get_or}
use Rattle.bbt.specs.Entries.{first_byte}
use Rattle.factory.proofs.fill_first.Given as goal

abbrev pub invariant-loop-i : goal.invariant-loop-i
invariant-loop-i l = (length l.bitmap ≡ length l.initial.bitmap) × ((k : ℕ) → k < l.i → get_or l.bitmap k 0 ≡ first_byte l.marks k)

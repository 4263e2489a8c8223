-- `copy` meets its contract: after i turns `to` is filled with the first i bytes of `from`.
-- Assumes nothing.
use mathlib.Core.Path.{◌≡◌}
use lib.ListN.{get_or}
use Rattle.bits.proofs.Filling.{filled}
use Rattle.bits.proofs.copy.Given as goal

abbrev pub invariant-loop-i : goal.invariant-loop-i
invariant-loop-i l = l.to ≡ filled (λ i'. get_or l.from i' 0) l.i l.initial.to

-- `differences` meets its contract: there is none in the whole where nothing is gathered yet and there is none in what is left.
-- Assumes nothing.
use mathlib.Core.Bool.{◌&&◌}
use mathlib.Core.Path.{◌≡◌}
use lib.Dec.{eqb}
use Rattle.bitmap.specs.Made.{no_difference}
use Rattle.bitmap.proofs.differences.Given as goal

abbrev pub invariant-loop-x : goal.invariant-loop-x
invariant-loop-x g l = (eqb l.d 0 && no_difference g.f l.x-iterator.a.rest.now l.x-iterator.b.rest.now) ≡ no_difference g.f l.a l.b

-- `statuses_right` meets its contract: the status bytes before this one are 0 or 1, and one that is not spoils them.
-- Assumes nothing.
use mathlib.Core.Bool.{true}
use mathlib.Core.Path.{◌≡◌}
use lib.Dec.{ltb}
use lib.ListN.{get_or}
use Rattle.bbt.specs.Pages.{all}
use Rattle.region.proofs.lent.statuses_right.Given as goal

abbrev pub invariant-loop-s : goal.invariant-loop-s
invariant-loop-s l = all l.s-index (λ i. ltb (get_or l.status i 0) 2) ≡ true

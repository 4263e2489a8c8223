-- `Code::one_in_each` meets its contract: after k turns it has what `one_in_each` says of the first k pairs.
-- Assumes nothing.
use Rattle.std.proofs.Common.{◌≡◌}
use Rattle.ecc.specs.Half.{stored_bit}
use Rattle.ecc.specs.Verdicts.{one_in_each}
use Rattle.ecc.proofs.Code.one_in_each.Given as goal

abbrev pub invariant-loop-k : goal.invariant-loop-k
invariant-loop-k l = l.all ≡ one_in_each l.k (stored_bit l.self)

-- `Code::last_set` meets its contract: after j turns it has the last of the first j bits that is set.
-- Assumes nothing.
use Rattle.std.proofs.Common.{◌≡◌}
use Rattle.ecc.specs.Half.{stored_bit}
use Rattle.ecc.specs.Verdicts.{last_set}
use Rattle.ecc.proofs.Code.last_set.Given as goal

abbrev pub invariant-loop-j : goal.invariant-loop-j
invariant-loop-j l = l.last ≡ last_set l.j (stored_bit l.self)

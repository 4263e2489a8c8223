-- `ecc::run_sums` meets its contract: after i turns it has the sums of the first i bytes.
-- Assumes nothing.
use Rattle.std.proofs.Common.{◌≡◌, take}
use Rattle.ecc.specs.Sums.{line_sum, byte_sum}
use Rattle.ecc.proofs.run_sums.Given as goal

abbrev pub invariant-loop-i : goal.invariant-loop-i
invariant-loop-i l = (l.line ≡ line_sum (take l.i l.run)) × (l.all ≡ byte_sum (take l.i l.run))

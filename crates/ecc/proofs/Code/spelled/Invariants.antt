-- `Code::spelled` meets its contract: after k turns it has the number of the first k bits.
-- Assumes nothing.
use Rattle.std.proofs.Common.{◌≡◌, ◌+◌, ◌*◌}
use Rattle.bits.specs.Bits.{number}
use Rattle.ecc.specs.Half.{stored_bit}
use Rattle.ecc.proofs.Code.spelled.Given as goal

abbrev pub invariant-loop-k : goal.invariant-loop-k
invariant-loop-k l = l.r ≡ number l.k (λ k. stored_bit l.self (2 * k + l.from))

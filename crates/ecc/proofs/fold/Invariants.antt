-- `ecc::fold` meets its contract: after i turns the first i bytes are the fold's, and summed are the first i bytes of the upper part.
-- Assumes nothing.
use Rattle.std.proofs.Common.{◌≡◌, take, drop}
use Rattle.ecc.specs.Sums.{byte_sum, fold_at}
use Rattle.ecc.proofs.fold.Given as goal

abbrev pub invariant-loop-i : goal.invariant-loop-i
invariant-loop-i l = (take l.i l.to ≡ take l.i (fold_at l.n l.from)) × (l.sum ≡ byte_sum (take l.i (drop l.n l.from)))

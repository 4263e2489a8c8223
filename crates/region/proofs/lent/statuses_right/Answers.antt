-- `statuses_right` meets its contract: the status bytes before this one are 0 or 1, and one that is not spoils them.
-- Assumes nothing.
use borrow.Author.Tests.{le-ltb}
use Rattle.std.proofs.Common.{sym, length, arith}
use Rattle.bbt.specs.Lent.{statuses_right}
use Rattle.bbt.proofs.Searches.{all_not}
use Rattle.region.proofs.lent.statuses_right.Goals as goal

pub returns-then-s-gt1 : goal.returns-then-s-gt1
unfolding statuses_right
returns-then-s-gt1 c = sym (all_not (length c.args.status.now) _ c.loop-s.s-index (omega arith) (le-ltb _ _ c.if-s-gt1.true))

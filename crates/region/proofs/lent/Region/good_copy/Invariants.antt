-- `good_copy` meets its contract: the pages before p all match, and one that does not match spoils the block.
-- Assumes nothing.
use mathlib.Core.Bool.{true}
use mathlib.Core.Path.{◌≡◌}
use Prim.Native.Nat.{◌+◌}
use Rattle.bbt.specs.Pages.{all, page_status, page_bytes}
use Rattle.region.specs.Cases.{page_matches}
use Rattle.region.proofs.lent.Region.good_copy.Given as goal

abbrev pub invariant-loop-p : goal.invariant-loop-p
invariant-loop-p l = all l.p (λ p. page_matches l.kind l.version (page_status l.self.status.now (l.first + p)) (page_bytes l.self.image.now (l.first + p))) ≡ true

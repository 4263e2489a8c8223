-- `target` meets its contract: no block from b on will do, so the highest that does is below.
-- Assumes nothing.
use mathlib.Core.Path.{◌≡◌}
use Rattle.bbt.specs.Copies.{highest}
use Rattle.bbt.specs.Pages.{seen}
use Rattle.region.specs.Targets.{is_free_by}
use Rattle.region.proofs.lent.Region.target.Given as goal

abbrev pub invariant-loop-b : goal.invariant-loop-b
invariant-loop-b l =
    highest l.self.chip.region (is_free_by (seen l.self.chip l.self.image.now l.self.status.now) l.avoid)
    ≡ highest l.b (is_free_by (seen l.self.chip l.self.image.now l.self.status.now) l.avoid)

-- `locate` meets its contract: after b blocks it is found of each kind what `find` finds among them.
-- Assumes nothing.
use mathlib.Core.Path.{◌≡◌}
use Rattle.std.specs.Prelude.{Ok}
use Rattle.bbt.specs.Copies.{good, find}
use Rattle.bbt.specs.Pages.{seen}
use Rattle.bbt.specs.declared.Kind.TheVariants.{Primary, Mirror}
use Rattle.chip.specs.Large.{pages_of}
use Rattle.region.specs.Cases.{located_by}
use Rattle.region.proofs.lent.Region.locate.Given as goal

abbrev pub invariant-loop-b : goal.invariant-loop-b
invariant-loop-b l =
    (located_by (find l.b (good (pages_of l.self.chip) (seen l.self.chip l.self.image.now l.self.status.now) Primary)) ≡ Ok l.primary)
    × (located_by (find l.b (good (pages_of l.self.chip) (seen l.self.chip l.self.image.now l.self.status.now) Mirror)) ≡ Ok l.mirror)

-- `good_copy` meets its contract: the pages before p all match, and one that does not match spoils the block.
-- Assumes nothing.
use mathlib.Core.Path.{◌∙◌, sym}
use native.Mathlib.Omega.{arith}
use Rattle.bbt.proofs.Searches.{all_not}
use Rattle.chip.specs.Large.{pages_of}
use Rattle.region.proofs.Lending.{fits}
use Rattle.region.proofs.Stored.{good_raw}
use Rattle.region.proofs.lent.Region.good_copy.Goals as goal

pub returns-then-not-page_matches : goal.returns-then-not-page_matches
returns-then-not-page_matches c =
    let s = c.args.self in
    let f = fits s.chip s.image.now s.status.now s.chip_right s.lengths_right in
    let raw = good_raw s.chip s.image.now s.status.now c.args.b.0 c.args.kind f.some_pages c.requires.signed in
    sym (raw ∙ all_not (pages_of s.chip) _ c.loop-p.p (omega arith) (cc))

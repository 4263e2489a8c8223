-- `same_bitmaps` meets its contract: two bitmaps are the same where each page's parts are.
-- Assumes nothing.
use Rattle.std.proofs.Common.{◌∙◌, sym, arith, rules, tests}
use Rattle.std.proofs.lemmas.Iterator.{YieldsList-from_range}
use Rattle.std.proofs.lemmas.Iterator.Search.{all_from_yields_List}
use Rattle.bbt.specs.Pairs.{same}
use Rattle.chip.specs.Large.{pages_of}
use Rattle.region.specs.Parts.{part_of}
use Rattle.region.proofs.Bitmaps.{stored_same}
use Rattle.region.proofs.Lending.{fits}
use Rattle.region.proofs.Asked.{all_range}
use Rattle.region.proofs.lent.Region.same_bitmaps.Goals as goal

pub returns : goal.returns
returns c =
    let a = c.args in
    let s = a.self in
    let P = pages_of s.chip in
    let f = fits s.chip s.image.now s.status.now s.chip_right s.lengths_right in
    all_from_yields_List (λ p. same (part_of s.chip s.image.now a.x.0 p) (part_of s.chip s.image.now a.y.0 p))
    _ _ c.all.result c.all.ensures.ran (YieldsList-from_range 0 P P (cc) (omega arith)) (λ x b q k. search (rules, tests))
    ∙ all_range _ P
    ∙ sym (stored_same s.chip s.image.now (omega arith) a.x.0 a.y.0 P c.requires.first c.requires.second (omega arith))

-- `zero_oob` meets its contract: the bytes that are asked are the page's from 2,048 on.
-- Assumes nothing.
use Rattle.std.proofs.Common.{◌∙◌, rules, tests, arith}
use Rattle.std.proofs.Math.ListN.{take, drop}
use Rattle.std.proofs.lemmas.Iterator.{YieldsList-from_slice}
use Rattle.std.proofs.lemmas.Iterator.Search.{all_from_yields_List}
use lib.Dec.{eqb}
use Rattle.bbt.specs.Pages.{zero_oob}
use Rattle.region.proofs.Asked.{all_part}
use Rattle.region.proofs.pages.zero_oob.Goals as goal

pub returns : goal.returns
unfolding zero_oob
returns c =
    let page = c.args.page.now in
    all_from_yields_List (λ x. eqb x 0)
    _ _ c.all.result c.all.ensures.ran (YieldsList-from_slice (take 64 (drop 2048 page)) c.iter.ensures.rest) (λ x b q k. search (rules, tests))
    ∙ all_part (λ x. eqb x 0) 2048 64 page (omega arith)

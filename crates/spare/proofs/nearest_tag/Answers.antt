-- `nearest_tag` meets its contract: what `find` finds in the table is `nearest`.
-- Assumes nothing.
use Rattle.std.proofs.Common.{rules, ℕ, leb, ◌∙◌}
use Rattle.std.proofs.lemmas.Iterator.{YieldsList-from_slice}
use Rattle.std.proofs.lemmas.Iterator.Search.{find_from_yields_List}
use borrow.Author.Tests.{tests}
use Rattle.spare.specs.Tags.{tags, distance}
use Rattle.spare.proofs.Tagging.{nearest_found}
use Rattle.spare.proofs.nearest_tag.Goals as goal

pub returns : goal.returns
returns c =
    let near = λ (t : ℕ). leb (distance t c.args.byte) 1 in
    rw nearest_found
    (c.copied.ensures ∙ find_from_yields_List near _ _ c.find.result c.find.ensures.ran (YieldsList-from_slice tags cc) (λ x b q k. search (rules, tests)))

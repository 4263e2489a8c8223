-- `new_table_equals_old` meets its contract: the parts before page p are kept, and one that is not spoils the table.
-- Assumes nothing.
use mathlib.Core.Bool.{true}
use mathlib.Core.Path.{◌≡◌}
use Rattle.bbt.specs.Images.{chunk}
use Rattle.bbt.specs.Pages.{all}
use Rattle.bitmap.specs.Made.{new_equals_old}
use Rattle.region.specs.Parts.{part_of}
use Rattle.plan.proofs.new_table_equals_old.Given as goal

abbrev pub invariant-loop-p : goal.invariant-loop-p
invariant-loop-p l = all l.p (λ p. new_equals_old (part_of l.region.chip l.region.image.now l.b.0 p) (chunk p l.wanted)) ≡ true

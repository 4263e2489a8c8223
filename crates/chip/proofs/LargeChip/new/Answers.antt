-- `LargeChip::new` meets its contract: the chip where there is one, else refusal 2.
-- Assumes nothing.
use mathlib.Core.Path.{◌∙◌, sym}
use Rattle.chip.specs.Large.{chip_of}
use Rattle.chip.proofs.Numbers.{made_chip}
use Rattle.chip.proofs.LargeChip.new.Goals as goal

pub returns-then-exists : goal.returns-then-exists
returns-then-exists c = sym (made_chip _ _ _ (sym c.exists.ensures ∙ c.if-exists.true) c.of.ensures)

pub returns : goal.returns
unfolding chip_of
returns c = simp (sym c.exists.ensures ∙ c.if-exists.false)

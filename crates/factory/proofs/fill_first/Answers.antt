-- `fill_first` meets its contract: what is stored at i is the byte of the eight marks there.
-- Assumes nothing.
use native.Mathlib.Omega.{arith}
use Rattle.std.proofs.lemmas.Grind.{elements}
use Rattle.bits.proofs.Filling.{length_build, get_d_build}
use Rattle.bbt.specs.Entries.{first_byte}
use Rattle.factory.proofs.First.{stored_byte, filled_turn}
use Rattle.factory.proofs.fill_first.Goals as goal

pub loop-i-preserved : goal.loop-i-preserved
loop-i-preserved c =
    let marks = c.args.marks.now in
    let i = c.loop-i.i in
    filled_turn (first_byte marks) c.loop-i.bitmap _ i _ c.loop-i.invariant c.loop-i-test.true
    (stored_byte marks i (omega arith) _ _ c.as_chunks.ensures.front c.first_of.ensures)

pub returns : goal.returns
returns c = grind (arith, elements, length_build, get_d_build)

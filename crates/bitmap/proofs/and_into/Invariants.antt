-- `and_into` meets its contract: what is put into `out` is the AND of each two bytes.
-- Assumes nothing.
use lib.Bits.{bit_and}
use Rattle.bitmap.proofs.and_into.Given as goal

abbrev pub ghost-put_into : goal.ghost-put_into
ghost-put_into a = bit_and

-- `new_equals_old` meets its contract: the difference is the XOR of an old byte and what the rule makes of it.
-- Assumes nothing.
use lib.Bits.{bit_xor}
use Rattle.bbt.specs.Entries.{updated_byte}
use Rattle.bitmap.proofs.new_equals_old.Given as goal

abbrev pub ghost-no_difference : goal.ghost-no_difference
ghost-no_difference a = λ o w. bit_xor (updated_byte o w) o

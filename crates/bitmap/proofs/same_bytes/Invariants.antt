-- `same_bytes` meets its contract: the difference of two bytes is their XOR.
-- Assumes nothing.
use lib.Bits.{bit_xor}
use Rattle.bitmap.proofs.same_bytes.Given as goal

abbrev pub ghost-no_difference : goal.ghost-no_difference
ghost-no_difference a = bit_xor

-- `update_into` meets its contract: what is put into `out` is the update rule of each two bytes.
-- Assumes nothing.
use Rattle.bbt.specs.Entries.{updated_byte}
use Rattle.bitmap.proofs.update_into.Given as goal

abbrev pub ghost-put_into : goal.ghost-put_into
ghost-put_into a = updated_byte

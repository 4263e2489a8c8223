-- What is asked of planning, as code has it: an update lends a wanted bitmap beside the region, a recovery nothing.
use Rattle.std.specs.Prelude.{List, [], ℕ, length, Option, Some, None}
use Rattle.bbt.specs.Plans.{Call, for_update, for_recovery}
use Rattle.plan.specs.declared.Call.{Call as Asked}
use Rattle.plan.specs.declared.Call.TheVariants.{Update, Recovery}

abbrev pub call_of : Asked → Call
call_of (Update w) = for_update w.now
call_of Recovery = for_recovery

-- the length of the bitmap that is lent beside the region
abbrev pub beside_of : Call → Option ℕ
beside_of (for_update w) = Some (length w)
beside_of for_recovery = None

-- the wanted bitmap; of a recovery no bytes
abbrev pub wanted_of : Call → List ℕ
wanted_of (for_update w) = w
wanted_of for_recovery = []

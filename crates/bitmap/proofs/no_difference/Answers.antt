-- `no_difference` meets its contract: at the start of its loop the whole is its parts and the rest.
-- Assumes nothing.
use Prim.Native.Nat.{◌/◌}
use native.Mathlib.Omega.{arith}
use lib.ListN.{length}
use Rattle.std.proofs.lemmas.Grind.{common_steps}
use Rattle.bitmap.proofs.Parts.{by_chunks}
use Rattle.bitmap.proofs.no_difference.Goals as goal

pub loop-x-init : goal.loop-x-init
loop-x-init g c = grind (arith, common_steps, by_chunks g.f 256 (length c.args.a.now / 256) c.args.a.now c.args.b.now)

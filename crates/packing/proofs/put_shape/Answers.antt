-- `put_shape` meets its contract: at first no step is put.
-- Assumes nothing.
use mathlib.Core.Path.{refl, sym}
use Rattle.bbt.specs.Told.{steps_by}
use Rattle.packing.proofs.Steps.{put_none}
use Rattle.packing.proofs.put_shape.Goals as goal

pub loop-k-init : goal.loop-k-init
loop-k-init c = (refl, sym (put_none (steps_by c.args.chip c.args.shape) c.args.steps.now))

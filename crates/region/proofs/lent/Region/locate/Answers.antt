-- `locate` meets its contract: a refusal of the mirror's is the answer.
-- Assumes nothing.
use Rattle.std.proofs.Common.{sym, arith}
use Rattle.std.proofs.lemmas.Grind.{common_steps}
use Rattle.bbt.specs.Pages.{seen}
use Rattle.region.proofs.Locating.{mirror_refused}
use Rattle.region.proofs.lent.Region.locate.Goals as goal

pub returns-in_err-mirror : goal.returns-in_err-mirror
returns-in_err-mirror c =
    let s = c.args.self in
    let R = seen s.chip s.image.now s.status.now in
    let told = mirror_refused s.chip R c.loop-b.b c.loop-b.mirror c.in_err-mirror.field-0.0 (omega arith) c.loop-b.invariant.1 (sym c.in_err-mirror.ensures) in
    grind (arith, common_steps)

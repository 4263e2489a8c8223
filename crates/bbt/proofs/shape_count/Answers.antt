-- `shape_count` meets its contract: a copy has P + 1 steps.
-- Assumes nothing.
use mathlib.Core.Path.{◌≡◌, ◌∙◌, ap, sym}
use Prim.Native.Nat.{◌+◌, ◌*◌}
use native.Mathlib.Omega.{arith}
use lib.ListN.{length}
use Rattle.chip.specs.Large.{pages_of}
use Rattle.bbt.specs.Told.{steps_by}
use Rattle.bbt.proofs.ToldSteps.{count_by, count_by_lem}
use Rattle.bbt.proofs.shape_count.Goals as goal

pub returns-in-Empty : goal.returns-in-Empty
returns-in-Empty c =
    let a = c.args in
    let is : length (steps_by a.chip a.shape) ≡ 0 = count_by_lem a.chip a.shape ∙ ap (count_by a.chip) c.in-Empty.is in
    (sym is, omega arith)

pub returns-in-One : goal.returns-in-One
returns-in-One c =
    let a = c.args in
    let is : length (steps_by a.chip a.shape) ≡ pages_of a.chip + 1 =
    count_by_lem a.chip a.shape ∙ ap (count_by a.chip) c.in-One.is in
    (omega (arith, is), omega arith)

pub returns-in-Both : goal.returns-in-Both
returns-in-Both c =
    let a = c.args in
    let is : length (steps_by a.chip a.shape) ≡ 2 * pages_of a.chip + 2 =
    count_by_lem a.chip a.shape ∙ ap (count_by a.chip) c.in-Both.is in
    (omega (arith, is), omega arith)

-- `no_difference` meets its contract: there is none in the whole where there is none in the parts that are left and in the rest.
-- Assumes nothing.
use mathlib.Core.Bool.{◌&&◌}
use mathlib.Core.Path.{◌≡◌}
use Rattle.std.specs.List.{list_all, zip}
use Rattle.bitmap.specs.Made.{no_difference}
use Rattle.bitmap.proofs.no_difference.Given as goal

abbrev pub ghost-differences : goal.ghost-differences
ghost-differences g a = g.f

abbrev pub invariant-loop-x : goal.invariant-loop-x
invariant-loop-x g l =
    (list_all (λ (x, y). no_difference g.f x y) (zip l.x-iterator.a.rest.now l.x-iterator.b.rest.now) && no_difference g.f l.a_rest l.b_rest)
    ≡ no_difference g.f l.a l.b

-- `put_steps` meets its contract: the zero step where there is one, and the others behind it.
-- Assumes nothing.
use mathlib.Core.Path.{◌∙◌}
use Prim.Native.Nat.{◌-◌}
use native.Mathlib.Omega.{arith}
use borrow.Rule.Slice.PartMut.{same_len_mid}
use lib.ListN.{length}
use Rattle.packing.proofs.Steps.{room_first, room_behind, put_behind}
use Rattle.packing.proofs.put_steps.Goals as goal

pub put_zero-at-requires : goal.put_zero-at-requires
put_zero-at-requires c = let a = c.args in room_first a.plan (length a.steps.now) c.requires

pub slice_bounds-put_shape-count : goal.slice_bounds-put_shape-count
slice_bounds-put_shape-count c =
    let a = c.args in
    let zero = c.put_zero-at in
    omega (arith, (room_behind a.plan a.steps.now zero.new.steps zero.result c.requires zero.auto.steps zero.ensures.count).0)

pub slice_bounds-put_shape-start : goal.slice_bounds-put_shape-start
slice_bounds-put_shape-start c =
    let a = c.args in
    let zero = c.put_zero-at in
    omega (arith, (room_behind a.plan a.steps.now zero.new.steps zero.result c.requires zero.auto.steps zero.ensures.count).0)

pub put_shape-requires : goal.put_shape-requires
put_shape-requires c =
    let a = c.args in
    let zero = c.put_zero-at in
    (room_behind a.plan a.steps.now zero.new.steps zero.result c.requires zero.auto.steps zero.ensures.count).1

pub shape_of-steps : goal.shape_of-steps
shape_of-steps c =
    let zero = c.put_zero-at in
    let put = c.put_shape in
    same_len_mid zero.result (length zero.new.steps - zero.result) zero.new.steps put.new.steps put.auto.steps ∙ zero.auto.steps

pub returns : goal.returns
returns c =
    let a = c.args in
    let zero = c.put_zero-at in
    let fits = room_behind a.plan a.steps.now zero.new.steps zero.result c.requires zero.auto.steps zero.ensures.count in
    put_behind a.plan a.steps.now _ _ _ fits.0 zero.ensures.count zero.ensures.out c.put_shape.ensures

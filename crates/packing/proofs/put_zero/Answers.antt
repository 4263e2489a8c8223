-- `put_zero` meets its contract: four bytes where a block is retired, none where no block is.
-- Assumes nothing.
use mathlib.Core.List.{List}
use mathlib.Core.Path.{◌∙◌, ap}
use Prim.Native.Nat.{ℕ}
use borrow.Rule.Slice.PartMut.{mid_of}
use Rattle.bbt.specs.declared.Step.TheVariants.{Zero}
use Rattle.bits.specs.Bytes.{copied}
use Rattle.chip.specs.declared.ChipBlock.{ChipBlock}
use Rattle.packing.specs.Packing.{step_bytes}
use Rattle.packing.proofs.Steps.{no_zero, zero_put, zero_room}
use Rattle.packing.proofs.put_zero.Goals as goal

pub slice_bounds-copy-end-in-Some : goal.slice_bounds-copy-end-in-Some
slice_bounds-copy-end-in-Some c = zero_room c.args.chip _ _ c.in-Some.is c.requires

pub returns-in-None : goal.returns-in-None
returns-in-None c =
    let both = no_zero c.args.chip c.args.steps.now c.in-None.is in
    record { count = both.0; out = both.1 }

pub returns-in-Some : goal.returns-in-Some
returns-in-Some c =
    let a = c.args in
    let four = c.step_bytes-four.ensures ∙ ap (λ (b : ChipBlock). step_bytes (Zero b)) c.chip_block.ensures in
    let put = c.copy.ensures ∙ ap (λ (x : List ℕ). copied x (mid_of 0 4 a.steps.now)) four in
    let retired = c.in-Some.is in
    let room = zero_room a.chip _ _ retired c.requires in
    let both = zero_put a.chip _ a.steps.now _ room retired put in
    record { count = both.0; out = both.1 }

-- `copy_bitmap` meets its contract: the bytes before `from` are those of the pages before p.
-- Assumes nothing.
use mathlib.Core.List.{List}
use mathlib.Core.Path.{◌≡◌, refl, sym, ap, ◌∙◌}
use Prim.Native.Nat.{ℕ, ◌+◌, ◌*◌, ◌-◌, ◌<◌, ◌≤◌}
use native.Mathlib.Omega.{arith}
use borrow.Rule.Slice.PartMut.{put_mid, same_len_mid}
use lib.ListN.{length, take}
use lib.Seq.{take_all}
use Rattle.bbt.specs.Pages.{part_length}
use Rattle.region.specs.Stored.{stored_parts}
use Rattle.chip.specs.Large.{pages_of}
use Rattle.chip.specs.declared.LargeChip.{LargeChip}
use Rattle.region.proofs.Lending.{fits}
use Rattle.region.specs.Parts.{part_of}
use Rattle.table.proofs.Copying.{part_size, copy_next}
use Rattle.table.proofs.copy_bitmap.Goals as goal

-- the bytes of page p's part
size : (chip : LargeChip) (image : List ℕ) {bytes : List ℕ} {b p pages : ℕ} → chip.region * pages_of chip * 2112 ≤ length image → b < chip.region
    → pages ≡ pages_of chip → p < pages → bytes ≡ part_of chip image b p → length bytes ≡ part_length chip p
size chip image {b = b} {p = p} room hb e h is =
    let here : p < pages_of chip = omega arith in
    ap length is ∙ part_size chip image room b p hb here

pub loop-p-init : goal.loop-p-init
unfolding stored_parts
loop-p-init c = (omega arith, c.requires.1, refl)

pub overflow_cast-p-end : goal.overflow_cast-p-end
overflow_cast-p-end c = let r = c.args.region in let f = fits r.chip r.image.now r.status.now r.chip_right r.lengths_right in omega arith

pub overflow_add-end : goal.overflow_add-end
overflow_add-end c =
    let r = c.args.region in
    let f = fits r.chip r.image.now r.status.now r.chip_right r.lengths_right in
    omega (arith, size r.chip r.image.now (omega arith) c.requires.0 c.pages-p-end.ensures (omega arith) c.part-bytes.ensures)

pub slice_bounds-copy-end : goal.slice_bounds-copy-end
slice_bounds-copy-end c =
    let r = c.args.region in
    let f = fits r.chip r.image.now r.status.now r.chip_right r.lengths_right in
    omega (arith, size r.chip r.image.now (omega arith) c.requires.0 c.pages-p-end.ensures (omega arith) c.part-bytes.ensures)

pub loop-p-preserved : goal.loop-p-preserved
loop-p-preserved c =
    let a = c.args in
    let r = a.region in
    let f = fits r.chip r.image.now r.status.now r.chip_right r.lengths_right in
    let loop = c.loop-p in
    let bytes = c.part-bytes.result.now in
    let room : r.chip.region * pages_of r.chip * 2112 ≤ length r.image.now = omega arith in
    let here : loop.p < pages_of r.chip = omega (arith, c.pages-p-end.ensures) in
    let long = size r.chip r.image.now room c.requires.0 c.pages-p-end.ensures (omega arith) c.part-bytes.ensures in
    let inside : loop.from + length bytes ≤ length loop.out = omega (arith, long) in (
      omega (arith, long),
      same_len_mid loop.from (loop.from + length bytes - loop.from) loop.out c.copy.new.to c.copy.auto.to ∙ loop.invariant.1,
      ap (λ (l : List ℕ). take (loop.from + length bytes) (put_mid loop.from (loop.from + length bytes - loop.from) loop.out l)) c.copy.ensures
          ∙ copy_next r.chip r.image.now room a.b.0 loop.p c.requires.0 here loop.out bytes loop.from c.part-bytes.ensures inside loop.invariant.2,
    )

pub shape_of-out : goal.shape_of-out
shape_of-out c = c.loop-p.invariant.1 ∙ sym c.requires.1

pub returns : goal.returns
returns c =
    let a = c.args in
    let r = a.region in
    let f = fits r.chip r.image.now r.status.now r.chip_right r.lengths_right in
    let loop = c.loop-p in
    let end : loop.p ≡ pages_of r.chip = omega (arith, c.pages-p-end.ensures) in
    sym (take_all loop.from loop.out (omega arith)) ∙ loop.invariant.2 ∙ ap (stored_parts r.chip r.image.now a.b.0) end

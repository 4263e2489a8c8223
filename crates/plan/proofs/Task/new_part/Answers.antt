-- `new_part` meets its contract: the part of each block that the table comes from gives the page's bytes of the new table.
-- Assumes nothing.
use mathlib.Core.List.{List, []}
use mathlib.Core.Path.{◌≡◌, sym}
use Prim.Native.Nat.{ℕ, ◌*◌, ◌≤◌}
use lib.ListN.{length}
use native.Mathlib.Omega.{arith}
use Rattle.bbt.proofs.Parting.{chunk_past}
use Rattle.bbt.specs.Images.{chunk}
use Rattle.plan.proofs.Parts.{part_fits, part_updated, part_copied, part_anded}
use Rattle.plan.proofs.Working.{placed_by}
use Rattle.plan.specs.Works.{work_bitmap}
use Rattle.chip.specs.Large.{pages_of}
use Rattle.region.proofs.Lending.{fits}
use Rattle.plan.proofs.Task.new_part.Goals as goal

-- of nothing
nothing : (p : ℕ) → ◌≡◌ {A = List ℕ} [] (chunk p [])
nothing p = sym (chunk_past p [] (omega arith))

pub slice_bounds-update_into-end : goal.slice_bounds-update_into-end
slice_bounds-update_into-end c =
    let a = c.args in
    let s = a.self.placed in
    let r = a.self.region in
    let f = fits r.chip r.image.now r.status.now r.chip_right r.lengths_right in
    let room : r.chip.region * pages_of r.chip * 2112 ≤ length r.image.now = omega arith in
    omega (arith, part_fits a.self.region.chip a.self.region.image.now room _ a.p (placed_by a.self.region.chip _ s c.in-Update.is).0 _ c.part-old.ensures)

pub slice_bounds-copy-end : goal.slice_bounds-copy-end
slice_bounds-copy-end c =
    let a = c.args in
    let s = a.self.placed in
    let r = a.self.region in
    let f = fits r.chip r.image.now r.status.now r.chip_right r.lengths_right in
    let room : r.chip.region * pages_of r.chip * 2112 ≤ length r.image.now = omega arith in
    omega (arith, part_fits a.self.region.chip a.self.region.image.now room _ a.p (placed_by a.self.region.chip _ s c.in-Copy.is) _ c.part-old-in-Copy.ensures)

pub slice_bounds-and_into-end : goal.slice_bounds-and_into-end
slice_bounds-and_into-end c =
    let a = c.args in
    let s = a.self.placed in
    let r = a.self.region in
    let f = fits r.chip r.image.now r.status.now r.chip_right r.lengths_right in
    let room : r.chip.region * pages_of r.chip * 2112 ≤ length r.image.now = omega arith in
    omega (arith, part_fits a.self.region.chip a.self.region.image.now room _ a.p (placed_by a.self.region.chip _ s c.in-Merge.is).0 _ c.part-old-in-Merge.ensures)

pub returns-in-Keep : goal.returns-in-Keep
unfolding work_bitmap
returns-in-Keep c = (omega arith, rw c.in-Keep.is (nothing c.args.p))

pub returns-in-Update : goal.returns-in-Update
unfolding work_bitmap
returns-in-Update c =
    let a = c.args in
    let s = a.self.placed in
    let r = a.self.region in
    let f = fits r.chip r.image.now r.status.now r.chip_right r.lengths_right in
    let room : r.chip.region * pages_of r.chip * 2112 ≤ length r.image.now = omega arith in
    let e = c.in-Update.is in
    let in_region = placed_by a.self.region.chip _ s e in
    rw e
    (part_updated a.self.region.chip a.self.region.image.now room _ a.p in_region.0 _ c.part-old.ensures a.out.now _ _ c.requires
    c.update_into.auto.out a.self.wanted.now _ in_region.1 c.chunk_of.ensures c.update_into.ensures)

pub returns-in-Copy : goal.returns-in-Copy
unfolding work_bitmap
returns-in-Copy c =
    let a = c.args in
    let s = a.self.placed in
    let r = a.self.region in
    let f = fits r.chip r.image.now r.status.now r.chip_right r.lengths_right in
    let room : r.chip.region * pages_of r.chip * 2112 ≤ length r.image.now = omega arith in
    let e = c.in-Copy.is in
    rw e
    (part_copied a.self.region.chip a.self.region.image.now room _ a.p (placed_by a.self.region.chip _ s e) _ c.part-old-in-Copy.ensures a.out.now _ _ c.requires
    c.copy.auto.to c.copy.ensures)

pub returns-in-Merge : goal.returns-in-Merge
unfolding work_bitmap
returns-in-Merge c =
    let a = c.args in
    let s = a.self.placed in
    let r = a.self.region in
    let f = fits r.chip r.image.now r.status.now r.chip_right r.lengths_right in
    let room : r.chip.region * pages_of r.chip * 2112 ≤ length r.image.now = omega arith in
    let e = c.in-Merge.is in
    let in_region = placed_by a.self.region.chip _ s e in
    rw e
    (part_anded a.self.region.chip a.self.region.image.now room _ a.p in_region.0 _ c.part-old-in-Merge.ensures a.out.now _ _ c.requires
    c.and_into.auto.out _ _ in_region.1 c.part.ensures c.and_into.ensures)

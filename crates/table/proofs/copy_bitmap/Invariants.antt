-- `copy_bitmap` meets its contract: the bytes before `from` are those of the pages before p.
-- Assumes nothing.
use mathlib.Core.Path.{◌≡◌}
use Prim.Native.Nat.{◌*◌, min}
use lib.ListN.{length, take}
use Rattle.region.specs.Stored.{stored_parts}
use Rattle.chip.specs.Large.{bitmap_bytes}
use Rattle.table.proofs.copy_bitmap.Given as goal

abbrev pub invariant-loop-p : goal.invariant-loop-p
invariant-loop-p l = (l.from ≡ min (2048 * l.p) (bitmap_bytes l.region.chip)) × (length l.out ≡ bitmap_bytes l.region.chip) × (take l.from l.out ≡ stored_parts l.region.chip l.region.image.now l.b.0 l.p)

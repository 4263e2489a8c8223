-- The bridge: a region and room for its bitmap pass every test of what is lent, so reading is that of the rules.
-- Assumes nothing.
use Rattle.std.specs.Prelude.{Ok}
use mathlib.Core.Bool.{true}
use mathlib.Core.List.{List}
use mathlib.Core.Path.{◌≡◌, ap, ◌∙◌}
use Prim.Native.Nat.{ℕ}
use borrow.Author.Tests.{eq-eqb, lt-ltb}
use lib.Dec.{eqb, ltb}
use lib.ListN.{length, get_or}
use Rattle.bits.proofs.Both.{both_intro}
use Rattle.bbt.specs.Lent.{region_lent, statuses_right, lent_reading, table_reading}
use Rattle.bbt.specs.Plans.{Reading, reading}
use Rattle.bbt.specs.Regions.{Region, view}
use Rattle.bbt.proofs.Searches.{all_intro}
use Rattle.chip.specs.Large.{chip_of, bitmap_bytes, region_pages, region_bytes}
use Rattle.chip.specs.declared.LargeChip.{LargeChip}
use Rattle.table.specs.Bridge.{ReadBridged}
use Rattle.table.specs.Tables.{told_reading, room_by, table_answer, table_after}

module _ {chip : LargeChip} (r : Region chip) where
  lengths_right : region_lent chip r.image r.status ≡ true
  unfolding region_lent
  lengths_right =
      both_intro (eqb (length r.image) (region_bytes chip)) (eqb (length r.status) (region_pages chip))
      (eq-eqb (length r.image) (region_bytes chip) r.image_length) (eq-eqb (length r.status) (region_pages chip) r.status_length)

  statuses-right : statuses_right r.status ≡ true
  unfolding statuses_right
  statuses-right = all_intro (length r.status) (λ i. ltb (get_or r.status i 0) 2) (λ i l. lt-ltb (get_or r.status i 0) 2 (r.status_bits i))

  region_reads : (n size : ℕ) → chip_of n size ≡ Ok chip → (room : List ℕ) → length room ≡ bitmap_bytes chip
      → table_reading n size r.image r.status room ≡ reading chip (view r)
  unfolding table_reading lent_reading
  region_reads n size e room h = rw (e, lengths_right, eq-eqb (length room) (bitmap_bytes chip) h, statuses-right)

pub read_bridged : ReadBridged
unfolding table_answer table_after
read_bridged n size chip r e = record {
  answers = λ room h. rw e (ap (told_reading chip) (region_reads r n size e room h));
  bitmaps = λ room h. ap (λ (x : Reading). room_by x room) (region_reads r n size e room h);
  settled =
      λ p m t s room h.
      let read = region_reads r n size e room h ∙ s in
      (rw e (ap (told_reading chip) read), ap (λ (x : Reading). room_by x room) read);
}

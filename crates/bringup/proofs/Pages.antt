-- Which pages of a copy there are, and what the tests of a call come to.
-- Assumes nothing.
use Rattle.std.specs.Prelude.{Ok, Err}
use mathlib.Core.Bool.{Bool, true, false, cond, ◌&&◌}
use mathlib.Core.List.{List}
use mathlib.Core.Path.{◌≡◌, refl, ap}
use Prim.Native.Nat.{ℕ, ◌<◌, ◌≤◌}
use native.Mathlib.Omega.{arith}
use borrow.Author.Tests.{leb-true, ltb-true, le-leb, lt-ltb, eq-eqb, ne_eqb}
use lib.Dec.{eqb, leb, ltb}
use lib.ListN.{length}
use Rattle.bbt.proofs.LeftPages.{Judged, chunk_length}
use Rattle.bbt.specs.Copies.{Table}
use Rattle.bbt.specs.Images.{chunk, Imaged, no_image, page-image, page_image}
use Rattle.bbt.specs.Lent.{on_chip}
use Rattle.bbt.specs.Starts.{AnyTable}
use Rattle.bbt.specs.declared.Kind.TheVariants.{Primary}
use Rattle.bits.proofs.Both.{both_left, both_right}
use Rattle.chip.specs.Large.{chip_of, bitmap_bytes, pages_of}
use Rattle.chip.specs.declared.LargeChip.{LargeChip}
use Rattle.chip.specs.declared.Refusal.{Refusal}
use Rattle.chip.specs.declared.Refusal.TheVariants.{Length}
use Rattle.images.specs.Made.{image_into, image_answer_by, image_after_by}
use Rattle.bringup.specs.TablePages.{kind_numbered, is_copy_page, copy_image, table_page, lent_table_page, table_page_answer, table_page_after}

-- ---- the tests of a page
module _ (chip : LargeChip) (kind version p : ℕ) (is : is_copy_page chip kind version p ≡ true) where
  kind_and_version : leb 1 kind && leb kind 2 && leb version 255 ≡ true
  unfolding is_copy_page
  kind_and_version = both_left (leb 1 kind && leb kind 2 && leb version 255) (ltb p (pages_of chip)) is

  pub version_fits : version ≤ 255
  version_fits = leb-true version 255 (both_right (leb 1 kind && leb kind 2) (leb version 255) kind_and_version)

  pub page_fits : p < pages_of chip
  unfolding is_copy_page
  page_fits = ltb-true p (pages_of chip) (both_right (leb 1 kind && leb kind 2 && leb version 255) (ltb p (pages_of chip)) is)

  -- its image, put into a room for it
  pub made_answer : (bitmap : List ℕ) → image_answer_by (copy_image chip bitmap kind version p) ≡ Ok tt
  unfolding copy_image
  made_answer bitmap = rw is refl

  pub made_after : (bitmap room : List ℕ) → length room ≡ 2112
      → image_into (kind_numbered kind) version (chunk p bitmap) room ≡ image_after_by (copy_image chip bitmap kind version p) room
  unfolding copy_image image_into page_image
  made_after bitmap room len = rw (is, eq-eqb (length room) 2112 len, le-leb (length (chunk p bitmap)) 2048 (chunk_length p bitmap)) refl

-- ---- the tests of a call, in their order
module _ (n size : ℕ) (bitmap : List ℕ) (kind version p : ℕ) (room : List ℕ) where
  -- what is answered, and left in the room
  record Tells (x : Imaged) : Type 0 where
    answer : table_page_answer n size bitmap kind version p room ≡ image_answer_by x
    out : table_page_after n size bitmap kind version p room ≡ image_after_by x room

  tells : (x : Imaged) → lent_table_page n size bitmap kind version p room ≡ x → Tells x
  unfolding table_page_answer table_page_after
  tells x e = record { answer = ap image_answer_by e; out = ap (λ (y : Imaged). image_after_by y room) e }

  refused_page : (r : Refusal) → chip_of n size ≡ Err r → Tells (no_image r)
  unfolding lent_table_page table_page
  refused_page r e = tells (no_image r) (go (eqb (length room) 2112))
    where
      go : (t : Bool) → cond t (table_page n size bitmap kind version p) (on_chip no_image (chip_of n size) (λ chip. no_image Length)) ≡ no_image r
      go true = rw e
      go false = rw e

  pub refused_answer : (r : Refusal) → chip_of n size ≡ Err r → table_page_answer n size bitmap kind version p room ≡ Err r
  refused_answer r e = (refused_page r e).answer

  pub refused_after : (r : Refusal) → chip_of n size ≡ Err r → table_page_after n size bitmap kind version p room ≡ room
  refused_after r e = (refused_page r e).out

  module _ (chip : LargeChip) (e : chip_of n size ≡ Ok chip) where
    -- another length than the page's or the bitmap's
    short_page : (length room ≡ 2112 → ⊥) → Tells (no_image Length)
    unfolding lent_table_page
    short_page h = tells (no_image Length) (rw (ne_eqb (length room) 2112 h, e))

    short_bitmap : (length bitmap ≡ bitmap_bytes chip → ⊥) → Tells (no_image Length)
    unfolding lent_table_page table_page
    short_bitmap h = tells (no_image Length) (go (eqb (length room) 2112))
      where
        go : (t : Bool) → cond t (table_page n size bitmap kind version p) (on_chip no_image (chip_of n size) (λ chip. no_image Length)) ≡ no_image Length
        go true = rw (e, ne_eqb (length bitmap) (bitmap_bytes chip) h)
        go false = rw e

    pub short_page_answer : (length room ≡ 2112 → ⊥) → table_page_answer n size bitmap kind version p room ≡ Err Length
    short_page_answer h = (short_page h).answer

    pub short_page_after : (length room ≡ 2112 → ⊥) → table_page_after n size bitmap kind version p room ≡ room
    short_page_after h = (short_page h).out

    pub short_bitmap_answer : (length bitmap ≡ bitmap_bytes chip → ⊥) → table_page_answer n size bitmap kind version p room ≡ Err Length
    short_bitmap_answer h = (short_bitmap h).answer

    pub short_bitmap_after : (length bitmap ≡ bitmap_bytes chip → ⊥) → table_page_after n size bitmap kind version p room ≡ room
    short_bitmap_after h = (short_bitmap h).out

    lent_page : length room ≡ 2112 → length bitmap ≡ bitmap_bytes chip → Tells (copy_image chip bitmap kind version p)
    unfolding lent_table_page table_page
    lent_page h d = tells (copy_image chip bitmap kind version p) (rw (eq-eqb (length room) 2112 h, e, eq-eqb (length bitmap) (bitmap_bytes chip) d))

    pub page_answer : length room ≡ 2112 → length bitmap ≡ bitmap_bytes chip → table_page_answer n size bitmap kind version p room ≡ image_answer_by (copy_image chip bitmap kind version p)
    page_answer h d = (lent_page h d).answer

    pub page_after : length room ≡ 2112 → length bitmap ≡ bitmap_bytes chip → table_page_after n size bitmap kind version p room ≡ image_after_by (copy_image chip bitmap kind version p) room
    page_after h d = (lent_page h d).out

-- ---- the pages of a primary of the chip
module _ {chip : LargeChip} (ok : Judged chip) (t : Table) (any : AnyTable chip t) (p : ℕ) (l : p < pages_of chip) where
  pub primary_page : table_page chip.blocks chip.region t.bitmap 1 t.version p ≡ page-image (page_image Primary t p)
  unfolding table_page copy_image is_copy_page kind_numbered
  primary_page =
      let v : t.version < 256 = any.version_byte in
      rw (
        ok.is-chip,
        eq-eqb (length t.bitmap) (bitmap_bytes chip) any.bitmap-bytes.as_many,
        le-leb t.version 255 (omega arith),
        lt-ltb p (pages_of chip) l,
      )

  -- with room for a page
  pub primary_lent : (room : List ℕ) → length room ≡ 2112
      → lent_table_page chip.blocks chip.region t.bitmap 1 t.version p room ≡ page-image (page_image Primary t p)
  unfolding lent_table_page
  primary_lent room h = rw (eq-eqb (length room) 2112 h, primary_page)

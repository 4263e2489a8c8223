-- A page of a copy of any table, asked for by the table, the copy's kind and version, and the page's number.
use Rattle.std.specs.Prelude.{Bool, cond, ◌&&◌, List, ℕ, eqb, leb, ltb, length, ⊤, Result}
use Rattle.bbt.specs.Images.{Imaged, no_image, page-image, page_image}
use Rattle.bbt.specs.Lent.{on_chip}
use Rattle.bbt.specs.declared.Kind.{Kind}
use Rattle.bbt.specs.declared.Kind.TheVariants.{Primary, Mirror, Neither}
use Rattle.chip.specs.Large.{chip_of, bitmap_bytes, pages_of}
use Rattle.chip.specs.declared.LargeChip.{LargeChip}
use Rattle.chip.specs.declared.Refusal.{Refusal}
use Rattle.chip.specs.declared.Refusal.TheVariants.{Length, Range}
use Rattle.images.specs.Made.{image_answer_by, image_after_by}

-- the kinds by number: 1 the primary, 2 the mirror
unfoldable pub kind_numbered : ℕ → Kind
kind_numbered kind = cond (eqb kind 1) Primary (cond (eqb kind 2) Mirror Neither)

-- there is such a page: of a primary or a mirror, of a version from 0 to 255, and one of P
unfoldable pub is_copy_page : LargeChip → ℕ → ℕ → ℕ → Bool
is_copy_page chip kind version p = leb 1 kind && leb kind 2 && leb version 255 && ltb p (pages_of chip)

-- its image, or refusal 2
unfoldable pub copy_image : LargeChip → List ℕ → ℕ → ℕ → ℕ → Imaged
copy_image chip bitmap kind version p =
    cond (is_copy_page chip kind version p) (page-image (page_image (kind_numbered kind) (record { version = version; bitmap = bitmap }) p)) (no_image Range)

-- N and the region's size first (2), then the bitmap's length (1), then the page (2)
unfoldable pub table_page : ℕ → ℕ → List ℕ → ℕ → ℕ → ℕ → Imaged
table_page n size bitmap kind version p =
    on_chip no_image (chip_of n size) (λ chip. cond (eqb (length bitmap) (bitmap_bytes chip)) (copy_image chip bitmap kind version p) (no_image Length))

-- room for a page is judged with the bitmap's length
unfoldable pub lent_table_page : ℕ → ℕ → List ℕ → ℕ → ℕ → ℕ → List ℕ → Imaged
lent_table_page n size bitmap kind version p room =
    cond (eqb (length room) 2112) (table_page n size bitmap kind version p) (on_chip no_image (chip_of n size) (λ chip. no_image Length))

-- what is answered, and the lent room after it
unfoldable pub table_page_answer : ℕ → ℕ → List ℕ → ℕ → ℕ → ℕ → List ℕ → Result ⊤ Refusal
table_page_answer n size bitmap kind version p room = image_answer_by (lent_table_page n size bitmap kind version p room)

unfoldable pub table_page_after : ℕ → ℕ → List ℕ → ℕ → ℕ → ℕ → List ℕ → List ℕ
table_page_after n size bitmap kind version p room = image_after_by (lent_table_page n size bitmap kind version p room) room

-- Document 01: page images, 2,112 bytes each. What the functions that make them leave and answer.
use Rattle.std.specs.Prelude.{cond, ◌&&◌, List, ℕ, eqb, leb, length, take, ⊤, Result, Ok, Err}
use Rattle.bbt.specs.Images.{Imaged, no_image, page-image, part_image}
use Rattle.bbt.specs.declared.Kind.{Kind}
use Rattle.chip.specs.declared.Refusal.{Refusal}

-- a page of 2,112 bytes after the image of a part of at most 2,048 bytes was put into it; of other lengths, nothing is
unfoldable pub image_into : Kind → ℕ → List ℕ → List ℕ → List ℕ
image_into k v part page = cond (eqb (length page) 2112 && leb (length part) 2048) (part_image k v part) page

-- the same, where the part is the page's own first n bytes
unfoldable pub finish_into : Kind → ℕ → ℕ → List ℕ → List ℕ
finish_into k v n page = cond (eqb (length page) 2112 && leb n 2048) (part_image k v (take n page)) page

-- what is answered, and the lent room after it: as it was beside a refusal
abbrev pub image_answer_by : Imaged → Result ⊤ Refusal
image_answer_by (no_image r) = Err r
image_answer_by (page-image bytes) = Ok tt

abbrev pub image_after_by : Imaged → List ℕ → List ℕ
image_after_by (no_image r) room = room
image_after_by (page-image bytes) room = bytes

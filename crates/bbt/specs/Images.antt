-- Document 01: page images, 2,112 bytes each, asked for by step number.
use Rattle.std.specs.Prelude.{List, [], ◌∷◌, ◌++◌, ℕ, zero, suc, ◌*◌, ◌-◌, length, take, drop, replicate}
use Rattle.bits.specs.Bytes.{word_bytes}
use Rattle.chip.specs.Large.{pages_of}
use Rattle.chip.specs.declared.LargeChip.{LargeChip}
use Rattle.chip.specs.declared.Refusal.{Refusal}
use Rattle.chip.specs.declared.Refusal.TheVariants.{Range}
use Rattle.bbt.specs.declared.Kind.{Kind}
use Rattle.bbt.specs.Copies.{Table}
use Rattle.bbt.specs.Pages.{kind_word}
use Rattle.bbt.specs.Plans.{Step, erase, write, zeros, steps_of, Answer, refuse, plan}

-- page p's bytes of a bitmap
unfoldable pub chunk : ℕ → List ℕ → List ℕ
chunk p bitmap = take 2048 (drop (2048 * p) bitmap)

-- 2,048 data bytes: a part of a table, the rest FF
unfoldable pub image_data : List ℕ → List ℕ
image_data part = part ++ replicate (2048 - length part) 255

-- OOB 14 to 63: signature, version, the rest FF
unfoldable pub image_tail : Kind → ℕ → List ℕ
image_tail k v = word_bytes (kind_word k) ++ (v ∷ replicate 45 255)

-- a page of a copy: its part of the table, its kind and its version; OOB 0 to 13 are FF
unfoldable pub part_image : Kind → ℕ → List ℕ → List ℕ
part_image k v part = image_data part ++ (replicate 14 255 ++ image_tail k v)

-- page p of a copy of kind k of a table
unfoldable pub page_image : Kind → Table → ℕ → List ℕ
page_image k t p = part_image k t.version (chunk p t.bitmap)

-- the image of a plan's step: a step past the plan's end, or of an erase or of zeros, is refusal 2
pub data Imaged : Type 0 where
  no_image : Refusal → Imaged
  page-image : List ℕ → Imaged

unfoldable pub image_at : List Step → ℕ → Imaged
image_at [] i = no_image Range
image_at (erase b ∷ es) zero = no_image Range
image_at (write b p k t ∷ es) zero = page-image (page_image k t p)
image_at (zeros b ∷ es) zero = no_image Range
image_at (e ∷ es) (suc i) = image_at es i

unfoldable pub plan_image : LargeChip → Answer → ℕ → Imaged
plan_image chip (refuse r) i = no_image r
plan_image chip (plan q) i = image_at (steps_of (pages_of chip) q) i

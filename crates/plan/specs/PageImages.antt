-- Document 01: page images, 2,112 bytes each, are asked for by step number from the snapshot that the first plan was made from, and the numbers
-- of the steps that have failed since.
use Rattle.std.specs.Prelude.{cond, List, ℕ, eqb, length, ⊤, Option, Some, None, Result, Ok, Err}
use Rattle.bbt.specs.Images.{chunk, Imaged, no_image, page-image, part_image}
use Rattle.bbt.specs.Lent.{on_chip, imaged}
use Rattle.bbt.specs.Plans.{Call}
use Rattle.bbt.specs.Told.{told_steps, nth_step}
use Rattle.bbt.specs.declared.Plan.{Plan as ToldPlan}
use Rattle.bbt.specs.declared.Step.{Step}
use Rattle.bbt.specs.declared.Step.TheVariants.{Erase, Write, Zero}
use Rattle.chip.specs.Large.{chip_of}
use Rattle.chip.specs.declared.Refusal.{Refusal}
use Rattle.chip.specs.declared.Refusal.TheVariants.{Length, Range}
use Rattle.images.specs.Made.{image_answer_by, image_after_by}

-- the image of a told step, where pages of this version and bitmap are written
abbrev pub step_image : ℕ → List ℕ → Option Step → Imaged
step_image v bitmap (Some (Erase b)) = no_image Range
step_image v bitmap (Some (Write b p k)) = page-image (part_image k v (chunk p bitmap))
step_image v bitmap (Some (Zero b)) = no_image Range
step_image v bitmap None = no_image Range

-- the image of step i of what was told, where this bitmap is written
abbrev pub told_image : List ℕ → Result ToldPlan Refusal → ℕ → Imaged
told_image bitmap (Ok q) i = step_image q.version bitmap (nth_step (told_steps q) i)
told_image bitmap (Err r) i = no_image r

-- N and the region's size first (2), then room for a page (1), then the image of step i of the plan; its own refusal comes last
unfoldable pub lent_image : ℕ → ℕ → Call → List ℕ → List ℕ → List ℕ → ℕ → List ℕ → Imaged
lent_image n size call image status failed i room =
    cond (eqb (length room) 2112) (imaged n size call image status failed i) (on_chip no_image (chip_of n size) (λ chip. no_image Length))

-- what is answered, and the lent room after it
unfoldable pub image_answer : ℕ → ℕ → Call → List ℕ → List ℕ → List ℕ → ℕ → List ℕ → Result ⊤ Refusal
image_answer n size call image status failed i room = image_answer_by (lent_image n size call image status failed i room)

unfoldable pub image_after : ℕ → ℕ → Call → List ℕ → List ℕ → List ℕ → ℕ → List ℕ → List ℕ
image_after n size call image status failed i room = image_after_by (lent_image n size call image status failed i room) room

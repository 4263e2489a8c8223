-- How answers are packed for a C caller: a refusal as a number, what a spare holds and a plan's steps as bytes.
use Rattle.std.specs.Prelude.{cond, List, [], ◌∷◌, ◌++◌, ℕ, ◌+◌, ◌*◌, ◌/◌, ◌%◌, leb, length, drop}
use Rattle.bbt.specs.Told.{told_steps}
use Rattle.bbt.specs.declared.Plan.{Plan}
use Rattle.bbt.specs.declared.Step.{Step}
use Rattle.bbt.specs.declared.Step.TheVariants.{Erase, Write, Zero}
use Rattle.bits.specs.Bytes.{byte_of}
use Rattle.chip.specs.Refusals.{refusal_number, refusal_detail}
use Rattle.chip.specs.declared.Refusal.{Refusal}
use Rattle.ecc.specs.declared.Verdict.{Verdict}
use Rattle.ecc.specs.declared.Verdict.TheVariants.{Clean, CodeBit, DataBit, NotRepairable}
use Rattle.page.specs.Pages.{page_repairs}
use Rattle.page.specs.declared.PageFields.{PageFields}
use Rattle.spare.specs.declared.SpareFields.{SpareFields}

-- a refusal: bits 0-7 its number, its detail above
abbrev pub refusal_code : Refusal → ℕ
refusal_code r = refusal_number r + 256 * refusal_detail r

-- the eleven bytes of what was read: status, tag, path and count big endian, number of repairs
abbrev pub field_bytes : SpareFields → ℕ → List ℕ
field_bytes f repairs =
    f.status
    ∷ f.tag
    ∷ byte_of 3 f.path
    ∷ byte_of 2 f.path
    ∷ byte_of 1 f.path
    ∷ byte_of 0 f.path
    ∷ byte_of 3 f.count
    ∷ byte_of 2 f.count
    ∷ byte_of 1 f.count
    ∷ byte_of 0 f.count
    ∷ repairs
    ∷ []

-- document 02, T-05: the place that was put right in a half, in three bytes: 01, data byte, bit; 02, code bit, 00; where nothing was, 00 00 00
abbrev pub place_bytes : Verdict → List ℕ
place_bytes Clean = 0 ∷ 0 ∷ 0 ∷ []
place_bytes (DataBit a b) = 1 ∷ a ∷ b ∷ []
place_bytes (CodeBit j) = 2 ∷ j ∷ 0 ∷ []
place_bytes NotRepairable = 0 ∷ 0 ∷ 0 ∷ []

-- the seventeen bytes of what was read of a page: its spare, with the repairs of the page, and the place of each half, first half first
unfoldable pub page_bytes : PageFields → List ℕ
page_bytes f = field_bytes f.spare (page_repairs f) ++ (place_bytes f.first ++ place_bytes f.second)

-- a step in four bytes: kind, chip block big endian, page
abbrev pub four_bytes : ℕ → ℕ → ℕ → List ℕ
four_bytes kind block page = kind ∷ block / 256 % 256 ∷ block % 256 ∷ page ∷ []

abbrev pub step_bytes : Step → List ℕ
step_bytes (Erase b) = four_bytes 0 b.0 0
step_bytes (Write b p k) = four_bytes 1 b.0 p
step_bytes (Zero b) = four_bytes 2 b.0 0

unfoldable pub plan_bytes : List Step → List ℕ
plan_bytes [] = []
plan_bytes (s ∷ ss) = step_bytes s ++ plan_bytes ss

-- the lent bytes with the steps put first; those past the last step keep what they held
unfoldable pub steps_put : List Step → List ℕ → List ℕ
steps_put ss room = plan_bytes ss ++ drop (4 * length ss) room

-- the same, where there is room for them
unfoldable pub steps_into : Plan → List ℕ → List ℕ
steps_into q room = cond (leb (4 * length (told_steps q)) (length room)) (steps_put (told_steps q) room) room

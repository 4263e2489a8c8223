-- Document 01: reading a page, 512 data and 16 spare bytes, with repair of both halves.
use Rattle.std.specs.Prelude.{Bool, true, false, cond, List, ℕ, ◌+◌, eqb, length, get_or, Result, Ok, Err}
use Rattle.chip.specs.declared.Half.{Half}
use Rattle.chip.specs.declared.Half.TheVariants.{First, Second}
use Rattle.chip.specs.declared.Refusal.{Refusal}
use Rattle.chip.specs.declared.Refusal.TheVariants.{Length, Unrepairable}
use Rattle.ecc.specs.Flips.{Place}
use Rattle.ecc.specs.Places.{places}
use Rattle.ecc.specs.Verdicts.{found, mended, repairs}
use Rattle.ecc.specs.declared.Code.{Code}
use Rattle.ecc.specs.declared.Verdict.{Verdict}
use Rattle.ecc.specs.declared.Verdict.TheVariants.{Clean, CodeBit, DataBit, NotRepairable}
use Rattle.spare.specs.declared.SpareFields.{SpareFields}
use Rattle.spare.specs.Reading.{spare_answer, spare_repairs}
use Rattle.spare.specs.Writing.{first_half, second_half}
use Rattle.page.specs.declared.PageFields.{PageFields}

-- bytes 8-10 hold the code of the second half, bytes 13-15 of the first
abbrev pub code_place : Half → ℕ
code_place First = 13
code_place Second = 8

abbrev pub stored_code : Half → List ℕ → Code
stored_code h s = record { one = get_or s (code_place h) 0; two = get_or s (code_place h + 1) 0; three = get_or s (code_place h + 2) 0 }

-- a half that can be put right, or needs nothing
abbrev pub is_repairable : Verdict → Bool
is_repairable Clean = true
is_repairable (CodeBit j) = true
is_repairable (DataBit a b) = true
is_repairable NotRepairable = false

-- both halves are known: the first is named if both are not repairable
unfoldable pub by_verdicts : SpareFields → Verdict → Verdict → Result PageFields Refusal
by_verdicts f first second =
    cond (is_repairable first)
    (cond (is_repairable second) (Ok (record { spare = f; first = first; second = second })) (Err (Unrepairable Second)))
    (Err (Unrepairable First))

-- the spare is known
abbrev pub by_spare : List ℕ → List ℕ → Result SpareFields Refusal → Result PageFields Refusal
by_spare bytes s (Err r) = Err r
by_spare bytes s (Ok f) = by_verdicts f (found (first_half bytes) (stored_code First s)) (found (second_half bytes) (stored_code Second s))

-- the answer of reading a page: refusals 1, 3, 4, then one of 51 to 53, then 6
unfoldable pub page_answer : List ℕ → List ℕ → Result PageFields Refusal
page_answer bytes s = cond (eqb (length bytes) 512) (by_spare bytes s (spare_answer s)) (Err Length)

-- the data after it: repaired only where the whole read succeeds
abbrev pub data_by : Result PageFields Refusal → List ℕ → List ℕ
data_by (Err r) bytes = bytes
data_by (Ok f) bytes = mended Second f.second (mended First f.first bytes)

unfoldable pub data_after : List ℕ → List ℕ → List ℕ
data_after bytes s = data_by (page_answer bytes s) bytes

-- how many of tag, path word, count word, first half and second half were repaired: 0 to 5
abbrev pub page_repairs : PageFields → ℕ
page_repairs f = spare_repairs f.spare.repaired + repairs f.first + repairs f.second

-- what was put right in a half
abbrev pub verdict_in : Half → PageFields → Verdict
verdict_in First f = f.first
verdict_in Second f = f.second

-- document 02, T-05: its place; none where nothing was put right
abbrev pub places_in : Half → PageFields → List Place
places_in h f = places (verdict_in h f)

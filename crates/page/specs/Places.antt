-- Document 02, T-05, of any page that is read, as written or not: which places it tells of its halves, what was put right there, and what they count.
use Rattle.std.specs.Prelude.{List, [], ◌∷◌, ◌≡◌, ℕ, ◌+◌, length, Ok}
use Rattle.bits.specs.Bytes.{flip_at}
use Rattle.chip.specs.declared.Half.{Half}
use Rattle.chip.specs.declared.Half.TheVariants.{First, Second}
use Rattle.ecc.specs.Flips.{Place, data_at, code_at, Kept}
use Rattle.ecc.specs.Places.{Located}
use Rattle.ecc.specs.Verdicts.{half_start}
use Rattle.spare.specs.Reading.{spare_repairs}
use Rattle.spare.specs.Writing.{first_half, second_half}
use Rattle.page.specs.declared.PageFields.{PageFields}
use Rattle.page.specs.Claims.{Page}
use Rattle.page.specs.Pages.{stored_code, page_answer, data_after, places_in, page_repairs}

-- a half of a page, with the code that is stored with it
abbrev pub kept_in : Half → Page → Kept
kept_in First p = record { half = first_half p.bytes; code = stored_code First p.spare }
kept_in Second p = record { half = second_half p.bytes; code = stored_code Second p.spare }

-- data with the bits at places of half h flipped; a code bit is not among the data
abbrev pub data_flipped : Half → List Place → List ℕ → List ℕ
data_flipped h [] bytes = bytes
data_flipped h (data_at a b ∷ qs) bytes = data_flipped h qs (flip_at bytes (half_start h + a) b)
data_flipped h (code_at j ∷ qs) bytes = data_flipped h qs bytes

-- a page was put right at the places told of each half, and nowhere else: its data is then as it was, but for the data bits at these places
pub record PutRight (p : Page) (told : Half → List Place) (after : List ℕ) : Type 0 where
  pub halves : (h : Half) → Located (kept_in h p) (told h)
  pub left : after ≡ data_flipped Second (told Second) (data_flipped First (told First) p.bytes)

abbrev pub TellsPlaces : Type 0
TellsPlaces = (p : Page) (f : PageFields) → page_answer p.bytes p.spare ≡ Ok f → PutRight p (λ h. places_in h f) (data_after p.bytes p.spare)

-- document 01's count of repairs is the number of places plus the repaired tag and words
abbrev pub CountsPlaces : Type 0
CountsPlaces = (f : PageFields) → page_repairs f ≡ length (places_in First f) + length (places_in Second f) + spare_repairs f.spare.repaired

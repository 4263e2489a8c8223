-- Document 01: the 64 OOB bytes of a page of a region image, as a part of the caller's slice.
use Rattle.std.specs.Prelude.{cond, ◌&&◌, List, [], ◌≢◌, ◌≡◌, ℕ, ◌+◌, ◌*◌, eqb, ltb, length, take, drop, ⊤, Result, Ok, Err}
use Rattle.std.specs.Borrow.{Bor}
use Rattle.bbt.specs.Lent.{on_chip, judged}
use Rattle.chip.specs.Large.{chip_of, pages_of}
use Rattle.chip.specs.Refusals.{refusal_number}
use Rattle.chip.specs.declared.LargeChip.{LargeChip}
use Rattle.chip.specs.declared.Refusal.{Refusal}
use Rattle.chip.specs.declared.Refusal.TheVariants.{Range}
use Rattle.oob.specs.declared.Extent.{Extent}

-- how far a chip's region image reaches; with N or the region's size refused, nowhere
abbrev pub extent_on : LargeChip → Extent
extent_on chip = record { region = chip.region; pages = pages_of chip }

unfoldable pub extent_of : ℕ → ℕ → Extent
extent_of n size = on_chip (λ r. record { region = 0; pages = 0 }) (chip_of n size) extent_on

-- the image's length (1), then block and page (2)
abbrev pub oob_in : Extent → ℕ → ℕ → ℕ → Result ⊤ Refusal
oob_in e lent block page = judged Err (eqb lent (e.region * e.pages * 2112)) (ltb block e.region && ltb page e.pages) (Ok tt)

-- N and the size before these (2): where they are refused there are no pages
unfoldable pub oob_answer : Extent → ℕ → ℕ → ℕ → Result ⊤ Refusal
oob_answer e lent block page = cond (eqb e.pages 0) (Err Range) (oob_in e lent block page)

-- so the answer of the extent of N and a size is their own refusal, or what is said on their chip
abbrev pub JudgesChip : ℕ → ℕ → ℕ → ℕ → ℕ → Type 0
JudgesChip n size lent block page = oob_answer (extent_of n size) lent block page ≡ on_chip Err (chip_of n size) (λ chip. oob_in (extent_on chip) lent block page)

-- document 01's number: 0 where the bytes are given, else the refusal's
abbrev pub oob_number : Result ⊤ Refusal → ℕ
oob_number (Ok given) = 0
oob_number (Err r) = refusal_number r

-- where the OOB bytes of a page start
abbrev pub oob_start : Extent → ℕ → ℕ → ℕ
oob_start e block page = (block * e.pages + page) * 2112 + 2048

-- the bytes: none beside a refusal
abbrev pub oob_by : Result ⊤ Refusal → List ℕ → ℕ → List ℕ
oob_by (Ok given) image at = take 64 (drop at image)
oob_by (Err r) image at = []

unfoldable pub oob_bytes : Extent → List ℕ → ℕ → ℕ → List ℕ
oob_bytes e image block page = oob_by (oob_answer e (length image) block page) image (oob_start e block page)

-- so there are 64 bytes where the number is 0, and none beside a refusal
pub record OobByNumber (e : Extent) (image : List ℕ) (block page : ℕ) : Type 0 where
  pub given : oob_number (oob_answer e (length image) block page) ≡ 0 → length (oob_bytes e image block page) ≡ 64
  pub refused : oob_number (oob_answer e (length image) block page) ≢ 0 → oob_bytes e image block page ≡ []

-- where they lie: in the image's own block of memory, from the image's offset on; an empty part lies at the image's start
abbrev pub place_by : Result ⊤ Refusal → ℕ × ℕ → ℕ → ℕ × ℕ
place_by (Ok given) image at = (image.0, at + image.1)
place_by (Err r) image at = image

unfoldable pub oob_place : Extent → ℕ × ℕ → ℕ → ℕ → ℕ → ℕ × ℕ
oob_place e image lent block page = place_by (oob_answer e lent block page) image (oob_start e block page)

-- the part r that is handed back of an image: its bytes, and where it lies
pub record OobOf (e : Extent) (image : Bor (List ℕ)) (block page : ℕ) (r : Bor (List ℕ)) : Type 0 where
  pub bytes : r.now ≡ oob_bytes e image.now block page
  pub place : r.ref_ptr ≡ oob_place e image.ref_ptr (length image.now) block page

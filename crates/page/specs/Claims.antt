-- Demand 2 for pages: what may be written is written, and reads back as the same fields; in a page otherwise as written, one flipped bit
-- in a half, among its 256 bytes or their 22 code bits, still gives the data as written and is told by its place, and two are refused,
-- whatever the other half has.
use Rattle.std.specs.Prelude.{cond, List, [], ◌∷◌, ◌≡◌, ℕ, ◌+◌, ◌-◌, ltb, Result, Ok, Err}
use Rattle.bits.specs.Bytes.{flip_at}
use Rattle.chip.specs.declared.Half.{Half}
use Rattle.chip.specs.declared.Half.TheVariants.{First, Second}
use Rattle.chip.specs.declared.Refusal.{Refusal}
use Rattle.chip.specs.declared.Refusal.TheVariants.{Unrepairable}
use Rattle.ecc.specs.Flips.{Place, data_at, code_at, Real, named}
use Rattle.ecc.specs.Verdicts.{half_start}
use Rattle.ecc.specs.declared.Verdict.{Verdict}
use Rattle.ecc.specs.declared.Verdict.TheVariants.{Clean, NotRepairable}
use Rattle.spare.specs.Claims.{spare_fields_of, SpareReadsBack}
use Rattle.spare.specs.Writing.{spare_of}
use Rattle.page.specs.declared.PageFields.{PageFields}
use Rattle.page.specs.Pages.{code_place, page_answer, data_after, places_in, page_repairs}

-- 512 data bytes and 16 spare bytes
pub record Page : Type 0 where
  pub bytes : List ℕ
  pub spare : List ℕ

-- the page as written
abbrev pub written : List ℕ → ℕ → ℕ → ℕ → Page
written bytes tag path count = record { bytes = bytes; spare = spare_of bytes tag path count }

-- the stored byte and the bit in it that hold code bit j
abbrev pub code_byte : ℕ → ℕ
code_byte j = cond (ltb j 8) 0 (cond (ltb j 16) 1 2)

abbrev pub code_bit_in : ℕ → ℕ
code_bit_in j = cond (ltb j 8) j (cond (ltb j 16) (j - 8) (j - 14))

-- a page with the bit at a place of half h flipped
abbrev pub flipped : Half → Place → Page → Page
flipped h (data_at a b) p = record { bytes = flip_at p.bytes (half_start h + a) b; spare = p.spare }
flipped h (code_at j) p = record { bytes = p.bytes; spare = flip_at p.spare (code_place h + code_byte j) (code_bit_in j) }

-- up to two flipped bits of a half
pub data Flips : Type 0 where
  none : Flips
  one : Place → Flips
  two : Place → Place → Flips

-- at places that exist; of two, different ones
abbrev pub RealFlips : Flips → Type 0
RealFlips none = Unit {0}
RealFlips (one q) = Real q
RealFlips (two q r) = Real q × Real r × (q ≡ r → ⊥)

-- a page with these bits of half h flipped
abbrev pub with_flips : Half → Flips → Page → Page
with_flips h none p = p
with_flips h (one q) p = flipped h q p
with_flips h (two q r) p = flipped h q (flipped h r p)

-- what the half then tells
abbrev pub flip_verdict : Flips → Verdict
flip_verdict none = Clean
flip_verdict (one q) = named q
flip_verdict (two q r) = NotRepairable

-- the place that it tells: that of its one flipped bit
abbrev pub flip_places : Flips → List Place
flip_places none = []
flip_places (one q) = q ∷ []
flip_places (two q r) = []

-- and how many repairs it counts
abbrev pub flip_repairs : Flips → ℕ
flip_repairs none = 0
flip_repairs (one q) = 1
flip_repairs (two q r) = 0

-- the fields of a page as written, with what was put right in its halves
abbrev pub fields_of : ℕ → ℕ → ℕ → Verdict → Verdict → PageFields
fields_of tag path count first second = record { spare = spare_fields_of tag path count; first = first; second = second }

-- refusal 6 where half h has two flipped bits, else the answer a
abbrev pub unless_two : Half → Flips → Result PageFields Refusal → Result PageFields Refusal
unless_two h none a = a
unless_two h (one q) a = a
unless_two h (two q r) a = Err (Unrepairable h)

-- the answer, with f flipped in the first half and g in the second: the first half is named if both have two; else the fields as written
abbrev pub flip_answer : ℕ → ℕ → ℕ → Flips → Flips → Result PageFields Refusal
flip_answer tag path count f g = unless_two First f (unless_two Second g (Ok (fields_of tag path count (flip_verdict f) (flip_verdict g))))

-- the data after it: as written where the page was read, as lent where it was refused
abbrev pub flip_data : Result PageFields Refusal → List ℕ → List ℕ → List ℕ
flip_data (Ok f) asWritten lent = asWritten
flip_data (Err r) asWritten lent = lent

-- what reading a page answers, and the data after it
pub record Reading (p : Page) (answer : Result PageFields Refusal) (after : List ℕ) : Type 0 where
  pub answered : page_answer p.bytes p.spare ≡ answer
  pub left : data_after p.bytes p.spare ≡ after

pub record ReadsBack (bytes : List ℕ) (tag path count : ℕ) : Type 0 where
  -- its spare is written, and reads back alone
  pub spare : SpareReadsBack bytes tag path count
  -- the page with none, one or two flipped bits in each half
  pub reads : (f g : Flips) → RealFlips f → RealFlips g
      → let p : Page = with_flips First f (with_flips Second g (written bytes tag path count)) in
      Reading p (flip_answer tag path count f g) (flip_data (flip_answer tag path count f g) bytes p.bytes)
  -- document 02, T-05: the place told of a half is its flipped bit; none is told where no bit is flipped
  pub located : (f g : Flips)
      → let told : PageFields = fields_of tag path count (flip_verdict f) (flip_verdict g) in
      (places_in First told ≡ flip_places f) × (places_in Second told ≡ flip_places g)
  -- how many were repaired: the halves with one flipped bit
  pub counted : (f g : Flips) → page_repairs (fields_of tag path count (flip_verdict f) (flip_verdict g)) ≡ flip_repairs f + flip_repairs g

-- Demand 2 as a sentence about the bytes of the C entries: what ream_spare_write wrote, ream_spare_read and ream_page_read give back as the
-- same fields; one flipped bit in a half still gives the data as written, and two are refused.
use Rattle.std.specs.Prelude.{List, ◌≡◌, ℕ, ◌+◌, length}
use Rattle.chip.specs.declared.Half.TheVariants.{First, Second}
use Rattle.chip.specs.declared.Refusal.TheVariants.{Unrepairable}
use Rattle.packing.specs.Packing.{refusal_code, field_bytes}
use Rattle.page.specs.Claims.{Page, Flips, none, one, two, RealFlips, with_flips, flip_repairs}
use Rattle.reamsickle.specs.Boundary.{write_code, spare_code, spare_fields_after, page_code, page_data_after, page_fields_after}
use Rattle.spare.specs.Claims.{Writable, spare_fields_of}
use Rattle.spare.specs.Writing.{spare_after}

-- the eleven bytes of what was written: status FF, tag, path, count, and a number of repairs
abbrev pub written_fields : ℕ → ℕ → ℕ → ℕ → List ℕ
written_fields tag path count repairs = field_bytes (spare_fields_of tag path count) repairs

-- by the flipped bits of both halves: one answer where the first half has two, one where only the second has, one where the page is read
abbrev pub by_flips : {A : Type 0} → Flips → Flips → A → A → A → A
by_flips (two q r) g first second read = first
by_flips none (two q r) first second read = second
by_flips none none first second read = read
by_flips none (one q) first second read = read
by_flips (one p) (two q r) first second read = second
by_flips (one p) none first second read = read
by_flips (one p) (one q) first second read = read

-- ream_page_read on 512 data bytes, sixteen spare bytes and room for the fields: its answer, and both lent buffers after it
pub record PageReads (p : Page) (fields : List ℕ) (answer : ℕ) (bytes told : List ℕ) : Type 0 where
  pub answered : page_code p.bytes p.spare fields ≡ answer
  pub left : page_data_after p.bytes p.spare fields ≡ bytes
  pub filled : page_fields_after p.bytes p.spare fields ≡ told

-- of any 512 bytes, tag, path and count that may be written, with any bytes in the lent rooms
pub record ReadsBackInC (bytes : List ℕ) (tag path count : ℕ) (spare fields : List ℕ) : Type 0 where
  -- ream_spare_write answers 0
  pub written : write_code bytes tag path count spare ≡ 0
  -- ream_spare_read of what it left answers 0, with the fields as written and no repairs
  pub spare_answered : spare_code (spare_after bytes tag path count spare) fields ≡ 0
  pub spare_told : spare_fields_after (spare_after bytes tag path count spare) fields ≡ written_fields tag path count 0
  -- ream_page_read of the page, with up to two flipped bits in each half: refusal 6 with the first half that has two, and nothing changed; else
  -- 0, the data as written, the fields as written, and a repair for each half with one
  pub page-told : (f g : Flips) → RealFlips f → RealFlips g
      → let p : Page = with_flips First f (with_flips Second g (record { bytes = bytes; spare = spare_after bytes tag path count spare })) in
      PageReads p fields (by_flips f g (refusal_code (Unrepairable First)) (refusal_code (Unrepairable Second)) 0) (by_flips f g p.bytes p.bytes bytes)
      (by_flips f g fields fields (written_fields tag path count (flip_repairs f + flip_repairs g)))

abbrev pub Demand2InC : Type 0
Demand2InC =
    (bytes : List ℕ) (tag path count : ℕ) (spare fields : List ℕ) → Writable bytes tag path count → length spare ≡ 16 → length fields ≡ 11
    → ReadsBackInC bytes tag path count spare fields

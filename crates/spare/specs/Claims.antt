-- Demand 2 for spares: what may be written is written, and reads back as the same fields.
use Rattle.std.specs.Prelude.{false, true, List, ◌≡◌, ℕ, ◌<◌, ◌≤◌, ◌^◌, length, Ok}
use Rattle.spare.specs.declared.SpareFields.{SpareFields}
use Rattle.spare.specs.Reading.{spare_answer}
use Rattle.spare.specs.Tags.{tags, is_in}
use Rattle.spare.specs.Writing.{spare_of, write_answer, spare_after}

-- what may be written
pub record Writable (bytes : List ℕ) (tag path count : ℕ) : Type 0 where
  pub whole : length bytes ≡ 512
  pub known : is_in tags tag ≡ true
  pub short : path < 2 ^ 26
  pub few : count ≤ 262142

-- the fields of a spare as written: status FF, no repairs
abbrev pub spare_fields_of : ℕ → ℕ → ℕ → SpareFields
spare_fields_of tag path count =
    record { status = 0xFF; tag = tag; path = path; count = count; repaired = record { tag = false; path = false; count = false } }

pub record SpareReadsBack (bytes : List ℕ) (tag path count : ℕ) : Type 0 where
  -- it is written: the answer, and the lent bytes after it
  pub accepted : (lent : List ℕ) → length lent ≡ 16
      → (write_answer bytes tag path count lent ≡ Ok tt) × (spare_after bytes tag path count lent ≡ spare_of bytes tag path count)
  -- it reads back
  pub alone : spare_answer (spare_of bytes tag path count) ≡ Ok (spare_fields_of tag path count)

-- The C boundary: an answer as one number, bits 0-7 the refusal number (0 where the call was answered), the bits above its detail; and what
-- each lent buffer holds afterwards. Every definition is at every input; a refused call leaves what was lent.
use Rattle.std.specs.Prelude.{Bool, cond, ◌&&◌, List, [], ◌∷◌, ℕ, ◌+◌, ◌*◌, ◌^◌, eqb, length, ⊤, Result, Ok, Err}
use Rattle.boot.specs.Answers.{map_answer, order_number}
use Rattle.boot.specs.declared.MapCounts.{MapCounts}
use Rattle.boot.specs.declared.MapRefusal.{MapRefusal}
use Rattle.boot.specs.declared.MapRefusal.TheVariants.{OutOfOrder, Refused}
use Rattle.chip.specs.declared.Refusal.{Refusal}
use Rattle.chip.specs.declared.Refusal.TheVariants.{Length}
use Rattle.ecc.specs.Half.{code_of}
use Rattle.ecc.specs.declared.Code.{Code}
use Rattle.packing.specs.Packing.{refusal_code, field_bytes}
use Rattle.page.specs.Pages.{page_answer, data_after, page_repairs}
use Rattle.page.specs.declared.PageFields.{PageFields}
use Rattle.spare.specs.Reading.{spare_answer, spare_repairs}
use Rattle.spare.specs.Writing.{write_answer}
use Rattle.spare.specs.declared.SpareFields.{SpareFields}

-- ---- an answer that tells nothing above the number
abbrev pub code_by : Result ⊤ Refusal → ℕ
code_by (Ok done) = 0
code_by (Err r) = refusal_code r

-- ---- ream_half_code
abbrev pub code_bytes : Code → List ℕ
code_bytes c = c.one ∷ c.two ∷ c.three ∷ []

-- 256 bytes, and room for three
unfoldable pub is_half : List ℕ → List ℕ → Bool
is_half half code = eqb (length half) 256 && eqb (length code) 3

unfoldable pub half_code : List ℕ → List ℕ → ℕ
half_code half code = cond (is_half half code) 0 (refusal_code Length)

unfoldable pub half_code_after : List ℕ → List ℕ → List ℕ
half_code_after half code = cond (is_half half code) (code_bytes (code_of half)) code

-- ---- ream_spare_write
unfoldable pub write_code : List ℕ → ℕ → ℕ → ℕ → List ℕ → ℕ
write_code bytes tag path count spare = code_by (write_answer bytes tag path count spare)

-- ---- ream_spare_read
abbrev pub spare_code_by : Result SpareFields Refusal → ℕ
spare_code_by (Ok f) = 0
spare_code_by (Err r) = refusal_code r

abbrev pub spare_fields_by : Result SpareFields Refusal → List ℕ → List ℕ
spare_fields_by (Ok f) fields = field_bytes f (spare_repairs f.repaired)
spare_fields_by (Err r) fields = fields

unfoldable pub spare_code : List ℕ → List ℕ → ℕ
spare_code spare fields = cond (eqb (length fields) 11) (spare_code_by (spare_answer spare)) (refusal_code Length)

unfoldable pub spare_fields_after : List ℕ → List ℕ → List ℕ
spare_fields_after spare fields = cond (eqb (length fields) 11) (spare_fields_by (spare_answer spare) fields) fields

-- ---- ream_page_read
abbrev pub page_code_by : Result PageFields Refusal → ℕ
page_code_by (Ok f) = 0
page_code_by (Err r) = refusal_code r

abbrev pub page_fields_by : Result PageFields Refusal → List ℕ → List ℕ
page_fields_by (Ok f) fields = field_bytes f.spare (page_repairs f)
page_fields_by (Err r) fields = fields

unfoldable pub page_code : List ℕ → List ℕ → List ℕ → ℕ
page_code bytes spare fields = cond (eqb (length fields) 11) (page_code_by (page_answer bytes spare)) (refusal_code Length)

unfoldable pub page_data_after : List ℕ → List ℕ → List ℕ → List ℕ
page_data_after bytes spare fields = cond (eqb (length fields) 11) (data_after bytes spare) bytes

unfoldable pub page_fields_after : List ℕ → List ℕ → List ℕ → List ℕ
page_fields_after bytes spare fields = cond (eqb (length fields) 11) (page_fields_by (page_answer bytes spare) fields) fields

-- ---- ream_boot_map: how many blocks are mapped in bits 8-23, and how many are to be erased in bits 24-39; refusal 13 with the boot number above
abbrev pub map_code_by : Result MapCounts MapRefusal → ℕ
map_code_by (Ok c) = 2 ^ 8 * c.mapped + 2 ^ 24 * c.erased
map_code_by (Err (OutOfOrder k)) = order_number + 2 ^ 8 * k.0
map_code_by (Err (Refused r)) = refusal_code r

unfoldable pub map_code : ℕ → List ℕ → List ℕ → List ℕ → ℕ
map_code n spares mapped erased = map_code_by (map_answer n spares mapped erased)

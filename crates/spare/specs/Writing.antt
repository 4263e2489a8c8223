-- Document 01, "Small page: the sixteen spare bytes": what is written for a page.
use Rattle.std.specs.Prelude.{Bool, cond, ◌&&◌, List, [], ◌∷◌, ℕ, ◌+◌, ◌*◌, ◌^◌, eqb, leb, ltb, length, take, drop, ⊤, Result, Ok, Err}
use Rattle.bits.specs.Bytes.{byte_of}
use Rattle.chip.specs.declared.Refusal.{Refusal}
use Rattle.chip.specs.declared.Refusal.TheVariants.{Length, Range}
use Rattle.ecc.specs.Half.{code_of}
use Rattle.ecc.specs.declared.Code.{Code}
use Rattle.hamming.specs.Word.{encoded}
use Rattle.spare.specs.Tags.{tags, is_in}

-- the halves of a page's data
abbrev pub first_half : List ℕ → List ℕ
first_half bytes = take 256 bytes

abbrev pub second_half : List ℕ → List ℕ
second_half bytes = drop 256 bytes

-- top 8 data bits are 56 hex, low 18 bits the erase count
abbrev pub magic_and_count : ℕ → ℕ
magic_and_count count = 0x56 * 2 ^ 18 + count

-- the sixteen bytes: path word, tag, status FF, count word and second half's code between its bytes, first half's code
abbrev pub spare_with : Code → Code → ℕ → ℕ → ℕ → List ℕ
spare_with first second tag path count =
    byte_of 3 (encoded path)
    ∷ byte_of 2 (encoded path)
    ∷ byte_of 1 (encoded path)
    ∷ byte_of 0 (encoded path)
    ∷ tag
    ∷ 0xFF
    ∷ byte_of 3 (encoded (magic_and_count count))
    ∷ byte_of 2 (encoded (magic_and_count count))
    ∷ second.one
    ∷ second.two
    ∷ second.three
    ∷ byte_of 1 (encoded (magic_and_count count))
    ∷ byte_of 0 (encoded (magic_and_count count))
    ∷ first.one
    ∷ first.two
    ∷ first.three
    ∷ []

-- those of a page, with the codes of its halves
unfoldable pub spare_of : List ℕ → ℕ → ℕ → ℕ → List ℕ
spare_of bytes tag path count = spare_with (code_of (first_half bytes)) (code_of (second_half bytes)) tag path count

-- one of the seven tag bytes, a path below 2^26, a count of at most 262,142
unfoldable pub is_writable : ℕ → ℕ → ℕ → Bool
is_writable tag path count = is_in tags tag && (ltb path (2 ^ 26) && leb count 262142)

-- the answer of writing: refusal 1, then 2
unfoldable pub write_answer : List ℕ → ℕ → ℕ → ℕ → List ℕ → Result ⊤ Refusal
write_answer bytes tag path count spare =
    cond (eqb (length bytes) 512 && eqb (length spare) 16)
    (cond (is_writable tag path count) (Ok tt) (Err Range))
    (Err Length)

-- the lent spare after it: changed where it was written only
abbrev pub spare_by : Result ⊤ Refusal → List ℕ → List ℕ → List ℕ
spare_by (Ok _) new old = new
spare_by (Err r) new old = old

unfoldable pub spare_after : List ℕ → ℕ → ℕ → ℕ → List ℕ → List ℕ
spare_after bytes tag path count spare = spare_by (write_answer bytes tag path count spare) (spare_of bytes tag path count) spare

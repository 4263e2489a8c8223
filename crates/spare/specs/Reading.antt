-- Document 01, "Small page: the sixteen spare bytes": what reading a spare gives.
use Rattle.std.specs.Prelude.{Bool, true, not, cond, ◌&&◌, List, [], ◌∷◌, ℕ, ◌+◌, ◌/◌, ◌%◌, ◌^◌, eqb, length, get_or, ⊤, Option, Some, None, Result, Ok, Err}
use Rattle.bits.specs.Bytes.{word}
use Rattle.chip.specs.declared.BadKind.{BadKind}
use Rattle.chip.specs.declared.Refusal.{Refusal}
use Rattle.chip.specs.declared.Refusal.TheVariants.{Length, BadBlock, Tag, Erased, NotOurs, NotOursRepaired}
use Rattle.hamming.specs.Word.{decoded, is_repair}
use Rattle.hamming.specs.declared.Decoded.{Decoded}
use Rattle.hamming.specs.declared.Repair.{Repair}
use Rattle.spare.specs.declared.Repaired.{Repaired}
use Rattle.spare.specs.declared.SpareFields.{SpareFields}
use Rattle.spare.specs.Status.{status_of}
use Rattle.spare.specs.Tags.{tags, nearest}

-- bytes 0-3: path word, big endian
abbrev pub path_word : List ℕ → ℕ
path_word s = word (get_or s 0 0) (get_or s 1 0) (get_or s 2 0) (get_or s 3 0)

-- bytes 6, 7, 11, 12: magic-and-count word, big endian, in that order
abbrev pub count_word : List ℕ → ℕ
count_word s = word (get_or s 6 0) (get_or s 7 0) (get_or s 11 0) (get_or s 12 0)

-- top 8 data bits are the magic, low 18 bits the erase count
abbrev pub magic_of : ℕ → ℕ
magic_of bits = bits / 2 ^ 18

abbrev pub count_of : ℕ → ℕ
count_of bits = bits % 2 ^ 18

-- all spare bytes are FF
unfoldable pub is_erased : List ℕ → Bool
is_erased [] = true
is_erased (b ∷ bs) = eqb b 0xFF && is_erased bs

-- the magic is wrong (document 02, T-04): 51 when all 16 spare bytes are FF, tested first; 52 when the count word needed no repair, 53 when it was
-- repaired
unfoldable pub not_ours : List ℕ → Repair → Refusal
not_ours s repair = cond (is_erased s) Erased (cond (is_repair repair) NotOursRepaired NotOurs)

-- what a spare tells where tag and words are known
abbrev pub fields_by : List ℕ → ℕ → Decoded → Decoded → SpareFields
fields_by s tag path count = record {
  status = get_or s 5 0;
  tag = tag;
  path = path.bits;
  count = count_of count.bits;
  repaired = record { tag = not (eqb (get_or s 4 0) tag); path = is_repair path.repair; count = is_repair count.repair };
}

-- the same, or the refusal: the magic is judged after repair
unfoldable pub by_words : List ℕ → ℕ → Decoded → Decoded → Result SpareFields Refusal
by_words s tag path count =
    cond (eqb (magic_of count.bits) 0x56) (Ok (fields_by s tag path count)) (Err (not_ours s count.repair))

-- the tag is known
abbrev pub by_tag : List ℕ → Option ℕ → Result SpareFields Refusal
by_tag s None = Err Tag
by_tag s (Some t) = by_words s t (decoded (path_word s)) (decoded (count_word s))

-- the status is known
abbrev pub by_status : List ℕ → Result ⊤ BadKind → Result SpareFields Refusal
by_status s (Err k) = Err (BadBlock k)
by_status s (Ok _) = by_tag s (nearest tags (get_or s 4 0))

-- the answer of reading a spare: refusals 1, 3, 4, then one of 51 to 53
unfoldable pub spare_answer : List ℕ → Result SpareFields Refusal
spare_answer s = cond (eqb (length s) 16) (by_status s (status_of (get_or s 5 0))) (Err Length)

-- how many of tag, path word and count word were repaired: 0 to 3
abbrev pub spare_repairs : Repaired → ℕ
spare_repairs r = cond r.tag 1 0 + cond r.path 1 0 + cond r.count 1 0

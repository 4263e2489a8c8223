-- Demand 2 for spares: a protected word reads back from its bytes, a tag is its own nearest, and the codes between them are not looked at.
-- Assumes nothing.
use mathlib.Core.List.{List}
use mathlib.Core.Path.{◌≡◌, refl, ◌∙◌, ap}
use Prim.Native.Nat.{ℕ, ◌<◌, ◌^◌}
use native.Mathlib.Omega.{arith}
use borrow.Author.Tests.{eq-eqb, le-leb, lt-ltb}
use lib.Count.{ones, ones_in}
use lib.ListN.{length}
use Rattle.bits.specs.Bytes.{word, byte_of}
use Rattle.bits.proofs.Bit.{number_lt}
use Rattle.bits.proofs.Words.{word_bytes}
use Rattle.ecc.specs.declared.Code.{Code}
use Rattle.hamming.specs.declared.Repair.TheVariants.{Clean}
use Rattle.hamming.specs.Word.{check_bit, check_bits, encoded, decoded}
use Rattle.hamming.proofs.Protection.{protects}
use Rattle.std.specs.Prelude.{Ok}
use Rattle.spare.specs.Claims.{Writable, spare_fields_of, SpareReadsBack}
use Rattle.spare.specs.Reading.{magic_of, count_of, by_words, spare_answer}
use Rattle.spare.specs.Status.{status_of}
use Rattle.spare.specs.Writing.{magic_and_count, is_writable, spare_with, spare_of, write_answer, spare_after}
use Rattle.spare.proofs.NearestTags.{tag_table}

-- a protected word as it stands in a spare
word_read : (n : ℕ) → n < 2 ^ 26
    → decoded (word (byte_of 3 (encoded n)) (byte_of 2 (encoded n)) (byte_of 1 (encoded n)) (byte_of 0 (encoded n)))
    ≡ record { bits = n; repair = Clean }
word_read n h =
    let fits : encoded n < 2 ^ 32 = unfold encoded check_bits in omega (arith, number_lt 5 (λ j. check_bit j n)) in
    ap decoded (word_bytes (encoded n) fits) ∙ protects.clean n h

module _ {bytes : List ℕ} {tag path count : ℕ} (w : Writable bytes tag path count) where
  -- with any codes
  pub spare_read : (first second : Code) → spare_answer (spare_with first second tag path count) ≡ Ok (spare_fields_of tag path count)
  unfolding spare_answer status_of ones ones_in by_words
  spare_read first second =
      let magic : magic_of (magic_and_count count) ≡ 0x56 = omega arith in
      let low : count_of (magic_and_count count) ≡ count = omega arith in
      rw (tag_table.itself tag w.known, word_read path w.short, word_read (magic_and_count count) (omega arith), magic, low, eq-eqb tag tag refl)

  accepted : (lent : List ℕ) → length lent ≡ 16
      → (write_answer bytes tag path count lent ≡ Ok tt) × (spare_after bytes tag path count lent ≡ spare_of bytes tag path count)
  unfolding write_answer spare_after is_writable
  accepted lent l =
      let whole = eq-eqb (length bytes) 512 w.whole in
      let room = eq-eqb (length lent) 16 l in
      let short = lt-ltb path (2 ^ 26) w.short in
      let few = le-leb count 262142 w.few in
      (rw (whole, room, w.known, short, few) refl, rw (whole, room, w.known, short, few) refl)

  alone : spare_answer (spare_of bytes tag path count) ≡ Ok (spare_fields_of tag path count)
  unfolding spare_of
  alone = spare_read _ _

pub spare_reads_back : (bytes : List ℕ) (tag path count : ℕ) → Writable bytes tag path count → SpareReadsBack bytes tag path count
spare_reads_back bytes tag path count w = record { accepted = accepted w; alone = alone w }

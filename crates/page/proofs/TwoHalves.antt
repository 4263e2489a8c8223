-- A page is made of its two halves, each kept with its code: a flip of the page is a flip of one half, and where the rest of the spare is
-- as written, the reading of the page goes by what the two halves tell.
-- Assumes nothing.
use mathlib.Core.Bool.{Bool, true, false}
use mathlib.Core.List.{List, ◌++◌}
use mathlib.Core.Path.{◌≡◌, refl, ◌∙◌, ap, sym}
use Prim.Native.Nat.{ℕ, ◌^◌}
use native.Mathlib.Nat.{zero-add}
use native.Mathlib.Omega.{arith}
use borrow.Author.Tests.{eq-eqb}
use Rattle.std.specs.Prelude.{Result}
use lib.Bits.{bit_xor}
use lib.Dec.{ltb}
use lib.ListN.{length, get_or, length-append, length-set, length-take, length-drop, take-append-drop}
use lib.Seq.{take_at, drop_at}
use Rattle.bits.proofs.Bytes.{flip_left, flip_right}
use Rattle.chip.specs.declared.Refusal.{Refusal}
use Rattle.chip.specs.declared.Half.{Half}
use Rattle.chip.specs.declared.Half.TheVariants.{First, Second}
use Rattle.ecc.specs.declared.Verdict.{Verdict}
use Rattle.ecc.specs.Claims.{told}
use Rattle.ecc.specs.Flips.{Place, data_at, code_at, Real, flip_code, Kept, flip, written as kept}
use Rattle.spare.specs.Claims.{Writable, spare_fields_of}
use Rattle.spare.specs.Writing.{first_half, second_half, spare_with, spare_of}
use Rattle.spare.proofs.ReadBack.{spare_read}
use Rattle.page.specs.declared.PageFields.{PageFields}
use Rattle.page.specs.Claims.{Page, written, flipped, Flips, none, one, two, RealFlips, with_flips, Reading}
use Rattle.page.specs.Pages.{by_verdicts, page_answer, data_by, data_after}

-- two halves of 256 bytes, with their codes
pub record Halves : Type 0 where
  pub first : Kept
  pub second : Kept
  pub first_whole : length first.half ≡ 256
  pub second_whole : length second.half ≡ 256

-- a half kept with its code, with up to two bits flipped
abbrev pub kept_with : Flips → Kept → Kept
kept_with none k = k
kept_with (one q) k = flip q k
kept_with (two q r) k = flip q (flip r k)

flip_whole : (q : Place) (k : Kept) → length k.half ≡ 256 → length (flip q k).half ≡ 256
flip_whole (data_at a b) k l = length-set k.half a (bit_xor (get_or k.half a 0) (2 ^ b)) ∙ l
flip_whole (code_at j) k l = l

pub half_whole : (f : Flips) (k : Kept) → length k.half ≡ 256 → length (kept_with f k).half ≡ 256
half_whole none k l = l
half_whole (one q) k l = flip_whole q k l
half_whole (two q r) k l = flip_whole q (flip r k) (flip_whole r k l)

-- with these bits of half h flipped
abbrev pub flips_in : Half → Flips → Halves → Halves
flips_in First f ks =
    record {
      first = kept_with f ks.first;
      second = ks.second;
      first_whole = half_whole f ks.first ks.first_whole;
      second_whole = ks.second_whole;
    }
flips_in Second f ks =
    record {
      first = ks.first;
      second = kept_with f ks.second;
      first_whole = ks.first_whole;
      second_whole = half_whole f ks.second ks.second_whole;
    }

module _ {bytes : List ℕ} {tag path count : ℕ} (w : Writable bytes tag path count) where
  -- the page of two halves: the spare as written, but for their codes
  pub page : Halves → Page
  page ks = record { bytes = ks.first.half ++ ks.second.half; spare = spare_with ks.first.code ks.second.code tag path count }

  -- the halves as written
  abbrev pub start : Halves
  start =
      record {
        first = kept (first_half bytes);
        second = kept (second_half bytes);
        first_whole = simp length-take (omega arith);
        second_whole = simp length-drop (omega arith);
      }

  page_written : written bytes tag path count ≡ page start
  unfolding page spare_of
  page_written = ap (λ (l : List ℕ). record { bytes = l; spare = spare_of bytes tag path count }) (sym (take-append-drop 256 bytes))

  -- ---- a flip of a page
  -- of a code bit: one of three stored bytes holds it
  page-code : (h : Half) (j : ℕ) (ks : Halves) (t u : Bool) → ltb j 8 ≡ t → ltb j 16 ≡ u
      → flipped h (code_at j) (page ks) ≡ page (flips_in h (one (code_at j)) ks)
  unfolding page flip_code
  page-code First j ks true u e f = rw e
  page-code First j ks false true e f = rw (e, f)
  page-code First j ks false false e f = rw (e, f)
  page-code Second j ks true u e f = rw e
  page-code Second j ks false true e f = rw (e, f)
  page-code Second j ks false false e f = rw (e, f)

  page_flip : (h : Half) (q : Place) (ks : Halves) → Real q → flipped h q (page ks) ≡ page (flips_in h (one q) ks)
  unfolding page
  page_flip First (data_at a b) ks r = rw (zero-add a, flip_left ks.first.half ks.second.half a b (omega arith))
  page_flip Second (data_at a b) ks r = rw (← ks.first_whole, flip_right ks.first.half ks.second.half a b)
  page_flip h (code_at j) ks r = page-code h j ks (ltb j 8) (ltb j 16) refl refl

  page_flips : (h : Half) (f : Flips) (ks : Halves) → RealFlips f → with_flips h f (page ks) ≡ page (flips_in h f ks)
  unfolding page
  page_flips First none ks s = refl
  page_flips Second none ks s = refl
  page_flips h (one q) ks s = page_flip h q ks s
  page_flips First (two q r) ks s = rw (page_flip First r ks s.1) (page_flip First q (flips_in First (one r) ks) s.0)
  page_flips Second (two q r) ks s = rw (page_flip Second r ks s.1) (page_flip Second q (flips_in Second (one r) ks) s.0)

  -- of the page as written
  pub page_second : (g : Flips) → RealFlips g → with_flips Second g (written bytes tag path count) ≡ page (flips_in Second g start)
  page_second g t = rw page_written (page_flips Second g start t)

  pub page_both : (f g : Flips) → RealFlips f → RealFlips g
      → with_flips First f (with_flips Second g (written bytes tag path count)) ≡ page (flips_in First f (flips_in Second g start))
  page_both f g s t = rw (page_second g t) (page_flips First f (flips_in Second g start) s)

  -- ---- the reading of a page
  pub page_length : (ks : Halves) → length (page ks).bytes ≡ 512
  unfolding page
  page_length ks = simp length-append (omega arith)

  page-told : (ks : Halves) → page_answer (page ks).bytes (page ks).spare ≡ by_verdicts (spare_fields_of tag path count) (told ks.first) (told ks.second)
  unfolding page page_answer
  page-told ks =
      let x = ks.first.half in
      let y = ks.second.half in
      rw (eq-eqb (length (x ++ y)) 512 (page_length ks), spare_read w ks.first.code ks.second.code, take_at x y 256 ks.first_whole, drop_at x y 256 ks.first_whole)

  -- from what the halves tell, what that answers, and the data that the answer leaves
  pub page_read : {p : Page} {v u : Verdict} {a : Result PageFields Refusal} {after : List ℕ} (ks : Halves)
      → p ≡ page ks → told ks.first ≡ v → told ks.second ≡ u → by_verdicts (spare_fields_of tag path count) v u ≡ a → data_by a p.bytes ≡ after → Reading p a after
  unfolding data_after
  page_read {p} {a = a} ks e f s b d = record { answered = answer; left = ap (λ (a : Result PageFields Refusal). data_by a p.bytes) answer ∙ d }
    where
      answer : page_answer p.bytes p.spare ≡ a
      answer = rw e (page-told ks ∙ rw (f, s) b)

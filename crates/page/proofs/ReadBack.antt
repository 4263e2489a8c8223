-- Demand 2 for pages: each half tells what the half-page code claims of it, and a flipped data bit is put right by one flip more.
-- Assumes nothing.
use mathlib.Core.Bool.{true, cond, false≢true}
use mathlib.Core.List.{List}
use mathlib.Core.Path.{◌≡◌, refl, ◌∙◌, ap}
use Prim.Native.Nat.{ℕ, ◌+◌, ◌≤◌}
use native.Mathlib.Omega.{arith}
use borrow.Author.Tests.{lt-ltb}
use Rattle.std.specs.Prelude.{Result, Err}
use lib.ListN.{length}
use Rattle.bits.proofs.Bytes.{flip_twice}
use Rattle.chip.specs.declared.Half.{Half}
use Rattle.chip.specs.declared.Half.TheVariants.{First, Second}
use Rattle.chip.specs.declared.Refusal.{Refusal}
use Rattle.chip.specs.declared.Refusal.TheVariants.{Unrepairable}
use Rattle.ecc.specs.Claims.{Protects, told}
use Rattle.ecc.specs.Flips.{Place, data_at, code_at, Real, named, written as kept}
use Rattle.ecc.specs.Places.{places}
use Rattle.ecc.specs.Verdicts.{half_start, mended, repairs}
use Rattle.ecc.proofs.Protection.{protects}
use Rattle.spare.specs.Claims.{Writable, spare_fields_of}
use Rattle.spare.specs.Writing.{first_half, second_half}
use Rattle.spare.proofs.ReadBack.{spare_reads_back}
use Rattle.ecc.proofs.Places.{named_places}
use Rattle.page.specs.declared.PageFields.{PageFields}
use Rattle.page.specs.Claims.{Page, written, flipped, Flips, none, one, two, RealFlips, with_flips, flip_verdict, flip_places, flip_repairs, unless_two, flip_answer, flip_data, Reading, ReadsBack}
use Rattle.page.specs.Pages.{is_repairable, by_verdicts, data_by}
use Rattle.page.proofs.TwoHalves.{kept_with, flips_in, start, page_second, page_both, page_length, page_read}

-- ---- the verdict that names a place
named_repairable : (q : Place) → is_repairable (named q) ≡ true
named_repairable (data_at a b) = refl
named_repairable (code_at j) = refl

named_repairs : (q : Place) → repairs (named q) ≡ 1
named_repairs (data_at a b) = refl
named_repairs (code_at j) = refl

start_le : (h : Half) → half_start h ≤ 256
start_le First = omega arith
start_le Second = omega arith

-- a flipped bit is put right, in whichever half
named_mends : (h : Half) (q : Place) (p : Page) → Real q → length p.bytes ≡ 512 → mended h (named q) (flipped h q p).bytes ≡ p.bytes
named_mends h (data_at a b) p r l = rw (lt-ltb b 8 r.1) (flip_twice p.bytes (half_start h + a) b (omega (arith, start_le h)))
named_mends h (code_at j) p r l = refl

-- ---- the verdict of up to two flips
-- what the half-page code claims of a half
flips_told : (half : List ℕ) → Protects half → (f : Flips) → RealFlips f → told (kept_with f (kept half)) ≡ flip_verdict f
flips_told half p none s = p.clean
flips_told half p (one q) s = p.one q s
flips_told half p (two q r) s = p.two q r s.0 s.1 s.2

flips_located : (f : Flips) → places (flip_verdict f) ≡ flip_places f
flips_located none = refl
flips_located (one q) = named_places q
flips_located (two q r) = refl

flips_repairs : (f : Flips) → repairs (flip_verdict f) ≡ flip_repairs f
flips_repairs none = refl
flips_repairs (one q) = named_repairs q
flips_repairs (two q r) = refl

-- two are refused, fewer are put right
flips_answer : (h : Half) (f : Flips) (a : Result PageFields Refusal) → cond (is_repairable (flip_verdict f)) a (Err (Unrepairable h)) ≡ unless_two h f a
flips_answer h none a = refl
flips_answer h (one q) a = rw (named_repairable q)
flips_answer h (two q r) a = refl

flips_leave : (h : Half) (f : Flips) (a : Result PageFields Refusal) (asWritten lent : List ℕ)
    → (is_repairable (flip_verdict f) ≡ true → data_by a lent ≡ flip_data a asWritten lent)
    → data_by (unless_two h f a) lent ≡ flip_data (unless_two h f a) asWritten lent
flips_leave h none a asWritten lent k = k refl
flips_leave h (one q) a asWritten lent k = k (named_repairable q)
flips_leave h (two q r) a asWritten lent k = refl

flips_mend : (h : Half) (f : Flips) (p : Page) → RealFlips f → length p.bytes ≡ 512 → is_repairable (flip_verdict f) ≡ true
    → mended h (flip_verdict f) (with_flips h f p).bytes ≡ p.bytes
flips_mend h none p s l e = refl
flips_mend h (one q) p s l e = named_mends h q p s l
flips_mend h (two q r) p s l e = absurd (false≢true e)

-- ---- the claim
module _ {bytes : List ℕ} {tag path count : ℕ} (w : Writable bytes tag path count) where
  -- the page with f and g flipped in its halves
  abbrev with_both : Flips → Flips → Page
  with_both f g = with_flips First f (with_flips Second g (written bytes tag path count))

  answers : (f g : Flips) → by_verdicts (spare_fields_of tag path count) (flip_verdict f) (flip_verdict g) ≡ flip_answer tag path count f g
  unfolding by_verdicts
  answers f g = rw (flips_answer Second g) (flips_answer First f _)

  leaves : (f g : Flips) → RealFlips f → RealFlips g
      → data_by (flip_answer tag path count f g) (with_both f g).bytes ≡ flip_data (flip_answer tag path count f g) bytes (with_both f g).bytes
  leaves f g s t =
      flips_leave First f _ bytes (with_both f g).bytes
      (λ e. flips_leave Second g _ bytes (with_both f g).bytes
      (λ d. ap (mended Second (flip_verdict g)) (flips_mend First f second s whole e) ∙ flips_mend Second g (written bytes tag path count) t w.whole d))
    where
      second : Page
      second = with_flips Second g (written bytes tag path count)

      whole : length second.bytes ≡ 512
      whole = rw (page_second w g t) (page_length w (flips_in Second g (start w)))

  reads : (f g : Flips) → RealFlips f → RealFlips g
      → Reading (with_both f g) (flip_answer tag path count f g) (flip_data (flip_answer tag path count f g) bytes (with_both f g).bytes)
  reads f g s t =
      page_read w (flips_in First f (flips_in Second g (start w))) (page_both w f g s t)
      (flips_told (first_half bytes) (protects (first_half bytes) (start w).first_whole) f s)
      (flips_told (second_half bytes) (protects (second_half bytes) (start w).second_whole) g t)
      (answers f g) (leaves f g s t)

pub reads_back : (bytes : List ℕ) (tag path count : ℕ) → Writable bytes tag path count → ReadsBack bytes tag path count
reads_back bytes tag path count w =
    record {
      spare = spare_reads_back bytes tag path count w;
      reads = reads w;
      located = λ f g. (flips_located f, flips_located g);
      counted = λ f g. omega (arith, flips_repairs f, flips_repairs g);
    }

-- Refusal 5 in three: where the magic is wrong the answer is `not_ours`, whose two tests decide between the reasons; all FF is a wrong magic in a
-- clean word.
-- Assumes nothing.
use mathlib.Core.Bool.{Bool, true, false, true≢false}
use mathlib.Core.List.{List, [], ◌∷◌}
use mathlib.Core.Path.{◌≡◌, refl, sym, ◌∙◌, ap, ap₂}
use Prim.Native.Nat.{ℕ, ◌<◌}
use native.Mathlib.Omega.{arith}
use borrow.Author.Tests.{eq-eqb, ne_eqb, eqb-true, eqb-false}
use lib.Count.{ones, ones_in}
use lib.Dec.{eqb}
use lib.ListN.{length, get_or, replicate}
use Rattle.bits.proofs.Both.{both_left, both_right}
use Rattle.bits.specs.Bits.{bit, number, parity_of}
use Rattle.chip.specs.Refusals.{refusal_number}
use Rattle.chip.specs.declared.BadKind.{BadKind}
use Rattle.chip.specs.declared.Refusal.{Refusal}
use Rattle.chip.specs.declared.Refusal.TheVariants.{Length, BadBlock, Tag}
use Rattle.hamming.specs.Word.{not_powers, house_numbers, check_bit, check_bits, named, decoded_by, decoded}
use Rattle.std.specs.Prelude.{⊤, Option, Some, None, Result, Ok, Err}
use Rattle.spare.specs.Reading.{count_word, magic_of, is_erased, not_ours, by_words, spare_answer}
use Rattle.spare.specs.Status.{status_of}
use Rattle.spare.specs.Tags.{tags, nearest}
use Rattle.spare.specs.WhyNotOurs.{WrongMagic, AllFF, was_repaired, Why, erased, not_repaired, repaired, SplitsFive}

-- ---- all FF
ff_wrong : WrongMagic (replicate 16 0xFF)
unfolding status_of ones ones_in nearest decoded decoded_by named check_bits check_bit house_numbers not_powers parity_of bit number
ff_wrong = record { sixteen = refl; good = refl; tag = 0xFF; tagged = refl; wrong = λ e. omega arith }

ff_clean : was_repaired (replicate 16 0xFF) ≡ false
unfolding decoded decoded_by named check_bits check_bit house_numbers not_powers parity_of bit number ones ones_in
ff_clean = refl

all_ff : (s : List ℕ) → is_erased s ≡ true → s ≡ replicate (length s) 0xFF
unfolding is_erased
all_ff [] e = refl
all_ff (b ∷ bs) e = ap₂ ◌∷◌ (eqb-true b 0xFF (both_left (eqb b 0xFF) (is_erased bs) e)) (all_ff bs (both_right (eqb b 0xFF) (is_erased bs) e))

ff_erased : is_erased (replicate 16 0xFF) ≡ true
unfolding is_erased
ff_erased = refl

-- ---- any spare
module _ (s : List ℕ) where
  -- the refusal of a wrong magic
  why_not : Refusal
  why_not = not_ours s (decoded (count_word s)).repair

  answer : WrongMagic s → spare_answer s ≡ Err why_not
  unfolding spare_answer by_words why_not
  answer w = simp (eq-eqb (length s) 16 w.sixteen, w.good, w.tagged, ne_eqb (magic_of (decoded (count_word s)).bits) 0x56 w.wrong)

  reason : WrongMagic s → Why s why_not
  unfolding not_ours why_not
  reason w = go (is_erased s) refl (was_repaired s) refl
    where
      go : (e : Bool) → is_erased s ≡ e → (r : Bool) → was_repaired s ≡ r → Why s why_not
      go true e r f = rw e (erased (all_ff s e ∙ ap (λ (n : ℕ). replicate n 0xFF) w.sixteen))
      go false e true f = rw (e, f) (repaired w f)
      go false e false f = rw (e, f) (not_repaired w (λ a. true≢false (sym ff_erased ∙ ap is_erased (sym a) ∙ e)) f)

  nothing_more : (r : Refusal) → Why s r → WrongMagic s
  nothing_more r (erased a) = rw a ff_wrong
  nothing_more r (not_repaired w a f) = w
  nothing_more r (repaired w f) = w

  -- all FF is no repaired word
  apart : AllFF s → was_repaired s ≡ true → ⊥
  apart a f = true≢false (sym f ∙ ap was_repaired a ∙ ff_clean)

  exclusive : (r q : Refusal) → Why s r → Why s q → r ≡ q
  exclusive r q (erased a) (erased b) = refl
  exclusive r q (erased a) (not_repaired w b f) = absurd (b a)
  exclusive r q (erased a) (repaired w f) = absurd (apart a f)
  exclusive r q (not_repaired w a f) (erased b) = absurd (a b)
  exclusive r q (not_repaired w a f) (not_repaired v b g) = refl
  exclusive r q (not_repaired w a f) (repaired v g) = absurd (true≢false (sym g ∙ f))
  exclusive r q (repaired w f) (erased a) = absurd (apart a f)
  exclusive r q (repaired w f) (not_repaired v b g) = absurd (true≢false (sym f ∙ g))
  exclusive r q (repaired w f) (repaired v g) = refl

  told : (r : Refusal) → Why s r → spare_answer s ≡ Err r
  told r y = let w = nothing_more r y in answer w ∙ ap Err (exclusive why_not r (reason w) y)

  -- a refusal with a number above 50 is not 1, 3 or 4
  wrong_magic : (r : Refusal) → 50 < refusal_number r → spare_answer s ≡ Err r → WrongMagic s
  unfolding spare_answer by_words
  wrong_magic r h e = go (eqb (length s) 16) refl (status_of (get_or s 5 0)) refl (nearest tags (get_or s 4 0)) refl (eqb (magic_of (decoded (count_word s)).bits) 0x56) refl
    where
      number : (q : Refusal) → spare_answer s ≡ Err q → refusal_number q ≡ refusal_number r
      number q f = let same : q ≡ r = cc in ap refusal_number same

      go : (l : Bool) → eqb (length s) 16 ≡ l → (t : Result ⊤ BadKind) → status_of (get_or s 5 0) ≡ t → (n : Option ℕ) → nearest tags (get_or s 4 0) ≡ n
          → (m : Bool) → eqb (magic_of (decoded (count_word s)).bits) 0x56 ≡ m → WrongMagic s
      go false el t et n en m em = absurd (omega (arith, number Length (rw el)))
      go true el (Err k) et n en m em = absurd (omega (arith, number (BadBlock k) (rw (el, et))))
      go true el (Ok tt) et None en m em = absurd (omega (arith, number Tag (rw (el, et, en))))
      go true el (Ok tt) et (Some t) en true em = let read = rw (el, et, en, em) at e in absurd (let z : ◌≡◌ {A = ℕ} 0 1 = cc in omega arith)
      go true el (Ok tt) et (Some t) en false em =
          record { sixteen = eqb-true (length s) 16 el; good = et; tag = t; tagged = en; wrong = eqb-false (magic_of (decoded (count_word s)).bits) 0x56 em }

  only : (r : Refusal) → 50 < refusal_number r → spare_answer s ≡ Err r → Why s r
  only r h e =
      let w = wrong_magic r h e in
      let same : why_not ≡ r = cc (answer w) in
      rw same at (reason w)

pub splits_five : (s : List ℕ) → SplitsFive s
splits_five s = record {
  one_of_three = λ w. (why_not s, reason s w);
  nothing_more = nothing_more s;
  exclusive = exclusive s;
  told = told s;
  only = only s;
}

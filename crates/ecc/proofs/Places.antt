-- A place that a half tells is the one place whose flip makes it clean: what the verdict names, the 22 bits of the difference spell, and they are
-- the pattern of that place, which its flip takes away.
-- Assumes nothing.
use mathlib.Core.Path.{◌≡◌, refl, ◌∙◌, ap, sym, subst}
use mathlib.Core.Bool.{Bool, true, false, not, cond, ◌&&◌, false≢true}
use mathlib.Core.List.{[], ◌∷◌}
use mathlib.Core.Logic.{⊎_elim}
use Prim.Native.Nat.{ℕ, zero, suc, ◌+◌, ◌-◌, ◌*◌, ◌/◌, ◌%◌, ◌<◌}
use native.Mathlib.Nat.{eq-or-lt_of_le, le_of_suc-le-suc}
use native.Mathlib.Omega.{arith}
use borrow.Author.Tests.{eq-eqb, ne_eqb, eqb-true, eqb-false, ltb-true, ltb-false}
use lib.Dec.{eqb, ltb}
use lib.ListN.{length}
use Rattle.bits.specs.Bits.{◌⊕◌, bit, number}
use Rattle.bits.proofs.Bit.{bit_number, number_lt}
use Rattle.bits.proofs.Sums.{⊕_self}
use Rattle.ecc.specs.declared.Verdict.{Verdict}
use Rattle.ecc.specs.declared.Verdict.TheVariants.{Clean, CodeBit, DataBit, NotRepairable}
use Rattle.ecc.specs.Half.{place_bit, counts}
use Rattle.ecc.specs.Verdicts.{count_set, last_set, one_in_each, verdict}
use Rattle.ecc.specs.Flips.{Place, data_at, code_at, Real, named, Kept, flip}
use Rattle.ecc.specs.Claims.{told}
use Rattle.ecc.specs.Places.{places, Locates}
use Rattle.ecc.proofs.Counts.{count_none}
use Rattle.ecc.proofs.Verdicts.{verdict_ext}
use Rattle.ecc.proofs.Protection.{pattern, differs, differs_flip, same_bits, pair_member, pattern_named}

-- what the 22 bits of a difference are where the verdict names place q
record Spells (d : ℕ → Bool) (q : Place) : Type 0 where
  exists : Real q
  bits : (j : ℕ) → j < 22 → d j ≡ pattern q j

-- ---- one bit set is the last
-- of n bits, bit i alone is set
abbrev OnlySet : (ℕ → Bool) → ℕ → ℕ → Type 0
OnlySet d n i = (i < n) × ((j : ℕ) → j < n → d j ≡ eqb i j)

one_set : (n : ℕ) (d : ℕ → Bool) → count_set n d ≡ 1 → OnlySet d n (last_set n d)
unfolding count_set last_set
one_set zero d e = absurd (omega arith)
one_set (suc n) d e = go (d n) refl e (one_set n d)
  where
    go : (t : Bool) → d n ≡ t → count_set n d + cond t 1 0 ≡ 1 → (count_set n d ≡ 1 → OnlySet d n (last_set n d)) → OnlySet d (suc n) (cond t n (last_set n d))
    go true top c below = (
      omega arith,
      λ j h.
          ⊎_elim (λ same. ap d same ∙ top ∙ sym (eq-eqb n j (sym same)))
          (λ l. count_none n d (omega arith) j l ∙ sym (ne_eqb n j (λ same. omega arith)))
          (eq-or-lt_of_le (le_of_suc-le-suc h)),
    )
    go false top c below =
        let last = below (omega arith) in (
          omega (arith, last.0),
          λ j h.
              ⊎_elim (λ same. ap d same ∙ top ∙ sym (ne_eqb (last_set n d) j (λ other. omega (arith, last.0))))
              (λ l. last.1 j l)
              (eq-or-lt_of_le (le_of_suc-le-suc h)),
        )

-- ---- one bit set in each pair is spelled by the odd members
each_pair : (n : ℕ) (d : ℕ → Bool) → one_in_each n d ≡ true → (k : ℕ) → k < n → d (2 * k) ≡ not (d (2 * k + 1))
unfolding one_in_each
each_pair zero d e k h = absurd (omega arith)
each_pair (suc n) d e k h =
    ⊎_elim (λ same. rw same (top (d (2 * n)) (d (2 * n + 1)) (one_in_each n d) e).0) (λ l. each_pair n d (top (d (2 * n)) (d (2 * n + 1)) (one_in_each n d) e).1 k l)
    (eq-or-lt_of_le (le_of_suc-le-suc h))
  where
    top : (s t p : Bool) → ((s ⊕ t) && p) ≡ true → (s ≡ not t) × (p ≡ true)
    top true true p e = absurd (false≢true e)
    top true false p e = (refl, e)
    top false true p e = (refl, e)
    top false false p e = absurd (false≢true e)

module _ (d : ℕ → Bool) (each : one_in_each 11 d ≡ true) where
  -- the address and the bit number
  abbrev spelled_byte : ℕ
  spelled_byte = number 8 (λ k. d (2 * k + 1))

  abbrev spelled_bit : ℕ
  spelled_bit = number 3 (λ k. d (2 * k + 17))

  odd_member : (k : ℕ) → k < 11 → place_bit k spelled_byte spelled_bit ≡ d (2 * k + 1)
  unfolding place_bit
  odd_member k h = go (ltb k 8) refl
    where
      go : (t : Bool) → ltb k 8 ≡ t → cond t (bit k spelled_byte) (bit (k - 8) spelled_bit) ≡ d (2 * k + 1)
      go true e = bit_number 8 k (λ k. d (2 * k + 1)) (ltb-true k 8 e)
      go false e =
          let same : 2 * (k - 8) + 17 ≡ 2 * k + 1 = omega (arith, ltb-false k 8 e) in
          bit_number 3 (k - 8) (λ k. d (2 * k + 17)) (omega (arith, ltb-false k 8 e)) ∙ ap d same

  spelled : (j : ℕ) → j < 22 → d j ≡ counts j spelled_byte spelled_bit
  spelled j h = go (eqb (j % 2) 1) refl
    where
      go : (t : Bool) → eqb (j % 2) 1 ≡ t → d j ≡ counts j spelled_byte spelled_bit
      go true e =
          let same : j ≡ 2 * (j / 2) + 1 = omega (arith, eqb-true (j % 2) 1 e) in
          ap d same ∙ sym (odd_member (j / 2) (omega arith)) ∙ sym (pair_member (j / 2) 1 j spelled_byte spelled_bit same (omega arith))
      go false e =
          let other : j % 2 ≡ 1 → ⊥ = eqb-false (j % 2) 1 e in
          let same : j ≡ 2 * (j / 2) = omega arith in
          ap d same ∙ each_pair 11 d each (j / 2) (omega arith) ∙ ap not (sym (odd_member (j / 2) (omega arith)))
          ∙ sym (pair_member (j / 2) 0 j spelled_byte spelled_bit (omega arith) (omega arith))

-- ---- the verdict's place
-- the verdict by its three tests: no bit is set, one is, one is in each pair
abbrev by_tests : (ℕ → Bool) → Bool → Bool → Bool → Verdict
by_tests d none one each =
    cond none Clean
    (cond one (CodeBit (last_set 22 d)) (cond each (DataBit (number 8 (λ k. d (2 * k + 1))) (number 3 (λ k. d (2 * k + 17)))) NotRepairable))

spells : (d : ℕ → Bool) (q : Place) → places (verdict d) ≡ q ∷ [] → Spells d q
unfolding verdict pattern
spells d q e = go (eqb (count_set 22 d) 0) (eqb (count_set 22 d) 1) (one_in_each 11 d) refl refl e
  where
    go : (x y z : Bool) → eqb (count_set 22 d) 1 ≡ y → one_in_each 11 d ≡ z → places (by_tests d x y z) ≡ q ∷ [] → Spells d q
    go true y z one each e = let none : ◌≡◌ {A = ℕ} 0 1 = cc in absurd (omega arith)
    go false true z one each e =
        let last = one_set 22 d (eqb-true _ _ one) in
        let same : code_at (last_set 22 d) ≡ q = cc in
        subst (Spells d) same (record { exists = last.0; bits = last.1 })
    go false false true one each e =
        let same : data_at (spelled_byte d each) (spelled_bit d each) ≡ q = cc in
        subst (Spells d) same (record { exists = (number_lt 8 _, number_lt 3 _); bits = spelled d each })
    go false false false one each e = let none : ◌≡◌ {A = ℕ} 0 1 = cc in absurd (omega arith)

-- ---- a half is clean where no bit differs, and only there
clean_none : (d : ℕ → Bool) → ((j : ℕ) → j < 22 → d j ≡ false) → verdict d ≡ Clean
unfolding verdict count_set
clean_none d h = verdict_ext d (λ j. false) h

none_clean : (d : ℕ → Bool) → verdict d ≡ Clean → (j : ℕ) → j < 22 → d j ≡ false
unfolding verdict
none_clean d e = count_none 22 d (go (eqb (count_set 22 d) 0) refl (eqb (count_set 22 d) 1) (one_in_each 11 d) e)
  where
    go : (x : Bool) → eqb (count_set 22 d) 0 ≡ x → (y z : Bool) → by_tests d x y z ≡ Clean → count_set 22 d ≡ 0
    go true h y z e = eqb-true _ _ h
    go false h true z e = let none : ◌≡◌ {A = ℕ} 0 1 = cc in absurd (omega arith)
    go false h false true e = let none : ◌≡◌ {A = ℕ} 0 1 = cc in absurd (omega arith)
    go false h false false e = let none : ◌≡◌ {A = ℕ} 0 1 = cc in absurd (omega arith)

-- ---- a verdict and its places
pub named_places : (q : Place) → places (named q) ≡ q ∷ []
named_places (data_at a b) = refl
named_places (code_at j) = refl

places_none : (v : Verdict) → (v ≡ NotRepairable → ⊥) → places v ≡ [] → v ≡ Clean
places_none Clean r e = refl
places_none (CodeBit j) r e = let none : ◌≡◌ {A = ℕ} 0 1 = cc in absurd (omega arith)
places_none (DataBit a b) r e = let none : ◌≡◌ {A = ℕ} 0 1 = cc in absurd (omega arith)
places_none NotRepairable r e = absurd (r refl)

-- ---- the claim: a flip adds the place's pattern to the difference
module _ (k : Kept) (l : length k.half ≡ 256) (q : Place) where
  told_right : places (told k) ≡ q ∷ [] → Real q × (told (flip q k) ≡ Clean)
  unfolding differs
  told_right e =
      let s = spells (differs k) q e in (
        s.exists,
        clean_none (differs (flip q k)) (λ j u.
            differs_flip k q j l s.exists u ∙ ap (λ (t : Bool). t ⊕ pattern q j) (s.bits j u) ∙ ⊕_self (pattern q j)),
      )

  told_only : Real q × (told (flip q k) ≡ Clean) → places (told k) ≡ q ∷ []
  unfolding differs
  told_only x =
      ap places
      (verdict_ext (differs k) (pattern q) (λ j u.
      same_bits (differs k j) (pattern q j) (sym (differs_flip k q j l x.0 u) ∙ none_clean (differs (flip q k)) x.1 j u))
      ∙ pattern_named q x.0)
      ∙ named_places q

pub locates : Locates
locates k l r = record { nothing = (places_none (told k) r, ap places); place = λ q. (told_right k l q, told_only k l q) }

-- A half is protected: each place has a pattern of code bits, a flip adds its pattern to the difference, a pattern names its place, and
-- every pattern has an odd number of bits, so two different ones add up to an even number, but not to none.
-- Assumes nothing.
use mathlib.Core.Path.{◌≡◌, refl, ◌∙◌, ap, ap₂, sym}
use mathlib.Core.Bool.{Bool, true, false, not, cond}
use mathlib.Core.List.{List}
use Prim.Native.Nat.{ℕ, ◌+◌, ◌-◌, ◌*◌, ◌/◌, ◌%◌, ◌^◌, ◌<◌}
use native.Mathlib.Nat.{zero-add, mod-eq_of_lt}
use native.Mathlib.Omega.{arith}
use borrow.Author.Tests.{lt-ltb, le-ltb}
use lib.Bits.{bit_xor, xor_zero_r}
use lib.Dec.{eqb, ltb, eqb→eq}
use lib.ListN.{length, get_or, length-set}
use Rattle.bits.specs.Bits.{◌⊕◌, bit, number}
use Rattle.bits.specs.Bytes.{flip_at}
use Rattle.bits.proofs.Bit.{bit_zero, number_ext, number_bits}
use Rattle.bits.proofs.Bytes.{flip_twice}
use Rattle.bits.proofs.Computed.{all, below, same, same→eq}
use Rattle.bits.proofs.Parity.{parity_one}
use Rattle.bits.proofs.Sums.{⊕_assoc, ⊕_last, ⊕_self, not_⊕}
use Rattle.chip.specs.declared.Half.TheVariants.{First}
use Rattle.ecc.specs.declared.Code.{Code}
use Rattle.ecc.specs.declared.Verdict.TheVariants.{Clean, NotRepairable}
use Rattle.ecc.specs.Half.{place_bit, counts, code_bit, code_of, stored_bit, difference}
use Rattle.ecc.specs.Verdicts.{count_set, last_set, one_in_each, verdict, mended}
use Rattle.ecc.specs.Flips.{Place, data_at, code_at, Real, named, flip_code, Kept, written, flip}
use Rattle.ecc.specs.Claims.{told, Protects}
use Rattle.ecc.proofs.Runs.{run_set}
use Rattle.ecc.proofs.Stored.{xor_code, stored_xor, stored-code}
use Rattle.ecc.proofs.Counts.{count_sum, count_none, count_pairs}
use Rattle.ecc.proofs.Verdicts.{verdict_ext, verdict_even, pairs_each}

-- the code bits that change where the bit at a place flips
unfoldable pub pattern : Place → ℕ → Bool
pattern (data_at a b) j = counts j a b
pattern (code_at i) j = eqb i j

-- ---- a flip adds its pattern
stored_flip : (half : List ℕ) (a b j : ℕ) → a < length half → b < 8 → j < 22
    → stored_bit (code_of (flip_at half a b)) j ≡ (stored_bit (code_of half) j ⊕ counts j a b)
unfolding code_bit
stored_flip half a b j ha hb hj =
    stored-code 0 (flip_at half a b) j hj
    ∙ ap not (rw (zero-add a, parity_one (counts j a) b hb) at (run_set (counts j) 0 half a (2 ^ b) ha))
    ∙ not_⊕ (code_bit 0 half j) (counts j a b)
    ∙ ap (λ (t : Bool). t ⊕ counts j a b) (sym (stored-code 0 half j hj))

-- the three bytes with the bit that holds code bit i alone
mask : ℕ → Code
mask i = flip_code i (record { one = 0; two = 0; three = 0 })

flip_mask : (i : ℕ) (c : Code) → flip_code i c ≡ xor_code c (mask i)
unfolding flip_code mask
flip_mask i c = go (ltb i 8) (ltb i 16)
  where
    at : Bool → Bool → Code → Code
    at t u c =
        cond t (record { one = bit_xor c.one (2 ^ i); two = c.two; three = c.three })
        (cond u (record { one = c.one; two = bit_xor c.two (2 ^ (i - 8)); three = c.three })
        (record { one = c.one; two = c.two; three = bit_xor c.three (2 ^ (i - 14)) }))

    go : (t u : Bool) → at t u c ≡ xor_code c (at t u (record { one = 0; two = 0; three = 0 }))
    go true u = simp xor_zero_r
    go false true = simp xor_zero_r
    go false false = simp xor_zero_r

mask_bit : (i j : ℕ) → i < 22 → j < 22 → stored_bit (mask i) j ≡ eqb i j
unfolding stored_bit mask flip_code bit
mask_bit i j hi hj =
    same→eq _ _ (below (λ j. same (stored_bit (mask i) j) (eqb i j)) 22
    (below (λ i. all (λ j. same (stored_bit (mask i) j) (eqb i j)) 0 22) 22 tt i hi) j hj)

unfoldable pub differs : Kept → ℕ → Bool
differs k j = difference k.code (code_of k.half) j

pub differs_flip : (k : Kept) (p : Place) (j : ℕ) → length k.half ≡ 256 → Real p → j < 22 → differs (flip p k) j ≡ (differs k j ⊕ pattern p j)
unfolding differs difference pattern
differs_flip k (data_at a b) j l r h =
    ap (λ (t : Bool). stored_bit k.code j ⊕ t) (stored_flip k.half a b j (omega arith) r.1 h)
    ∙ sym (⊕_assoc (stored_bit k.code j) (stored_bit (code_of k.half) j) (counts j a b))
differs_flip k (code_at i) j l r h =
    ap (λ (t : Bool). t ⊕ stored_bit (code_of k.half) j)
    (ap (λ (c : Code). stored_bit c j) (flip_mask i k.code) ∙ stored_xor k.code (mask i) j ∙ ap (λ (t : Bool). stored_bit k.code j ⊕ t) (mask_bit i j r h))
    ∙ ⊕_last (stored_bit k.code j) (eqb i j) (stored_bit (code_of k.half) j)

length_flip : (k : Kept) (p : Place) → length k.half ≡ 256 → length (flip p k).half ≡ 256
length_flip k (data_at a b) l = length-set k.half a (bit_xor (get_or k.half a 0) (2 ^ b)) ∙ l
length_flip k (code_at j) l = l

-- two bits whose sum is 0 are the same
pub same_bits : (a b : Bool) → (a ⊕ b) ≡ false → a ≡ b
same_bits true true e = refl
same_bits true false e = e
same_bits false b e = sym e

-- ---- the verdict names a pattern's place
-- member i of pair k: the place's bit k, inverted in the even member
pub pair_member : (k i j a b : ℕ) → j ≡ 2 * k + i → i < 2 → counts j a b ≡ cond (eqb i 1) (place_bit k a b) (not (place_bit k a b))
unfolding counts
pair_member k i j a b e h =
    let z : j % 2 ≡ i = omega arith in
    let q : j / 2 ≡ k = omega arith in
    rw (bit_zero j, z, q)

module _ (a b : ℕ) (ha : a < 256) (hb : b < 8) where
  one_each : one_in_each 11 (pattern (data_at a b)) ≡ true
  unfolding pattern
  one_each = pairs_each 11 (λ j. counts j a b) (λ k u.
      ap₂ ◌⊕◌ (pair_member k 0 (2 * k) a b (omega arith) (omega arith)) (pair_member k 1 (2 * k + 1) a b refl (omega arith)) ∙ other (place_bit k a b))
    where
      other : (t : Bool) → (not t ⊕ t) ≡ true
      other true = refl
      other false = refl

  eleven : count_set 22 (pattern (data_at a b)) ≡ 11
  eleven = count_pairs 11 (pattern (data_at a b)) one_each

  spells_byte : number 8 (λ k. pattern (data_at a b) (2 * k + 1)) ≡ a
  unfolding pattern place_bit
  spells_byte =
      number_ext 8 _ (λ k. bit k a) (λ k u. pair_member k 1 (2 * k + 1) a b refl (omega arith) ∙ rw (lt-ltb k 8 u)) ∙ number_bits 8 a ∙ mod-eq_of_lt ha

  spells_bit : number 3 (λ k. pattern (data_at a b) (2 * k + 17)) ≡ b
  unfolding pattern place_bit
  spells_bit =
      number_ext 3 _ (λ k. bit k b) (λ k u.
      let e : k + 8 - 8 ≡ k = omega arith in
      pair_member (k + 8) 1 (2 * k + 17) a b (omega arith) (omega arith) ∙ rw (le-ltb (k + 8) 8 (omega arith), e))
      ∙ number_bits 3 b ∙ mod-eq_of_lt hb

code_pattern : (i : ℕ) → i < 22 → (count_set 22 (eqb i) ≡ 1) × (last_set 22 (eqb i) ≡ i)
unfolding count_set last_set
code_pattern i h =
    (eqb→eq _ _ (below (λ i. eqb (count_set 22 (eqb i)) 1) 22 tt i h), eqb→eq _ _ (below (λ i. eqb (last_set 22 (eqb i)) i) 22 tt i h))

pub pattern_named : (p : Place) → Real p → verdict (pattern p) ≡ named p
unfolding verdict pattern
pattern_named (data_at a b) r = rw (eleven a b r.0 r.1, one_each a b r.0 r.1, spells_byte a b r.0 r.1, spells_bit a b r.0 r.1)
pattern_named (code_at j) r = rw ((code_pattern j r).0, (code_pattern j r).1)

-- the number of a pattern's bits is odd
pattern_odd : (p : Place) → Real p → count_set 22 (pattern p) % 2 ≡ 1
unfolding pattern
pattern_odd (data_at a b) r = ap (λ (n : ℕ). n % 2) (eleven a b r.0 r.1)
pattern_odd (code_at i) r = ap (λ (n : ℕ). n % 2) (code_pattern i r).0

named_inj : (p q : Place) → named p ≡ named q → p ≡ q
named_inj (data_at a b) (data_at c d) e = cc
named_inj (data_at a b) (code_at j) e = let z : ◌≡◌ {A = ℕ} 0 1 = cc in absurd (omega arith)
named_inj (code_at i) (data_at c d) e = let z : ◌≡◌ {A = ℕ} 0 1 = cc in absurd (omega arith)
named_inj (code_at i) (code_at j) e = cc

-- two places of one pattern are one place: the verdict names both
pattern_inj : (p q : Place) → Real p → Real q → ((j : ℕ) → j < 22 → pattern p j ≡ pattern q j) → p ≡ q
pattern_inj p q r s h = named_inj p q (sym (pattern_named p r) ∙ verdict_ext (pattern p) (pattern q) h ∙ pattern_named q s)

-- ---- the claim
module _ (half : List ℕ) (l : length half ≡ 256) where
  none : (j : ℕ) → differs (written half) j ≡ false
  unfolding differs difference
  none j = ⊕_self (stored_bit (code_of half) j)

  one : (p : Place) (j : ℕ) → Real p → j < 22 → differs (flip p (written half)) j ≡ pattern p j
  one p j r u = differs_flip (written half) p j l r u ∙ ap (λ (t : Bool). t ⊕ pattern p j) (none j)

  no_flip : told (written half) ≡ Clean
  unfolding verdict count_set differs
  no_flip = verdict_ext (differs (written half)) (λ j. false) (λ j u. none j)

  one_flip : (p : Place) → Real p → told (flip p (written half)) ≡ named p
  unfolding differs
  one_flip p r = verdict_ext (differs (flip p (written half))) (pattern p) (λ j u. one p j r u) ∙ pattern_named p r

  one_mends : (p : Place) → Real p → mended First (named p) (flip p (written half)).half ≡ half
  one_mends (data_at a b) r = rw (lt-ltb b 8 r.1, zero-add) (flip_twice half a b (omega arith))
  one_mends (code_at j) r = refl

  two_flips : (p q : Place) → Real p → Real q → (p ≡ q → ⊥) → told (flip p (flip q (written half))) ≡ NotRepairable
  unfolding differs
  two_flips p q r s ne =
      verdict_ext (differs (flip p (flip q (written half)))) sum
      (λ j u. differs_flip (flip q (written half)) p j (length_flip (written half) q l) r u ∙ ap (λ (t : Bool). t ⊕ pattern p j) (one q j s u))
      ∙ verdict_even sum (count_set 22 sum / 2) (omega (arith, count_sum 22 (pattern q) (pattern p), pattern_odd p r, pattern_odd q s))
      (λ z. ne (pattern_inj p q r s (λ j u. sym (same_bits (pattern q j) (pattern p j) (count_none 22 sum z j u)))))
    where
      sum : ℕ → Bool
      sum j = pattern q j ⊕ pattern p j

pub protects : (half : List ℕ) → length half ≡ 256 → Protects half
protects half l = record { clean = no_flip half l; one = one_flip half l; right = one_mends half l; two = two_flips half l }

-- Laws of `count_set`, by induction on the number of bits: of a number's bits it is the count of ones, a sum of two families has those of
-- either without those of both, and one in each of n pairs is n.
-- Assumes nothing.
use mathlib.Core.Path.{◌≡◌, refl, ◌∙◌, ap, ap₂, sym, subst}
use mathlib.Core.Bool.{Bool, true, false, cond, ◌&&◌, false≢true}
use mathlib.Core.Logic.{⊎_elim}
use Prim.Native.Nat.{ℕ, zero, suc, ◌+◌, ◌-◌, ◌*◌, ◌/◌, ◌%◌, ◌<◌, ◌^◌}
use native.Mathlib.Nat.{add-zero, add-suc, add_assoc, add_comm, mod-lt, eq-or-lt_of_le, le_of_suc-le-suc}
use native.Mathlib.Numerals.{add-one, one-add}
use native.Mathlib.Omega.{arith}
use borrow.Author.Tests.{lt-ltb, le-ltb}
use lib.Count.{ones, ones_cat}
use lib.Dec.{eqb}
use lib.Pow.{pow_pos, shr_lt, split}
use Rattle.bits.specs.Bits.{◌⊕◌, bit}
use Rattle.bits.proofs.Bit.{bit_mod, bit_shift}
use Rattle.ecc.specs.declared.Code.{Code}
use Rattle.ecc.specs.Half.{stored_bit}
use Rattle.ecc.specs.Verdicts.{count_set, one_in_each}

pub count_ext : (n : ℕ) (d e : ℕ → Bool) → ((j : ℕ) → j < n → d j ≡ e j) → count_set n d ≡ count_set n e
unfolding count_set
count_ext zero d e h = refl
count_ext (suc n) d e h = ap₂ (λ (m : ℕ) (t : Bool). m + cond t 1 0) (count_ext n d e (λ j u. h j (omega arith))) (h n (omega arith))

count_add : (n m : ℕ) (d : ℕ → Bool) → count_set (n + m) d ≡ count_set n d + count_set m (λ k. d (n + k))
unfolding count_set
count_add n zero d = rw (add-zero n) (sym (add-zero (count_set n d)))
count_add n (suc m) d = rw (add-suc n m, count_add n m d) (add_assoc (count_set n d) (count_set m (λ k. d (n + k))) (cond (d (n + m)) 1 0))

-- ---- the bits of a number, and of three stored bytes
count_bits : (n v : ℕ) → v < 2 ^ n → count_set n (λ k. bit k v) ≡ ones v
unfolding count_set ones bit
count_bits zero v h = let e : v ≡ 0 = omega arith in rw e
count_bits (suc n) v h =
    ap₂ ◌+◌ (count_ext n (λ k. bit k v) (λ k. bit k (v % 2 ^ n)) (λ k u. sym (bit_mod n k v u)) ∙ count_bits n (v % 2 ^ n) (mod-lt v (pow_pos n)))
    (digit (v / 2 ^ n) (shr_lt 1 n (subst (λ (m : ℕ). v < 2 ^ m) (sym (one-add n)) h)))
    ∙ add_comm (ones (v % 2 ^ n)) (ones (v / 2 ^ n)) ∙ sym (ones_cat n (v / 2 ^ n) (v % 2 ^ n) (mod-lt v (pow_pos n))) ∙ ap ones (split v n)
  where
    digit : (d : ℕ) → d < 2 → cond (eqb (d % 2) 1) 1 0 ≡ ones d
    digit zero l = refl
    digit (suc zero) l = refl
    digit (suc (suc d)) l = absurd (omega arith)

pub count_stored : (c : Code) → c.one < 256 → c.two < 256 → c.three < 256
    → count_set 22 (stored_bit c) ≡ ones c.one + ones c.two + ones (c.three / 4)
unfolding stored_bit
count_stored c h k m =
    count_add 16 6 (stored_bit c)
    ∙ ap₂ ◌+◌
    (count_add 8 8 (stored_bit c)
    ∙ ap₂ ◌+◌ (count_ext 8 (stored_bit c) (λ j. bit j c.one) (λ j u. rw (lt-ltb j 8 u)) ∙ count_bits 8 c.one h)
    (count_ext 8 (λ j. stored_bit c (8 + j)) (λ j. bit j c.two) (λ j u. second j u) ∙ count_bits 8 c.two k))
    (count_ext 6 (λ j. stored_bit c (16 + j)) (λ j. bit j (c.three / 4)) (λ j u. third j) ∙ count_bits 6 (c.three / 4) (omega arith))
  where
    second : (j : ℕ) → j < 8 → stored_bit c (8 + j) ≡ bit j c.two
    second j u = let e : 8 + j - 8 ≡ j = omega arith in rw (le-ltb (8 + j) 8 (omega arith), lt-ltb (8 + j) 16 (omega arith), e)

    third : (j : ℕ) → stored_bit c (16 + j) ≡ bit j (c.three / 4)
    third j =
        let e : 16 + j - 14 ≡ 2 + j = omega arith in
        rw (le-ltb (16 + j) 8 (omega arith), le-ltb (16 + j) 16 (omega arith), e) (sym (bit_shift 2 j c.three))

-- ---- the bits of two families, and of pairs
pub count_sum : (n : ℕ) (d e : ℕ → Bool) → count_set n (λ j. d j ⊕ e j) + 2 * count_set n (λ j. d j && e j) ≡ count_set n d + count_set n e
unfolding count_set
count_sum zero d e = refl
count_sum (suc n) d e = omega (arith, count_sum n d e, digits (d n) (e n))
  where
    digits : (s t : Bool) → cond (s ⊕ t) 1 0 + 2 * cond (s && t) 1 0 ≡ cond s 1 0 + cond t 1 0
    digits true true = refl
    digits true false = refl
    digits false true = refl
    digits false false = refl

pub count_none : (n : ℕ) (d : ℕ → Bool) → count_set n d ≡ 0 → (j : ℕ) → j < n → d j ≡ false
unfolding count_set
count_none zero d z j h = absurd (omega arith)
count_none (suc n) d z j h =
    ⊎_elim (λ e. ap d e ∙ top (d n) z) (λ l. count_none n d (omega arith) j l) (eq-or-lt_of_le (le_of_suc-le-suc h))
  where
    top : (t : Bool) → count_set n d + cond t 1 0 ≡ 0 → t ≡ false
    top true z = absurd (omega arith)
    top false z = refl

pub count_pairs : (n : ℕ) (d : ℕ → Bool) → one_in_each n d ≡ true → count_set (2 * n) d ≡ n
unfolding one_in_each count_set
count_pairs zero d e = refl
count_pairs (suc n) d e = pair ∙ step (d (2 * n)) (d (2 * n + 1)) (one_in_each n d) (count_set (2 * n) d) e (count_pairs n d)
  where
    pair : count_set (2 * suc n) d ≡ count_set (2 * n) d + (cond (d (2 * n)) 1 0 + cond (d (2 * n + 1)) 1 0)
    pair =
        let e : 2 * suc n ≡ suc (suc (2 * n)) = omega arith in
        rw (e, add-one) (add_assoc (count_set (2 * n) d) (cond (d (2 * n)) 1 0) (cond (d (suc (2 * n))) 1 0))

    step : (s t p : Bool) (m : ℕ) → ((s ⊕ t) && p) ≡ true → (p ≡ true → m ≡ n) → m + (cond s 1 0 + cond t 1 0) ≡ suc n
    step true true p m e f = absurd (false≢true e)
    step true false p m e f = let g = f e in omega arith
    step false true p m e f = let g = f e in omega arith
    step false false p m e f = absurd (false≢true e)

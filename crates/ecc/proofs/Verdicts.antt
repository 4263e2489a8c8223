-- Laws of `verdict`: it goes by 22 bits, and names nothing where an even number of them is set, but not none, since a code bit's has one and
-- a data bit's eleven.
-- Assumes nothing.
use mathlib.Core.Path.{◌≡◌, refl, ap, ap₂}
use mathlib.Core.Bool.{Bool, true, false, cond, ◌&&◌}
use Prim.Native.Nat.{ℕ, zero, suc, ◌+◌, ◌*◌, ◌%◌, ◌<◌, ◌≤◌, ◌^◌}
use native.Mathlib.Numerals.{add-one}
use native.Mathlib.Omega.{arith}
use borrow.Author.Tests.{ne_eqb}
use native.Mathlib.Nat.{pow-suc}
use lib.Pow.{pow_mono}
use lib.Dec.{eqb}
use Rattle.bits.specs.Bits.{◌⊕◌, number}
use Rattle.bits.proofs.Bit.{number_ext, number_lt, one_shifted}
use Rattle.ecc.specs.declared.Verdict.TheVariants.{Clean, CodeBit, DataBit, NotRepairable}
use Rattle.ecc.specs.Verdicts.{count_set, last_set, one_in_each, verdict}
use Rattle.ecc.proofs.Counts.{count_ext, count_pairs}

-- ---- one bit more, or one pair
pub last_next : (n : ℕ) (d : ℕ → Bool) → last_set (n + 1) d ≡ cond (d n) n (last_set n d)
unfolding last_set
last_next n d = ap (λ (m : ℕ). last_set m d) (add-one n)

pub pairs_next : (n : ℕ) (d : ℕ → Bool) → one_in_each (n + 1) d ≡ ((d (2 * n) ⊕ d (2 * n + 1)) && one_in_each n d)
unfolding one_in_each
pairs_next n d = ap (λ (m : ℕ). one_in_each m d) (add-one n)

-- the number of one bit more, which is a byte still
pub number_next : (k : ℕ) (f : ℕ → Bool) → k < 8 → number (k + 1) f ≡ number k f + cond (f k) (1 * 2 ^ k % 256) 0
unfolding number
number_next k f h = rw (add-one, one_shifted 8 k h)

pub number_room : (k : ℕ) (f : ℕ → Bool) → k < 8 → number k f + 1 * 2 ^ k % 256 < 256
number_room k f h =
    let double : 2 ^ (k + 1) ≡ 2 ^ k * 2 = rw add-one (pow-suc 2 k) in
    let room : 2 ^ (k + 1) ≤ 2 ^ 8 = pow_mono {j = 8} (omega arith) in
    omega (arith, one_shifted 8 k h, number_lt k f)

pub ruleset spelling = (number_next, number_room)

-- ---- the verdict goes by 22 bits
module _ (d e : ℕ → Bool) where
  last_ext : (n : ℕ) → ((j : ℕ) → j < n → d j ≡ e j) → last_set n d ≡ last_set n e
  unfolding last_set
  last_ext zero h = refl
  last_ext (suc n) h = ap₂ (λ (m : ℕ) (t : Bool). cond t n m) (last_ext n (λ j u. h j (omega arith))) (h n (omega arith))

  pairs_ext : (n : ℕ) → ((j : ℕ) → j < 2 * n → d j ≡ e j) → one_in_each n d ≡ one_in_each n e
  unfolding one_in_each
  pairs_ext zero h = refl
  pairs_ext (suc n) h =
      ap₂ ◌&&◌ (ap₂ ◌⊕◌ (h (2 * n) (omega arith)) (h (2 * n + 1) (omega arith))) (pairs_ext n (λ j u. h j (omega arith)))

  pub verdict_ext : ((j : ℕ) → j < 22 → d j ≡ e j) → verdict d ≡ verdict e
  unfolding verdict
  verdict_ext h =
      let o = count_ext 22 d e h in
      let l = last_ext 22 h in
      let p = pairs_ext 11 h in
      let a = number_ext 8 (λ k. d (2 * k + 1)) (λ k. e (2 * k + 1)) (λ k u. h (2 * k + 1) (omega arith)) in
      let b = number_ext 3 (λ k. d (2 * k + 17)) (λ k. e (2 * k + 17)) (λ k u. h (2 * k + 17) (omega arith)) in
      λ i. cond (eqb (o i) 0) Clean (cond (eqb (o i) 1) (CodeBit (l i)) (cond (p i) (DataBit (a i) (b i)) NotRepairable))

pub pairs_each : (n : ℕ) (d : ℕ → Bool) → ((k : ℕ) → k < n → (d (2 * k) ⊕ d (2 * k + 1)) ≡ true) → one_in_each n d ≡ true
unfolding one_in_each
pairs_each zero d h = refl
pairs_each (suc n) d h = ap₂ ◌&&◌ (h n (omega arith)) (pairs_each n d (λ k u. h k (omega arith)))

pub verdict_even : (d : ℕ → Bool) (m : ℕ) → count_set 22 d ≡ 2 * m → (count_set 22 d ≡ 0 → ⊥) → verdict d ≡ NotRepairable
unfolding verdict
verdict_even d m e z =
    simp (ne_eqb _ _ z, ne_eqb (count_set 22 d) 1 (λ o. omega arith)) (rest (one_in_each 11 d) refl)
  where
    rest : (t : Bool) → one_in_each 11 d ≡ t → cond t (DataBit (number 8 (λ k. d (2 * k + 1))) (number 3 (λ k. d (2 * k + 17)))) NotRepairable ≡ NotRepairable
    rest true p = absurd (omega (arith, count_pairs 11 d p))
    rest false p = refl

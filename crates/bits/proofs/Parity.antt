-- Laws of `parity_of`: it is linear in the number and in what picks, and a count of ones tells it.
-- Assumes nothing.
use mathlib.Core.Path.{◌≡◌, refl, ◌∙◌, ap, ap₂, subst, sym}
use mathlib.Core.Bool.{Bool, true, false, not, ◌&&◌, and-false, and-true}
use Prim.Native.Nat.{ℕ, zero, suc, ◌+◌, ◌-◌, ◌/◌, ◌%◌, ◌<◌, ◌≤◌, ◌^◌}
use native.Mathlib.Omega.{arith}
use lib.Count.{ones, ones_cat}
use lib.Pow.{pow_pos, shr_lt, split}
use native.Mathlib.Nat.{mod-lt, zero-add}
use native.Mathlib.Numerals.{one-add}
use lib.Dec.{eqb}
use lib.Bits.{bit_and, bit_xor}
use Rattle.bits.specs.Bits.{◌⊕◌, bit, number, parity_of}
use Rattle.bits.proofs.Bit.{bit-xor, bit-and, bit_mod, bit_number}
use Rattle.bits.proofs.Computed.{each}
use Rattle.bits.proofs.Sums.{⊕_false, ⊕_swap, and_⊕_left, and_⊕_right}

pub parity_xor : (n : ℕ) (g : ℕ → Bool) (v w : ℕ) → parity_of n g (bit_xor v w) ≡ (parity_of n g v ⊕ parity_of n g w)
unfolding parity_of
parity_xor zero g v w = refl
parity_xor (suc n) g v w =
    ap₂ (λ (x y : Bool). (x && g n) ⊕ y) (bit-xor n v w) (parity_xor n g v w)
    ∙ ap (λ (x : Bool). x ⊕ (parity_of n g v ⊕ parity_of n g w)) (and_⊕_left (bit n v) (bit n w) (g n))
    ∙ ⊕_swap (bit n v && g n) (bit n w && g n) (parity_of n g v) (parity_of n g w)

pub parity_both : (n : ℕ) (f g : ℕ → Bool) (v : ℕ) → parity_of n (λ b. f b ⊕ g b) v ≡ (parity_of n f v ⊕ parity_of n g v)
unfolding parity_of
parity_both zero f g v = refl
parity_both (suc n) f g v =
    ap₂ (λ (x y : Bool). x ⊕ y) (and_⊕_right (bit n v) (f n) (g n)) (parity_both n f g v)
    ∙ ⊕_swap (bit n v && f n) (bit n v && g n) (parity_of n f v) (parity_of n g v)

pub parity_none : (n v : ℕ) → parity_of n (λ b. false) v ≡ false
unfolding parity_of
parity_none zero v = refl
parity_none (suc n) v = ap₂ (λ (x y : Bool). x ⊕ y) (and-false (bit n v)) (parity_none n v)

pub parity_all : (n v : ℕ) (t : Bool) → parity_of n (λ b. t) v ≡ (parity_of n (λ b. true) v && t)
parity_all n v true = sym (and_true' (parity_of n (λ b. true) v))
  where
    and_true' : (a : Bool) → (a && true) ≡ a
    and_true' true = refl
    and_true' false = refl
parity_all n v false = parity_none n v ∙ sym (and-false (parity_of n (λ b. true) v))

-- a byte with one bit set
pub parity_one : (g : ℕ → Bool) (b : ℕ) → b < 8 → parity_of 8 g (2 ^ b) ≡ g b
unfolding parity_of bit
parity_one g =
    each (λ b. parity_of 8 g (2 ^ b) ≡ g b) 8
    (⊕_false (g 0), (⊕_false (g 1), (⊕_false (g 2), (⊕_false (g 3), (⊕_false (g 4), (⊕_false (g 5), (⊕_false (g 6), (⊕_false (g 7), tt))))))))

-- ---- a number's ones
-- what a mask picks are the bits of the masked number
pub parity_mask : (n v m : ℕ) → parity_of n (λ i. bit i m) v ≡ parity_of n (λ i. true) (bit_and v m)
unfolding parity_of
parity_mask zero v m = refl
parity_mask (suc n) v m = ap₂ ◌⊕◌ (sym (and-true (bit n (bit_and v m)) ∙ bit-and n v m)) (parity_mask n v m)

-- what is picked is the mask of the bits picked
pub parity_number : (n k : ℕ) (g : ℕ → Bool) (v : ℕ) → n ≤ k → parity_of n g v ≡ parity_of n (λ i. bit i (number k g)) v
unfolding parity_of
parity_number zero k g v h = refl
parity_number (suc n) k g v h = ap₂ (λ (x y : Bool). (bit n v && x) ⊕ y) (sym (bit_number k n g (omega arith))) (parity_number n k g v (omega arith))

-- the bits above n do not matter
parity_low : (n k : ℕ) (g : ℕ → Bool) (v : ℕ) → n ≤ k → parity_of n g (v % 2 ^ k) ≡ parity_of n g v
unfolding parity_of
parity_low zero k g v h = refl
parity_low (suc n) k g v h = ap₂ (λ (x y : Bool). (x && g n) ⊕ y) (bit_mod k n v (omega arith)) (parity_low n k g v (omega arith))

-- a count of ones is odd where the parity of all bits is set
pub parity_ones : (n v : ℕ) → v < 2 ^ n → parity_of n (λ i. true) v ≡ eqb (ones v % 2) 1
unfolding parity_of ones bit
parity_ones zero v h = let e : v ≡ 0 = omega arith in ap (λ (x : ℕ). eqb (ones x % 2) 1) (sym e)
parity_ones (suc n) v h =
    ap₂ ◌⊕◌ (and-true (bit n v)) (sym (parity_low n n (λ i. true) v (omega arith)) ∙ parity_ones n (v % 2 ^ n) (mod-lt v (pow_pos n)))
    ∙ top (v / 2 ^ n) (ones (v % 2 ^ n)) (shr_lt 1 n (subst (λ (m : ℕ). v < 2 ^ m) (sym (one-add n)) h))
    ∙ ap (λ (m : ℕ). eqb (m % 2) 1) (sym (ones_cat n (v / 2 ^ n) (v % 2 ^ n) (mod-lt v (pow_pos n))) ∙ ap ones (split v n))
  where
    other : (r : ℕ) → r < 2 → not (eqb r 1) ≡ eqb (1 - r) 1
    other zero l = refl
    other (suc zero) l = refl
    other (suc (suc r)) l = absurd (omega arith)

    top : (d m : ℕ) → d < 2 → (eqb (d % 2) 1 ⊕ eqb (m % 2) 1) ≡ eqb ((ones d + m) % 2) 1
    top zero m l = ap (λ (x : ℕ). eqb (x % 2) 1) (sym (zero-add m))
    top (suc zero) m l = let e : 1 - m % 2 ≡ (1 + m) % 2 = omega arith in other (m % 2) (mod-lt m (omega arith)) ∙ ap (λ (x : ℕ). eqb x 1) e
    top (suc (suc d)) m l = absurd (omega arith)

-- the code's parity of a masked number, by its count of ones
pub parity_masked : (n v m : ℕ) → bit_and v m < 2 ^ n → parity_of n (λ i. bit i m) v ≡ eqb (ones (bit_and v m) % 2) 1
parity_masked n v m h = parity_mask n v m ∙ parity_ones n (bit_and v m) h

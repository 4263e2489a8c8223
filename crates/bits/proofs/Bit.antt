-- Laws of the bits of a number and of the number of given bits.
-- Assumes nothing.
use mathlib.Core.Path.{◌≡◌, refl, ◌∙◌, ap, ap₂, subst, sym}
use mathlib.Core.Bool.{Bool, true, false, not, cond, ◌&&◌}
use mathlib.Core.Logic.{⊎_elim}
use Prim.Native.Nat.{ℕ, zero, suc, ◌+◌, ◌-◌, ◌*◌, ◌/◌, ◌%◌, ◌^◌, ◌<◌, ◌≤◌}
use native.Mathlib.Nat.{one-mul, mod-lt, mod-eq_of_lt, pow-suc, add-zero, zero-lt-suc, div-one, div-eq_of_lt, eq-or-lt_of_le, le_of_suc-le-suc}
use native.Mathlib.Numerals.{one-add}
use native.Mathlib.Omega.{arith}
use lib.Dec.{eqb, eqb→eq}
use lib.Pow.{pow-lt, shr-shr, field, mod-mod-pow, high, low, mod-pow-add}
use lib.Bits.{bit_and, and_shr, and_mod, bit_xor, xor_shr, xor_mod, xor_comm, xor_self, xor_zero_r, xor_lt}
use lib.Arith.{bin_ind}
use Rattle.bits.specs.Bits.{◌⊕◌, bit, number}
use Rattle.bits.proofs.Computed.{all, below, same, same→eq}

two_pos : 0 < 2
two_pos = zero-lt-suc 1

-- ---- bits and ⊕
xor_digits : (x y : ℕ) → x < 2 → y < 2 → eqb (bit_xor x y) 1 ≡ (eqb x 1 ⊕ eqb y 1)
xor_digits x y hx hy =
    same→eq _ _ (below (λ y. same (eqb (bit_xor x y) 1) (eqb x 1 ⊕ eqb y 1)) 2
    (below (λ x. all (λ y. same (eqb (bit_xor x y) 1) (eqb x 1 ⊕ eqb y 1)) 0 2) 2 tt x hx) y hy)

pub bit-xor : (k a b : ℕ) → bit k (bit_xor a b) ≡ (bit k a ⊕ bit k b)
unfolding bit
bit-xor k a b =
    ap (λ (n : ℕ). eqb (n % 2) 1) (xor_shr a b k) ∙ ap (λ (n : ℕ). eqb n 1) (xor_mod (a / 2 ^ k) (b / 2 ^ k) 1)
    ∙ xor_digits (a / 2 ^ k % 2) (b / 2 ^ k % 2) (mod-lt _ two_pos) (mod-lt _ two_pos)

and_digits : (x y : ℕ) → x < 2 → y < 2 → eqb (bit_and x y) 1 ≡ (eqb x 1 && eqb y 1)
and_digits x y hx hy =
    same→eq _ _ (below (λ y. same (eqb (bit_and x y) 1) (eqb x 1 && eqb y 1)) 2
    (below (λ x. all (λ y. same (eqb (bit_and x y) 1) (eqb x 1 && eqb y 1)) 0 2) 2 tt x hx) y hy)

pub bit-and : (k a b : ℕ) → bit k (bit_and a b) ≡ (bit k a && bit k b)
unfolding bit
bit-and k a b =
    ap (λ (n : ℕ). eqb (n % 2) 1) (and_shr a b k) ∙ ap (λ (n : ℕ). eqb n 1) (and_mod (a / 2 ^ k) (b / 2 ^ k) 1)
    ∙ and_digits (a / 2 ^ k % 2) (b / 2 ^ k % 2) (mod-lt _ two_pos) (mod-lt _ two_pos)

-- the sum of numbers, bit by bit, in any grouping
xor_assoc_digits : (x y z : ℕ) → x < 2 → y < 2 → z < 2 → bit_xor (bit_xor x y) z ≡ bit_xor x (bit_xor y z)
xor_assoc_digits x y z hx hy hz =
    eqb→eq _ _ (below (λ z. eqb (bit_xor (bit_xor x y) z) (bit_xor x (bit_xor y z))) 2
    (below (λ y. all (λ z. eqb (bit_xor (bit_xor x y) z) (bit_xor x (bit_xor y z))) 0 2) 2
    (below (λ x. all (λ y. all (λ z. eqb (bit_xor (bit_xor x y) z) (bit_xor x (bit_xor y z))) 0 2) 0 2) 2 tt x hx) y hy) z hz)

pub xor_assoc : (a b c : ℕ) → bit_xor (bit_xor a b) c ≡ bit_xor a (bit_xor b c)
xor_assoc =
    bin_ind (λ (a : ℕ). (b c : ℕ) → bit_xor (bit_xor a b) c ≡ bit_xor a (bit_xor b c)) (λ b c. refl)
    (λ a ih b c.
    let h : bit_xor (bit_xor a b) c / 2 ≡ bit_xor a (bit_xor b c) / 2
    = xor_shr (bit_xor a b) c 1 ∙ ap (λ (n : ℕ). bit_xor n (c / 2)) (xor_shr a b 1) ∙ ih (b / 2) (c / 2)
    ∙ sym (xor_shr a (bit_xor b c) 1 ∙ ap (bit_xor (a / 2)) (xor_shr b c 1)) in
    let l : bit_xor (bit_xor a b) c % 2 ≡ bit_xor a (bit_xor b c) % 2
    = xor_mod (bit_xor a b) c 1 ∙ ap (λ (n : ℕ). bit_xor n (c % 2)) (xor_mod a b 1)
    ∙ xor_assoc_digits (a % 2) (b % 2) (c % 2) (mod-lt a two_pos) (mod-lt b two_pos) (mod-lt c two_pos)
    ∙ sym (xor_mod a (bit_xor b c) 1 ∙ ap (bit_xor (a % 2)) (xor_mod b c 1)) in
    omega arith)

pub xor_twice : (a b : ℕ) → bit_xor (bit_xor a b) b ≡ a
xor_twice a b = xor_assoc a b b ∙ ap (bit_xor a) (xor_self b) ∙ xor_zero_r a

pub xor_swap : (a b c d : ℕ) → bit_xor (bit_xor a b) (bit_xor c d) ≡ bit_xor (bit_xor a c) (bit_xor b d)
xor_swap a b c d =
    xor_assoc a b (bit_xor c d)
    ∙ ap (bit_xor a) (sym (xor_assoc b c d) ∙ ap (λ (n : ℕ). bit_xor n d) (xor_comm b c) ∙ xor_assoc c b d)
    ∙ sym (xor_assoc a c (bit_xor b d))

-- ---- the low bits
bit_low : (j k x : ℕ) → bit k (x % 2 ^ (j + 1 + k)) ≡ bit k x
unfolding bit
bit_low j k x = ap (λ (n : ℕ). eqb (n % 2) 1) (field x (j + 1) k) ∙ ap (λ (n : ℕ). eqb n 1) (mod-mod-pow (x / 2 ^ k) j 1)

pub bit_mod : (n k x : ℕ) → k < n → bit k (x % 2 ^ n) ≡ bit k x
bit_mod n k x h =
    let e : n ≡ n - k - 1 + 1 + k = omega arith in
    ap (λ (m : ℕ). bit k (x % 2 ^ m)) e ∙ bit_low (n - k - 1) k x

pub bit_zero : (x : ℕ) → bit 0 x ≡ eqb (x % 2) 1
unfolding bit
bit_zero x = ap (λ (n : ℕ). eqb (n % 2) 1) (div-one x)

pub bit_shift : (n k x : ℕ) → bit k (x / 2 ^ n) ≡ bit (n + k) x
unfolding bit
bit_shift n k x = ap (λ (m : ℕ). eqb (m % 2) 1) (shr-shr x n k)

-- none is set above a number's own
pub bit_above : (k x : ℕ) → x < 2 ^ k → bit k x ≡ false
unfolding bit
bit_above k x h = ap (λ (n : ℕ). eqb (n % 2) 1) (div-eq_of_lt h)

-- ---- numbers of given bits
pub number_ext : (n : ℕ) (f g : ℕ → Bool) → ((k : ℕ) → k < n → f k ≡ g k) → number n f ≡ number n g
unfolding number
number_ext zero f g h = refl
number_ext (suc n) f g h =
    ap₂ (λ (m : ℕ) (t : Bool). m + cond t (2 ^ n) 0) (number_ext n f g (λ k l. h k (omega arith))) (h n (omega arith))

cond_le : (t : Bool) (m : ℕ) → cond t m 0 ≤ m
cond_le true m = omega arith
cond_le false m = omega arith

pub number_lt : (n : ℕ) (f : ℕ → Bool) → number n f < 2 ^ n
unfolding number
number_lt zero f = omega arith
number_lt (suc n) f = omega (arith, number_lt n f, cond_le (f n) (2 ^ n), pow-suc 2 n)

bit_top : (n m : ℕ) (t : Bool) → m < 2 ^ n → bit n (m + cond t (2 ^ n) 0) ≡ t
unfolding bit
bit_top n m true h =
    let e : m + 2 ^ n ≡ 1 * 2 ^ n + m = omega arith in
    ap (λ (x : ℕ). eqb (x % 2) 1) (ap (λ (x : ℕ). x / 2 ^ n) e ∙ high 1 n h)
bit_top n m false h = ap (λ (x : ℕ). eqb (x % 2) 1) (ap (λ (x : ℕ). x / 2 ^ n) (add-zero m) ∙ div-eq_of_lt h)

bit_under : (n k m : ℕ) (t : Bool) → m < 2 ^ n → k < n → bit k (m + cond t (2 ^ n) 0) ≡ bit k m
bit_under n k m true h l =
    let e : m + 2 ^ n ≡ 1 * 2 ^ n + m = omega arith in
    ap (bit k) e ∙ sym (bit_mod n k (1 * 2 ^ n + m) l) ∙ ap (bit k) (low 1 n h)
bit_under n k m false h l = ap (bit k) (add-zero m)

pub bit_number : (n k : ℕ) (f : ℕ → Bool) → k < n → bit k (number n f) ≡ f k
unfolding number
bit_number zero k f h = absurd (omega arith)
bit_number (suc n) k f h =
    ⊎_elim (λ e. subst (λ (i : ℕ). bit i (number n f + cond (f n) (2 ^ n) 0) ≡ f i) (sym e) (bit_top n (number n f) (f n) (number_lt n f)))
    (λ l. bit_under n k (number n f) (f n) (number_lt n f) l ∙ bit_number n k f l)
    (eq-or-lt_of_le (le_of_suc-le-suc h))

-- a binary digit as a choice
pub digit : (y m : ℕ) → y < 2 → cond (eqb y 1) m 0 ≡ y * m
digit zero m h = omega arith
digit (suc zero) m h = omega arith
digit (suc (suc y)) m h = absurd (omega arith)

pub number_bits : (n x : ℕ) → number n (λ k. bit k x) ≡ x % 2 ^ n
unfolding number bit
number_bits zero x = omega arith
number_bits (suc n) x =
    let e : x % 2 ^ suc n ≡ x % 2 ^ (1 + n) = ap (λ (m : ℕ). x % 2 ^ m) (sym (one-add n)) in
    omega (arith, number_bits n x, digit (x / 2 ^ n % 2) (2 ^ n) (mod-lt _ two_pos), mod-pow-add x 1 n)

pub number_xor : (n : ℕ) (f g : ℕ → Bool) → bit_xor (number n f) (number n g) ≡ number n (λ k. f k ⊕ g k)
number_xor n f g =
    sym (number_bits n (bit_xor (number n f) (number n g)) ∙ mod-eq_of_lt (xor_lt n (number n f) (number n g) (number_lt n f) (number_lt n g)))
    ∙ number_ext n _ _ (λ k h. bit-xor k (number n f) (number n g) ∙ ap₂ ◌⊕◌ (bit_number n k f h) (bit_number n k g h))

-- inverted
pub number_not : (n : ℕ) (f : ℕ → Bool) → number n (λ k. not (f k)) + number n f + 1 ≡ 2 ^ n
unfolding number
number_not zero f = refl
number_not (suc n) f = omega (arith, number_not n f, pow-suc 2 n, either (f n))
  where
    either : (t : Bool) → cond (not t) (2 ^ n) 0 + cond t (2 ^ n) 0 ≡ 2 ^ n
    either true = omega arith
    either false = omega arith

-- where none is set from m on
pub number_short : (n m : ℕ) (f : ℕ → Bool) → m ≤ n → ((k : ℕ) → m ≤ k → f k ≡ false) → number n f ≡ number m f
unfolding number
number_short zero m f l h = let e : 0 ≡ m = omega arith in ap (λ (i : ℕ). number i f) e
number_short (suc n) m f l h =
    ⊎_elim (λ e. ap (λ (i : ℕ). number i f) (sym e))
    (λ u.
    let v : m ≤ n = le_of_suc-le-suc u in
    ap (λ (t : Bool). number n f + cond t (2 ^ n) 0) (h n v) ∙ add-zero (number n f) ∙ number_short n m f v h)
    (eq-or-lt_of_le l)

-- the code's `1 << k` at a width w
pub one_shifted : (w k : ℕ) → k < w → 1 * 2 ^ k % 2 ^ w ≡ 2 ^ k
one_shifted w k h = ap (λ (n : ℕ). n % 2 ^ w) (one-mul (2 ^ k)) ∙ mod-eq_of_lt (pow-lt h)

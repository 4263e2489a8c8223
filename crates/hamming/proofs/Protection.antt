-- What the protected word protects. The check bits are linear, so a flip's effect does not depend on the word: the reading of a word as
-- written with some bits flipped is the data XOR the reading of the flipped bits alone, which antt computes for each one and each two of them.
-- Assumes nothing.
use mathlib.Core.Path.{◌≡◌, refl, ◌∙◌, ap, ap₂, subst, sym}
use mathlib.Core.Bool.{Bool, true, false, not, cond, ◌&&◌, ◌||◌}
use Prim.Native.Nat.{ℕ, ◌/◌, ◌%◌, ◌<◌, ◌^◌}
use native.Mathlib.Omega.{arith}
use borrow.Author.Tests.{ne_eqb}
use lib.Bits.{bit_xor, xor_comm, xor_mod, xor_self, xor_shr, xor_zero_l, xor_zero_r}
use lib.Count.{ones, ones_in}
use lib.Dec.{T, T_not, eqb, eqb→eq}
use Rattle.bits.specs.Bits.{bit, number, parity_of}
use Rattle.bits.proofs.Bit.{number_lt, xor_assoc, xor_swap, xor_twice}
use Rattle.bits.proofs.Computed.{all, below, left, right, true_of}
use Rattle.hamming.specs.declared.Decoded.{Decoded}
use Rattle.hamming.specs.declared.Repair.TheVariants.{Clean, CheckBit, DataBit}
use Rattle.hamming.specs.Word.{power_of_two, not_powers, house_numbers, check_bit, check_bits, encoded, named, place_in, data_bit_of, decoded_by, decoded, is_repair}
use Rattle.hamming.specs.Claims.{Used, Protects}
use Rattle.hamming.proofs.Checks.{check_xor}

-- ---- a word as written, with the bits of e flipped
named_xor : (w e : ℕ) → named (bit_xor w e) ≡ bit_xor (named w) (named e)
unfolding named
named_xor w e =
    ap₂ (λ (x y : ℕ). bit_xor (check_bits x) y) (xor_shr w e 6) (xor_mod w e 5)
    ∙ ap (λ (x : ℕ). bit_xor x (bit_xor (w % 32) (e % 32))) (check_xor (w / 64) (e / 64))
    ∙ xor_swap (check_bits (w / 64)) (check_bits (e / 64)) (w % 32) (e % 32)

module _ (bits : ℕ) (h : bits < 2 ^ 26) where
  checks_lt : check_bits bits < 32
  unfolding check_bits
  checks_lt = number_lt 5 (λ j. check_bit j bits)

  data_encoded : encoded bits / 64 ≡ bits
  unfolding encoded
  data_encoded = omega (arith, checks_lt)

  named_encoded : named (encoded bits) ≡ 0
  unfolding named
  named_encoded = ap₂ (λ (x y : ℕ). bit_xor (check_bits x) y) data_encoded low ∙ xor_self (check_bits bits)
    where
      low : encoded bits % 32 ≡ check_bits bits
      low = unfold encoded in omega (arith, checks_lt)

  -- the reading: the data changed by e, with the number that e names
  decoded_flipped : (e : ℕ) → decoded (bit_xor (encoded bits) e) ≡ decoded_by (bit_xor bits (e / 64)) (named e)
  unfolding decoded
  decoded_flipped e =
      ap₂ decoded_by (xor_shr (encoded bits) e 6 ∙ ap (λ (x : ℕ). bit_xor x (e / 64)) data_encoded)
      (named_xor (encoded bits) e ∙ ap (λ (x : ℕ). bit_xor x (named e)) named_encoded ∙ xor_zero_l (named e))

-- the data go through a reading as they are
decoded_through : (bits x n : ℕ) → ((decoded_by (bit_xor bits x) n).bits ≡ bit_xor bits (decoded_by x n).bits) × ((decoded_by (bit_xor bits x) n).repair ≡ (decoded_by x n).repair)
unfolding decoded_by
decoded_through bits x n = go (eqb n 0) (power_of_two n)
  where
    by : Bool → Bool → ℕ → Decoded
    by t u b =
        cond t (record { bits = b; repair = Clean })
        (cond u (record { bits = b; repair = CheckBit }) (record { bits = bit_xor b (2 ^ data_bit_of n); repair = DataBit }))

    go : (t u : Bool) → ((by t u (bit_xor bits x)).bits ≡ bit_xor bits (by t u x).bits) × ((by t u (bit_xor bits x)).repair ≡ (by t u x).repair)
    go true u = (refl, refl)
    go false true = (refl, refl)
    go false false = (xor_assoc bits x (2 ^ data_bit_of n), refl)

-- the reading of flipped bits alone, and what it does to a word as written
module _ (bits : ℕ) (h : bits < 2 ^ 26) (e : ℕ) where
  data_flipped : (decoded (bit_xor (encoded bits) e)).bits ≡ bit_xor bits (decoded e).bits
  unfolding decoded
  data_flipped = ap (λ (d : Decoded). d.bits) (decoded_flipped bits h e) ∙ (decoded_through bits (e / 64) (named e)).0

  repair_flipped : (decoded (bit_xor (encoded bits) e)).repair ≡ (decoded e).repair
  unfolding decoded
  repair_flipped = ap (λ (d : Decoded). d.repair) (decoded_flipped bits h e) ∙ (decoded_through bits (e / 64) (named e)).1

-- ---- one flipped bit, and two
right_one : ℕ → Bool
right_one k = eqb k 5 || (eqb (decoded (2 ^ k)).bits 0 && is_repair (decoded (2 ^ k)).repair)

one_right : T (all right_one 0 32)
unfolding right_one decoded decoded_by named check_bits check_bit parity_of number bit data_bit_of place_in house_numbers not_powers ones ones_in
one_right = tt

wrong_two : ℕ → ℕ → Bool
wrong_two j k = eqb j 5 || (eqb k 5 || (eqb j k || not (eqb (decoded (bit_xor (2 ^ k) (2 ^ j))).bits 0)))

two_wrong : T (all (λ j. all (wrong_two j) 0 32) 0 32)
unfolding wrong_two decoded decoded_by named check_bits check_bit parity_of number bit data_bit_of place_in house_numbers not_powers ones ones_in
two_wrong = tt

-- a number that an XOR does not change by
unchanged : (a x : ℕ) → bit_xor a x ≡ a → x ≡ 0
unchanged a x e = sym (xor_twice x a) ∙ ap (λ (n : ℕ). bit_xor n a) (xor_comm x a ∙ e) ∙ xor_self a

module _ (k : ℕ) (u : Used k) where
  one_alone : ((decoded (2 ^ k)).bits ≡ 0) × (is_repair (decoded (2 ^ k)).repair ≡ true)
  unfolding right_one
  one_alone =
      let b = eqb (decoded (2 ^ k)).bits 0 in
      let r = is_repair (decoded (2 ^ k)).repair in
      let t : T (b && r) = simp (ne_eqb k 5 u.not_unused) at (below right_one 32 one_right k u.in_word) in
      (eqb→eq _ 0 (left b r t), true_of r (right b r t))

  two_alone : (j : ℕ) → Used j → (j ≡ k → ⊥) → (decoded (bit_xor (2 ^ k) (2 ^ j))).bits ≡ 0 → ⊥
  unfolding wrong_two
  two_alone j v ne e =
      T_not (eqb (decoded (bit_xor (2 ^ k) (2 ^ j))).bits 0)
      (simp (ne_eqb j 5 v.not_unused, ne_eqb k 5 u.not_unused, ne_eqb j k ne) at
      (below (wrong_two j) 32 (below (λ j. all (wrong_two j) 0 32) 32 two_wrong j v.in_word) k u.in_word))
      (subst (λ (n : ℕ). T (eqb n 0)) (sym e) tt)

unused_alone : named (2 ^ 5) ≡ 0
unfolding named check_bits check_bit parity_of number bit house_numbers not_powers ones ones_in
unused_alone = refl

pub protects : Protects
unfolding decoded decoded_by
protects =
    record {
      clean = λ bits h. ap₂ decoded_by (data_encoded bits h) (named_encoded bits h);
      one = λ bits k h u. (
        data_flipped bits h (2 ^ k) ∙ ap (bit_xor bits) (one_alone k u).0 ∙ xor_zero_r bits,
        ap is_repair (repair_flipped bits h (2 ^ k)) ∙ (one_alone k u).1,
      );
      two = λ bits j k h v u ne e.
          two_alone k u j v ne
          (unchanged bits _
          (sym (data_flipped bits h (bit_xor (2 ^ k) (2 ^ j))) ∙ ap (λ (w : ℕ). (decoded w).bits) (sym (xor_assoc (encoded bits) (2 ^ k) (2 ^ j))) ∙ e));
      unused = λ word.
          ap₂ decoded_by (xor_shr word (2 ^ 5) 6 ∙ xor_zero_r (word / 64))
          (named_xor word (2 ^ 5) ∙ ap (bit_xor (named word)) unused_alone ∙ xor_zero_r (named word));
    }

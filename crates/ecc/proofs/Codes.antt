-- The code of a run from its line sum and the XOR of its bytes: the line sum has the odd members of the line pairs, the even ones differ
-- from them by the parity of all bits, and the columns look at no address.
-- Assumes nothing.
use mathlib.Core.Path.{◌≡◌, refl, ◌∙◌, ap, sym}
use mathlib.Core.Bool.{Bool, true, false, not, cond, ◌&&◌, ◌||◌}
use mathlib.Core.List.{List}
use Prim.Native.Nat.{ℕ, ◌+◌, ◌*◌, ◌/◌, ◌%◌, ◌<◌, ◌≤◌}
use native.Mathlib.Omega.{arith}
use borrow.Author.Tests.{lt-ltb, le-ltb, ltb-false}
use lib.Dec.{eqb, ltb}
use lib.ListN.{length, drop}
use Rattle.bits.specs.Bits.{◌⊕◌, bit, number, parity_of}
use Rattle.bits.proofs.Bit.{bit_mod, bit_number, bit_shift, bit_zero, number_ext}
use Rattle.bits.proofs.Sums.{⊕_false}
use Rattle.ecc.specs.Half.{place_bit, counts, parity, code_bit, code_from, code_of}
use Rattle.ecc.specs.Sums.{line_sum, byte_sum, fold_at, parity_bit, pairs_of, columns_of, code_from_sums}
use Rattle.ecc.proofs.Runs.{run_ext, run_none, run_both}
use Rattle.ecc.proofs.Sums.{sum_parity}
use Rattle.ecc.proofs.Folds.{length_fold, run_fold, line_fold}

member : (t p : Bool) → cond t p (not p) ≡ (p ⊕ not t)
member true p = sym (⊕_false p)
member false true = refl
member false false = refl

tested : (t : Bool) → eqb (cond t 1 0) 1 ≡ t
tested true = refl
tested false = refl

module _ (l : List ℕ) where
  run_all : (t : Bool) → parity (λ x y. t) 0 l ≡ (t && parity (λ x y. true) 0 l)
  run_all true = refl
  run_all false = run_none 0 l

  line_bit : (k : ℕ) → k < 8 → bit k (line_sum l) ≡ parity (λ x y. bit k x) 0 l
  unfolding line_sum
  line_bit k h = bit_number 8 k (λ k. parity (λ x y. bit k x) 0 l) h

  code_line : (j : ℕ) → j < 16 → code_bit 0 l j ≡ (parity (λ x y. bit (j / 2) x) 0 l ⊕ (not (bit 0 j) && parity (λ x y. true) 0 l))
  unfolding code_bit counts place_bit
  code_line j h =
      run_ext (counts j) (λ x y. bit (j / 2) x ⊕ not (bit 0 j)) 0 0 l (λ i b u. rw (lt-ltb (j / 2) 8 (omega arith)) (member (bit 0 j) (bit (j / 2) (0 + i))))
      ∙ run_both (λ x y. bit (j / 2) x) (λ x y. not (bit 0 j)) 0 l
      ∙ ap (λ (t : Bool). parity (λ x y. bit (j / 2) x) 0 l ⊕ t) (run_all (not (bit 0 j)))

  module _ (all : ℕ) (sums : (g : ℕ → Bool) → parity_of 8 g all ≡ parity (λ x y. g y) 0 l) where
    -- a byte of line pairs: its bit j holds code bit c j
    pairs_code : (line : ℕ) (c : ℕ → ℕ)
        → ((j : ℕ) → j < 8 → (c j < 16) × (c j % 2 ≡ j % 2) × (bit (j / 2) line ≡ parity (λ x y. bit (c j / 2) x) 0 l))
        → pairs_of line (parity_bit all) ≡ number 8 (λ j. not (code_bit 0 l (c j)))
    unfolding pairs_of
    pairs_code line c h =
        number_ext 8 _ _ (λ j u.
        let even : bit 0 j ≡ bit 0 (c j) = bit_zero j ∙ ap (λ (n : ℕ). eqb n 1) (sym (h j u).1) ∙ sym (bit_zero (c j)) in
        rw (even, (h j u).2, tested (parity_of 8 (λ b. true) all), sums (λ b. true)) (ap not (sym (code_line (c j) (h j u).0))))

    columns_code : columns_of all ≡ number 8 (λ j. ltb j 2 || not (code_bit 0 l (14 + j)))
    unfolding columns_of code_bit counts place_bit
    columns_code = number_ext 8 _ _ (λ j u. column j (ltb j 2) refl)
      where
        column : (j : ℕ) (t : Bool) → ltb j 2 ≡ t → (t || not (parity_of 8 (counts (14 + j) 0) all)) ≡ (t || not (code_bit 0 l (14 + j)))
        column j true e = refl
        column j false e =
            let h : 8 ≤ (14 + j) / 2 = omega (arith, ltb-false) in
            ap not
            (sums (counts (14 + j) 0)
            ∙ run_ext (λ x y. counts (14 + j) 0 y) (counts (14 + j)) 0 0 l (λ i b u. rw (le-ltb ((14 + j) / 2) 8 h)))

    pub code_sums : code_from_sums (line_sum l) all ≡ code_of l
    unfolding code_from_sums code_from
    code_sums =
        λ i. record {
          one = pairs_code (line_sum l % 16) (λ j. j) (λ j u. (omega arith, refl, low j u)) i;
          two = pairs_code (line_sum l / 16) (λ j. 8 + j) (λ j u. (omega arith, omega arith, high j u)) i;
          three = columns_code i;
        }
      where
        low : (j : ℕ) → j < 8 → bit (j / 2) (line_sum l % 16) ≡ parity (λ x y. bit (j / 2) x) 0 l
        low j u = bit_mod 4 (j / 2) (line_sum l) (omega arith) ∙ line_bit (j / 2) (omega arith)

        high : (j : ℕ) → j < 8 → bit (j / 2) (line_sum l / 16) ≡ parity (λ x y. bit ((8 + j) / 2) x) 0 l
        high j u =
            let e : 4 + j / 2 ≡ (8 + j) / 2 = omega arith in
            bit_shift 4 (j / 2) (line_sum l) ∙ line_bit (4 + j / 2) (omega arith) ∙ ap (λ (k : ℕ). parity (λ x y. bit k x) 0 l) e

-- of a run, from the sums of the whole
pub code_run : (run : List ℕ) → code_from_sums (line_sum run) (byte_sum run) ≡ code_of run
code_run run = code_sums run (byte_sum run) (λ g. sum_parity g 0 run)

-- two folds of a half leave 64 bytes, and the two top bits of the line sum
pub code_folds : (half : List ℕ) → length half ≡ 256
    → code_from_sums
    (line_sum (fold_at 64 (fold_at 128 half)) + parity_bit (byte_sum (drop 64 (fold_at 128 half))) * 64 + parity_bit (byte_sum (drop 128 half)) * 128)
    (byte_sum (fold_at 64 (fold_at 128 half)))
    ≡ code_of half
code_folds half e =
    rw (← line_fold 6 upper (omega arith) small, ← line_fold 7 half (omega arith) e)
    (code_sums half (byte_sum (fold_at 64 upper)) (λ g.
    sum_parity g 0 (fold_at 64 upper) ∙ sym (run_fold 128 half e (λ x y. g y) (λ i b u. refl) ∙ run_fold 64 upper small (λ x y. g y) (λ i b u. refl))))
  where
    upper : List ℕ
    upper = fold_at 128 half

    small : length upper ≡ 128
    small = length_fold 128 half e

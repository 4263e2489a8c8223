-- Laws of `fold_at`, the upper part of a run XORed onto its lower part: parities are linear, so what picks the same bits in both parts has the
-- parity of the fold, and the top address bit that of the upper part.
-- Assumes nothing.
use mathlib.Core.Path.{◌≡◌, ◌∙◌, ap, ap₂, sym}
use mathlib.Core.Bool.{Bool, true, false, cond}
use mathlib.Core.List.{List, [], ◌∷◌, ◌++◌}
use Prim.Native.Nat.{ℕ, suc, ◌+◌, ◌*◌, ◌%◌, ◌<◌, ◌≤◌, ◌^◌}
use native.Mathlib.Nat.{zero-add, add-div_left, add-mod_left, div-eq_of_lt, one-mul, pow-suc}
use native.Mathlib.Omega.{arith}
use lib.Bits.{bit_xor}
use lib.Dec.{eqb}
use lib.ListN.{length, get_or, take, drop, length-take, length-drop, take-append-drop}
use lib.Seq.{get_or-take, get_or-drop}
use Rattle.std.proofs.lemmas.Grind.{common_steps}
use Rattle.std.proofs.lemmas.List.{take_more}
use lib.Pow.{pow_mono, pow_pos}
use Rattle.bits.specs.Bits.{◌⊕◌, bit, number, parity_of}
use Rattle.bits.proofs.Bit.{bit_above, bit_mod, number_ext, number_lt, number_short}
use Rattle.bits.proofs.Bytes.{length_xor, get_d_xor}
use Rattle.ecc.specs.Half.{parity}
use Rattle.ecc.specs.Sums.{line_sum, byte_sum, fold_at, parity_bit}
use Rattle.ecc.proofs.Runs.{run_ext, run_none, run_xor, run_append}
use Rattle.ecc.proofs.Sums.{sum_none, sum_more, sum_parity}

module _ (n : ℕ) (l : List ℕ) (e : length l ≡ n + n) where
  lower : length (take n l) ≡ n
  lower = simp length-take (omega arith)

  upper : length (drop n l) ≡ n
  upper = simp length-drop (omega arith)

  pub length_fold : length (fold_at n l) ≡ n
  length_fold = length_xor (take n l) (drop n l) (lower ∙ sym upper) ∙ lower

  parts : (g : ℕ → ℕ → Bool) → parity g 0 l ≡ (parity g 0 (take n l) ⊕ parity g n (drop n l))
  parts g =
      ap (parity g 0) (sym (take-append-drop n l)) ∙ run_append g 0 (take n l) (drop n l)
      ∙ ap (λ (a : ℕ). parity g 0 (take n l) ⊕ parity g a (drop n l)) (zero-add (length (take n l)) ∙ lower)

  -- what picks the same bits in both parts picks them in the fold
  pub run_fold : (g : ℕ → ℕ → Bool) → ((i b : ℕ) → i < n → g (n + i) b ≡ g i b) → parity g 0 l ≡ parity g 0 (fold_at n l)
  run_fold g h =
      parts g
      ∙ ap (λ (t : Bool). parity g 0 (take n l) ⊕ t) (run_ext g g n 0 (drop n l) (λ i b u. rw zero-add (h i b (omega (arith, upper)))))
      ∙ sym (run_xor g 0 (take n l) (drop n l) (lower ∙ sym upper))

  -- what picks nothing of the lower part and all of the upper
  run_upper : (g : ℕ → ℕ → Bool) → ((i b : ℕ) → i < n → g i b ≡ false) → ((i b : ℕ) → i < n → g (n + i) b ≡ true)
      → parity g 0 l ≡ parity_of 8 (λ b. true) (byte_sum (drop n l))
  run_upper g none every =
      parts g
      ∙ ap₂ ◌⊕◌ (run_ext g (λ x y. false) 0 0 (take n l) (λ i b u. rw zero-add (none i b (omega (arith, lower)))) ∙ run_none 0 (take n l))
      (run_ext g (λ x y. true) n 0 (drop n l) (λ i b u. every i b (omega (arith, upper))) ∙ sym (sum_parity (λ b. true) 0 (drop n l)))

  -- one byte more, of the fold and of the upper part
  pub fold_more : (i : ℕ) → i < n → take (i + 1) (fold_at n l) ≡ take i (fold_at n l) ++ (bit_xor (get_or l i 0) (get_or l (n + i) 0) ∷ [])
  fold_more i h =
      rw (
        take_more (fold_at n l) i 0 (omega (arith, length_fold)),
        get_d_xor (take n l) (drop n l) i (lower ∙ sym upper),
        get_or-take n l i 0,
        get_or-drop n l i 0,
      )

  pub upper_more : (i : ℕ) → i < n → byte_sum (take (i + 1) (drop n l)) ≡ bit_xor (byte_sum (take i (drop n l))) (get_or l (n + i) 0)
  upper_more i h = rw (sum_more (drop n l) i (omega (arith, upper)), get_or-drop n l i 0)

pub ruleset folding = (sum_none, upper_more, fold_more, length_fold, common_steps)

-- ---- the line sum of a run of 2 ^ m bytes has m bits
line_short : (m : ℕ) (l : List ℕ) → m ≤ 8 → length l ≤ 2 ^ m → line_sum l ≡ number m (λ k. parity (λ x y. bit k x) 0 l)
unfolding line_sum
line_short m l h e =
    number_short 8 m _ h (λ k u.
    let w : 2 ^ m ≤ 2 ^ k = pow_mono u in
    run_ext (λ x y. bit k x) (λ x y. false) 0 0 l (λ i b v. bit_above k (0 + i) (omega arith)) ∙ run_none 0 l)

line_lt : (m : ℕ) (l : List ℕ) → m ≤ 8 → length l ≤ 2 ^ m → line_sum l < 2 ^ m
line_lt m l h e = rw (line_short m l h e) (number_lt m (λ k. parity (λ x y. bit k x) 0 l))

pub quarter_lt : (l : List ℕ) → length l ≤ 64 → line_sum l < 64
quarter_lt l e = line_lt 6 l (omega arith) e

once : (t : Bool) (n : ℕ) → cond t n 0 ≡ cond t 1 0 * n
once true n = sym (one-mul n)
once false n = omega arith

-- the line sum is the fold's, and one bit above it
pub line_fold : (m : ℕ) (l : List ℕ) → m < 8 → length l ≡ 2 ^ m + 2 ^ m
    → line_sum l ≡ line_sum (fold_at (2 ^ m) l) + parity_bit (byte_sum (drop (2 ^ m) l)) * 2 ^ m
unfolding number bit
line_fold m l h e =
    line_short (suc m) l h (omega (arith, pow-suc 2 m))
    ∙ ap₂ (λ (n : ℕ) (t : Bool). n + cond t (2 ^ m) 0)
    (number_ext m _ _ (λ k u. run_fold (2 ^ m) l e (λ x y. bit k x) (λ i b w. under k i u))
    ∙ sym (line_short m (fold_at (2 ^ m) l) (omega arith) (omega (arith, length_fold (2 ^ m) l e))))
    (run_upper (2 ^ m) l e (λ x y. bit m x) (λ i b w. bit_above m i w) (λ i b w. top i w))
    ∙ ap (λ (n : ℕ). line_sum (fold_at (2 ^ m) l) + n) (once (parity_of 8 (λ b. true) (byte_sum (drop (2 ^ m) l))) (2 ^ m))
  where
    under : (k i : ℕ) → k < m → bit k (2 ^ m + i) ≡ bit k i
    under k i u = sym (bit_mod m k (2 ^ m + i) u) ∙ ap (bit k) (add-mod_left (2 ^ m) i) ∙ bit_mod m k i u

    top : (i : ℕ) → i < 2 ^ m → bit m (2 ^ m + i) ≡ true
    top i w = ap (λ (n : ℕ). eqb (n % 2) 1) (add-div_left i (pow_pos m) ∙ ap (λ (n : ℕ). n + 1) (div-eq_of_lt w))

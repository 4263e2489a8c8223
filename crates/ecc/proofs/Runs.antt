-- Laws of `parity`, by induction on the run: it is linear in the bytes and in what picks their bits, and goes by what is picked in the run
-- alone.
-- Assumes nothing.
use mathlib.Core.Path.{◌≡◌, refl, ◌∙◌, ap, ap₂, sym, fun_ext}
use mathlib.Core.Bool.{Bool, false}
use mathlib.Core.List.{List, [], ◌∷◌, ◌++◌}
use Prim.Native.Nat.{ℕ, zero, suc, ◌+◌, ◌<◌}
use native.Mathlib.Nat.{add-zero, add-suc, suc-add, le_of_suc-le-suc, not-suc-le-zero}
use native.Mathlib.Omega.{arith}
use lib.Bits.{bit_xor}
use lib.ListN.{length, get_or, set}
use Rattle.bits.specs.Bits.{◌⊕◌, parity_of}
use Rattle.bits.specs.Bytes.{xor_bytes}
use Rattle.bits.proofs.Parity.{parity_xor, parity_both, parity_none}
use Rattle.bits.proofs.Sums.{⊕_assoc, ⊕_swap, ⊕_last}
use Rattle.ecc.specs.Half.{parity}

-- where two pickings, each from an address of its own, agree on the run
pub run_ext : (f g : ℕ → ℕ → Bool) (a c : ℕ) (l : List ℕ) → ((i b : ℕ) → i < length l → f (a + i) b ≡ g (c + i) b) → parity f a l ≡ parity g c l
unfolding parity
run_ext f g a c [] h = refl
run_ext f g a c (v ∷ l) h =
    ap₂ ◌⊕◌ (ap (λ (p : ℕ → Bool). parity_of 8 p v) (fun_ext (λ b. simp add-zero at (h 0 b (omega arith)))))
    (run_ext f g (suc a) (suc c) l (λ i b u. simp (suc-add, ← add-suc) (h (suc i) b (omega arith))))

pub run_none : (a : ℕ) (l : List ℕ) → parity (λ x y. false) a l ≡ false
unfolding parity
run_none a [] = refl
run_none a (v ∷ l) = ap₂ ◌⊕◌ (parity_none 8 v) (run_none (suc a) l)

pub run_both : (f g : ℕ → ℕ → Bool) (a : ℕ) (l : List ℕ) → parity (λ x y. f x y ⊕ g x y) a l ≡ (parity f a l ⊕ parity g a l)
unfolding parity
run_both f g a [] = refl
run_both f g a (v ∷ l) =
    ap₂ ◌⊕◌ (parity_both 8 (f a) (g a) v) (run_both f g (suc a) l)
    ∙ ⊕_swap (parity_of 8 (f a) v) (parity_of 8 (g a) v) (parity f (suc a) l) (parity g (suc a) l)

module _ (g : ℕ → ℕ → Bool) where
  pub run_xor : (a : ℕ) (x y : List ℕ) → length x ≡ length y → parity g a (xor_bytes x y) ≡ (parity g a x ⊕ parity g a y)
  unfolding parity xor_bytes
  run_xor a [] [] e = refl
  run_xor a [] (v ∷ y) e = absurd (omega arith)
  run_xor a (u ∷ x) [] e = absurd (omega arith)
  run_xor a (u ∷ x) (v ∷ y) e =
      ap₂ ◌⊕◌ (parity_xor 8 (g a) u v) (run_xor (suc a) x y (omega arith))
      ∙ ⊕_swap (parity_of 8 (g a) u) (parity_of 8 (g a) v) (parity g (suc a) x) (parity g (suc a) y)

  pub run_append : (a : ℕ) (l m : List ℕ) → parity g a (l ++ m) ≡ (parity g a l ⊕ parity g (a + length l) m)
  unfolding parity
  run_append a [] m = ap (λ (i : ℕ). parity g i m) (sym (add-zero a))
  run_append a (v ∷ l) m =
      ap (λ (t : Bool). parity_of 8 (g a) v ⊕ t) (simp (suc-add, ← add-suc) at (run_append (suc a) l m))
      ∙ sym (⊕_assoc (parity_of 8 (g a) v) (parity g (suc a) l) (parity g (a + length (v ∷ l)) m))

  -- with the byte at place i changed by w
  pub run_set : (a : ℕ) (l : List ℕ) (i w : ℕ) → i < length l
      → parity g a (set l i (bit_xor (get_or l i 0) w)) ≡ (parity g a l ⊕ parity_of 8 (g (a + i)) w)
  unfolding parity
  run_set a [] i w h = absurd (not-suc-le-zero h)
  run_set a (v ∷ l) zero w h =
      rw (parity_xor 8 (g a) v w, add-zero a) (⊕_last (parity_of 8 (g a) v) (parity_of 8 (g a) w) (parity g (suc a) l))
  run_set a (v ∷ l) (suc i) w h =
      rw (run_set (suc a) l i w (le_of_suc-le-suc h), suc-add a i, ← add-suc a i)
      (sym (⊕_assoc (parity_of 8 (g a) v) (parity g (suc a) l) (parity_of 8 (g (a + suc i)) w)))

-- Laws of a test of two lists that goes byte by byte: it goes part by part, and a loop may gather the bytes' differences by OR.
-- Assumes nothing.
use mathlib.Core.Bool.{Bool, true, false, ◌&&◌}
use mathlib.Core.List.{List, [], ◌∷◌, ◌++◌}
use mathlib.Core.Path.{◌≡◌, refl, sym, ◌∙◌, ap, ap₂}
use Prim.Native.Nat.{ℕ, zero, suc, ◌+◌, ◌-◌, ◌<◌, ◌≤◌}
use native.Mathlib.Numerals.{add-one}
use native.Mathlib.Omega.{arith}
use borrow.Author.Tests.{eq-eqb, ne_eqb, eqb-true, eqb-false}
use lib.Bits.{bit_or, bit_xor, or_add_and, and_le_l, and_le_r, xor_add_and, xor_self}
use lib.Dec.{eqb, eqb-suc-zero}
use lib.ListN.{length, get_or, take, drop, length-take, length-drop, take-append-drop}
use lib.Seq.{take-suc, take-length, drop-drop, drop-length}

-- an OR is 0 where both are
or_le : (a b : ℕ) → a ≤ bit_or a b
or_le a b = omega (arith, or_add_and a b, and_le_r a b)

or_nothing : (a b : ℕ) → eqb (bit_or a b) 0 ≡ (eqb a 0 && eqb b 0)
or_nothing zero b = refl
or_nothing (suc a) b =
    let h : suc a ≤ bit_or (suc a) b = or_le (suc a) b in
    ne_eqb (bit_or (suc a) b) 0 (λ e. omega (arith, h)) ∙ ap (λ (f : Bool). f && eqb b 0) (sym (eqb-suc-zero a))

-- a XOR is 0 where the two are equal
xor_equal : (a b : ℕ) → bit_xor a b ≡ 0 → a ≡ b
xor_equal a b e = omega (arith, xor_add_and a b, and_le_l a b, and_le_r a b)

xor_nothing_by : (a b : ℕ) (t : Bool) → eqb a b ≡ t → eqb (bit_xor a b) 0 ≡ t
xor_nothing_by a b true e = eq-eqb (bit_xor a b) 0 (rw (eqb-true a b e) (xor_self b))
xor_nothing_by a b false e = ne_eqb (bit_xor a b) 0 (λ z. eqb-false a b e (xor_equal a b z))

xor_nothing : (a b : ℕ) → eqb (bit_xor a b) 0 ≡ eqb a b
xor_nothing a b = xor_nothing_by a b (eqb a b) refl

and_assoc : (a b c : Bool) → (a && (b && c)) ≡ ((a && b) && c)
and_assoc true b c = refl
and_assoc false b c = refl

and_true : (a : Bool) → (a && true) ≡ a
and_true true = refl
and_true false = refl

pub and_false : (a : Bool) → (a && false) ≡ false
and_false true = refl
and_false false = refl

-- test t of two lists is test e of each pair of bytes
module _ (t : List ℕ → List ℕ → Bool) (e : ℕ → ℕ → Bool) (none : t [] [] ≡ true)
    (more : (u : ℕ) (x : List ℕ) (v : ℕ) (y : List ℕ) → t (u ∷ x) (v ∷ y) ≡ (e u v && t x y)) where
  by_parts : (x x' y y' : List ℕ) → length x ≡ length y → t (x ++ x') (y ++ y') ≡ (t x y && t x' y')
  by_parts [] x' [] y' h = rw none
  by_parts [] x' (v ∷ y) y' h = absurd (omega arith)
  by_parts (u ∷ x) x' [] y' h = absurd (omega arith)
  by_parts (u ∷ x) x' (v ∷ y) y' h =
      more u (x ++ x') v (y ++ y') ∙ ap (λ (b : Bool). e u v && b) (by_parts x x' y y' (omega arith))
      ∙ and_assoc (e u v) (t x y) (t x' y') ∙ ap (λ (b : Bool). b && t x' y') (sym (more u x v y))

  -- after i turns what is gathered is 0 where the first i bytes pass
  pub gather_turn : (x y : List ℕ) (i d p q : ℕ) → i < length x → length x ≡ length y → eqb d 0 ≡ t (take i x) (take i y)
      → eqb p q ≡ e (get_or x i 0) (get_or y i 0) → eqb (bit_or d (bit_xor p q)) 0 ≡ t (take (i + 1) x) (take (i + 1) y)
  gather_turn x y i d p q h l before this =
      or_nothing d (bit_xor p q) ∙ ap₂ ◌&&◌ before (xor_nothing p q ∙ this ∙ sym (more (get_or x i 0) [] (get_or y i 0) [] ∙ rw none (and_true _)))
      ∙ sym (by_parts (take i x) (get_or x i 0 ∷ []) (take i y) (get_or y i 0 ∷ []) (simp length-take (omega arith)))
      ∙ rw (add-one, take-suc x i 0 h, take-suc y i 0 (omega arith))

  pub gather_end : (x y : List ℕ) (i d : ℕ) → i ≡ length x → length x ≡ length y → eqb d 0 ≡ t (take i x) (take i y) → eqb d 0 ≡ t x y
  gather_end x y i d h l before =
      let hy : i ≡ length y = omega arith in
      before ∙ ap₂ t (ap (λ (n : ℕ). take n x) h ∙ take-length x) (ap (λ (n : ℕ). take n y) hy ∙ take-length y)

  -- a part, and what is after it
  part_first : (x y : List ℕ) (at end : ℕ) → at ≤ end → end ≤ length x → end ≤ length y
      → t (drop at x) (drop at y) ≡ (t (take (end - at) (drop at x)) (take (end - at) (drop at y)) && t (drop end x) (drop end y))
  part_first x y at end h hx hy =
      let n : ℕ = end - at in
      let after : at + n ≡ end = omega arith in
      let rest : (l : List ℕ) → drop n (drop at l) ≡ drop end l = λ l. drop-drop n at l ∙ ap (λ (k : ℕ). drop k l) after in
      ap₂ t (sym (take-append-drop n (drop at x))) (sym (take-append-drop n (drop at y)))
      ∙ by_parts (take n (drop at x)) (drop n (drop at x)) (take n (drop at y)) (drop n (drop at y))
      (simp (length-take, length-drop) (omega arith))
      ∙ ap₂ (λ (v w : List ℕ). t (take n (drop at x)) (take n (drop at y)) && t v w) (rest x) (rest y)

  -- a turn by parts: the test of the whole is that of a part, and of what is after it
  pub part_turn : (x y : List ℕ) (at end : ℕ) → at ≤ end → end ≤ length x → end ≤ length y → (f : Bool)
      → f ≡ t (take (end - at) (drop at x)) (take (end - at) (drop at y)) → t x y ≡ t (drop at x) (drop at y)
      → t x y ≡ (f && t (drop end x) (drop end y))
  part_turn x y at end h hx hy f q p = p ∙ part_first x y at end h hx hy ∙ ap (λ (b : Bool). b && t (drop end x) (drop end y)) (sym q)

  -- the last part
  pub part_end : (x y : List ℕ) (at : ℕ) → at ≤ length x → length x ≤ length y → t [] (drop (length x) y) ≡ true → (f : Bool)
      → f ≡ t (take (length x - at) (drop at x)) (take (length x - at) (drop at y)) → t x y ≡ t (drop at x) (drop at y) → f ≡ t x y
  part_end x y at h l z f q p =
      sym (part_turn x y at (length x) h (omega arith) l f q p ∙ rw (drop-length x, z) (and_true f))

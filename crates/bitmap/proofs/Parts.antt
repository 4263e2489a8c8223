-- Laws of `no_difference`: it goes part by part, and a loop may gather the differences by OR.
-- Assumes nothing.
use mathlib.Core.Bool.{Bool, ◌&&◌}
use mathlib.Core.List.{List, [], ◌∷◌}
use mathlib.Core.Logic.{◌⊎◌, inl, inr}
use mathlib.Core.Path.{◌≡◌, refl}
use Prim.Native.Nat.{ℕ, zero, suc, ◌*◌, ◌≤◌}
use native.Mathlib.Omega.{arith}
use lib.Bits.{bit_or, bit_xor, or_add_and, xor_add_and, xor_self, and_le_l, and_le_r}
use lib.Dec.{eqb}
use lib.ListN.{length, take, drop}
use Rattle.std.proofs.lemmas.Bool.Decides.{nat_tests}
use Rattle.std.proofs.lemmas.Grind.{common_steps}
use Rattle.std.specs.List.{list_all, zip}
use Rattle.std.specs.Simd.{first_chunks}
use Rattle.bbt.specs.Entries.{updated_byte, updated_bytes}
use Rattle.bbt.specs.Pairs.{same}
use Rattle.bitmap.specs.Made.{no_difference, new_equals_old}

or_nothing : (a b : ℕ) → eqb (bit_or a b) 0 ≡ (eqb a 0 && eqb b 0)
or_nothing a b = grind (arith, nat_tests, or_add_and a b, and_le_l a b, and_le_r a b)

pub gathered : (d r : ℕ) (rest whole : Bool) → (eqb d 0 && (eqb r 0 && rest)) ≡ whole → (eqb (bit_or d r) 0 && rest) ≡ whole
gathered d r rest whole e = grind (arith, nat_tests, common_steps, or_nothing d r)

-- of a list that is done, and any other
pub zip_done : {X : Type 0} (x y : List X) → (length x ≡ 0) ⊎ (length y ≡ 0) → zip x y ≡ []
zip_done [] y h = refl
zip_done (u ∷ x) [] h = refl
zip_done (u ∷ x) (v ∷ y) (inl e) = absurd (omega arith)
zip_done (u ∷ x) (v ∷ y) (inr e) = absurd (omega arith)

module _ (f : ℕ → ℕ → ℕ) where
  parted : (n : ℕ) (x y : List ℕ) → no_difference f x y ≡ (no_difference f (take n x) (take n y) && no_difference f (drop n x) (drop n y))
  parted zero x y = refl
  parted (suc n) [] y = refl
  parted (suc n) (u ∷ x) [] = grind (arith, common_steps, zip_done (drop n x) [] (inr refl))
  parted (suc n) (u ∷ x) (v ∷ y) = grind (arith, common_steps, parted n x y)

  pub by_chunks : (n c : ℕ) (x y : List ℕ)
      → (list_all (λ (u, v). no_difference f u v) (zip (first_chunks n c x) (first_chunks n c y)) && no_difference f (drop (c * n) x) (drop (c * n) y)) ≡ no_difference f x y
  by_chunks n zero x y = grind (arith, common_steps)
  by_chunks n (suc c) x y = grind (arith, common_steps, by_chunks n c (drop n x) (drop n y), parted n x y)

xor_nothing : (a b : ℕ) → eqb (bit_xor a b) 0 ≡ eqb a b
xor_nothing a b = grind (arith, nat_tests, xor_add_and a b, and_le_l a b, and_le_r a b, xor_self a)

pub same_none : (a b : List ℕ) → length a ≡ length b → same a b ≡ no_difference bit_xor a b
unfolding same
same_none [] [] h = refl
same_none [] (v ∷ b) h = absurd (omega arith)
same_none (u ∷ a) [] h = absurd (omega arith)
same_none (u ∷ a) (v ∷ b) h = grind (arith, common_steps, xor_nothing u v, same_none a b)

pub kept_none : (o w : List ℕ) → length o ≤ length w → new_equals_old o w ≡ no_difference (λ u v. bit_xor (updated_byte u v) u) o (take (length o) w)
unfolding new_equals_old updated_bytes same
kept_none [] w h = refl
kept_none (u ∷ o) [] h = absurd (omega arith)
kept_none (u ∷ o) (v ∷ w) h = grind (arith, common_steps, xor_nothing (updated_byte u v) u, kept_none o w)

-- The laws of looking a tag up, by computed tests.
-- Assumes nothing.
use mathlib.Core.Bool.{Bool, true, false, cond, false≢true}
use mathlib.Core.Path.{◌≡◌, refl, ◌∙◌, ap, sym}
use Prim.Native.Nat.{ℕ, ◌<◌, ◌≤◌}
use native.Mathlib.Omega.{arith}
use borrow.Author.Tests.{eqb-true, ltb-false, ltb-true, ne_eqb}
use lib.Count.{ones, ones_in}
use lib.Dec.{eqb, leb, ltb}
use Rattle.bits.proofs.Computed.{below, same, same→eq}
use Rattle.std.specs.Prelude.{List, Option, Some, None}
use Rattle.std.specs.List.{find}
use Rattle.std.specs.Option.{option_eq}
use Rattle.std.proofs.lemmas.List.Recursion.{same_from_clauses}
use Rattle.spare.specs.Tags.{tags, distance, nearest, is_in}

-- the nearest tag is the first that is at most one bit away
pub nearest_found : (ts : List ℕ) (b : ℕ) → nearest ts b ≡ find (λ t. leb (distance t b) 1) ts
nearest_found ts b = same_from_clauses (λ ts. nearest ts b) (find (λ t. leb (distance t b) 1)) (λ t r. cond (leb (distance t b) 1) (Some t) r) (unfold nearest in refl) (λ t ts. unfold nearest in refl) (λ t ts. refl) ts

-- a byte is one of the tags where the nearest tag is the byte itself
pub in_nearest : (t : ℕ) → t < 256 → is_in tags t ≡ option_eq eqb (nearest tags t) (Some t)
unfolding is_in nearest ones ones_in
in_nearest t h = same→eq _ _ (below (λ t. same (is_in tags t) (option_eq eqb (nearest tags t) (Some t))) 256 tt t h)

pub in_byte : (t : ℕ) → 256 ≤ t → is_in tags t ≡ false
unfolding is_in
in_byte t h =
    simp (
      ne_eqb 0xFF t (λ e. omega arith),
      ne_eqb 0x67 t (λ e. omega arith),
      ne_eqb 0x06 t (λ e. omega arith),
      ne_eqb 0x79 t (λ e. omega arith),
      ne_eqb 0x18 t (λ e. omega arith),
      ne_eqb 0x1F t (λ e. omega arith),
      ne_eqb 0x01 t (λ e. omega arith),
    )

pub found_itself : (t : ℕ) (n : Option ℕ) → option_eq eqb n (Some t) ≡ true → n ≡ Some t
found_itself t (Some u) p = ap Some (eqb-true u t p)
found_itself t None p = absurd (false≢true p)

pub itself : (t : ℕ) → is_in tags t ≡ true → nearest tags t ≡ Some t
itself t e = go (ltb t 256) refl
  where
    go : (b : Bool) → ltb t 256 ≡ b → nearest tags t ≡ Some t
    go true p = found_itself t (nearest tags t) (sym (in_nearest t (ltb-true t 256 p)) ∙ e)
    go false p = absurd (false≢true (sym (in_byte t (ltb-false t 256 p)) ∙ e))

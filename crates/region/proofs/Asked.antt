-- What code asks is what the rules ask: two kinds by `==`, and each byte of a list or each number below n by `all`.
-- Assumes nothing.
use mathlib.Core.Bool.{Bool, true, ◌&&◌, and-true, and_assoc}
use mathlib.Core.List.{List, [], ◌∷◌}
use mathlib.Core.Path.{◌≡◌, refl, sym, ap, ◌∙◌}
use Prim.Native.Nat.{ℕ, zero, suc, ◌+◌, ◌≤◌}
use native.Mathlib.Omega.{arith}
use borrow.Author.Tests.{eqb-true}
use denote.Enum.Bare.{sameb}
use lib.Dec.{eqb}
use lib.ListN.{length, take, drop, get_or, length-take, length-drop}
use lib.Seq.{get_or-take, get_or-drop}
use Rattle.std.specs.List.{list_all, range_with_len}
use Rattle.std.proofs.Common.{zero-add}
use Rattle.std.proofs.lemmas.List.FromFn.{length-range_with_len, get_or-range_with_len}
use Rattle.bbt.specs.Pages.{all, same_kind, zero_oob}
use Rattle.bbt.specs.contracts.Kind.{the_type}
use Rattle.bbt.specs.declared.Kind.{Kind}
use Rattle.bbt.proofs.Searches.{all_at, all_cong}

pub kind_eq : (k j : Kind) → sameb the_type k j ≡ same_kind k j
unfolding same_kind
kind_eq k j = grind arith

all_first : (n : ℕ) (f : ℕ → Bool) → all (suc n) f ≡ (f 0 && all n (λ i. f (suc i)))
unfolding all
all_first zero f = sym (and-true (f 0))
all_first (suc n) f = ap (λ (t : Bool). t && f (suc n)) (all_first n f) ∙ and_assoc (f 0) (all n (λ i. f (suc i))) (f (suc n))

-- of every byte of a list
pub all_bytes : (f : ℕ → Bool) (l : List ℕ) → list_all f l ≡ all (length l) (λ i. f (get_or l i 0))
unfolding all
all_bytes f [] = refl
all_bytes f (x ∷ xs) = ap (λ (t : Bool). f x && t) (all_bytes f xs) ∙ sym (all_first (length xs) (λ i. f (get_or (x ∷ xs) i 0)))

-- of its n bytes from byte a on
pub all_part : (f : ℕ → Bool) (a n : ℕ) (l : List ℕ) → a + n ≤ length l → list_all f (take n (drop a l)) ≡ all n (λ i. f (get_or l (a + i) 0))
all_part f a n l h =
    let e : length (take n (drop a l)) ≡ n = simp (length-take, length-drop) (omega arith) in
    all_bytes f (take n (drop a l))
    ∙ ap (λ (k : ℕ). all k (λ i. f (get_or (take n (drop a l)) i 0))) e
    ∙ all_cong n _ _ (λ i b. ap f (get_or-take n (drop a l) i 0 b ∙ get_or-drop a l i 0))

-- of the numbers below n
pub all_range : (f : ℕ → Bool) (n : ℕ) → list_all f (range_with_len 0 n) ≡ all n f
all_range f n =
    all_bytes f (range_with_len 0 n)
    ∙ ap (λ (k : ℕ). all k (λ i. f (get_or (range_with_len 0 n) i 0))) (length-range_with_len 0 n)
    ∙ all_cong n _ _ (λ i b. ap f (get_or-range_with_len 0 n i 0 b ∙ zero-add i))

-- 64 zero OOB bytes begin with one
pub zero_first : (l : List ℕ) → zero_oob l ≡ true → get_or l 2048 0 ≡ 0
unfolding zero_oob
zero_first l h = eqb-true (get_or l 2048 0) 0 (all_at 64 (λ j. eqb (get_or l (2048 + j) 0) 0) h 0 (omega arith))

-- A rule proved at every number below a bound, by one test or one table that antt computes.
-- Assumes nothing.
use mathlib.Core.Path.{◌≡◌, refl, ◌∙◌, ap, subst, sym}
use mathlib.Core.Bool.{Bool, true, false, not, ◌&&◌}
use mathlib.Core.List.{List, [], ◌∷◌}
use Prim.Native.Nat.{ℕ, zero, suc, ◌+◌, ◌<◌}
use native.Mathlib.Nat.{add-zero, zero-add, add-suc, suc-add, le_of_suc-le-suc, not-suc-le-zero}
use lib.Dec.{T}
use lib.ListN.{get_or}
use Rattle.bits.specs.Bits.{◌⊕◌}

-- the table of f from i on, n entries
abbrev pub table : (ℕ → ℕ) → ℕ → ℕ → List ℕ
table f i zero = []
table f i (suc n) = f i ∷ table f (suc i) n

table_from : (f : ℕ → ℕ) (n i k : ℕ) → k < n → get_or (table f i n) k 0 ≡ f (i + k)
table_from f zero i k h = absurd (not-suc-le-zero h)
table_from f (suc n) i zero h = ap f (sym (add-zero i))
table_from f (suc n) i (suc k) h = table_from f n (suc i) k (le_of_suc-le-suc h) ∙ ap f (suc-add i k ∙ sym (add-suc i k))

pub at : (f : ℕ → ℕ) (n k : ℕ) → k < n → get_or (table f 0 n) k 0 ≡ f k
at f n k h = table_from f n 0 k h ∙ ap f (zero-add k)

-- either part of a test of two
pub left : (a b : Bool) → T (a && b) → T a
left true b t = tt
left false b t = t

pub right : (a b : Bool) → T (a && b) → T b
right true b t = t
right false b t = absurd t

pub true_of : (a : Bool) → T a → a ≡ true
true_of true t = refl
true_of false t = absurd t

-- f passes at each number from i on, n of them
abbrev pub all : (ℕ → Bool) → ℕ → ℕ → Bool
all f i zero = true
all f i (suc n) = f i && all f (suc i) n

all_from : (f : ℕ → Bool) (n i : ℕ) → T (all f i n) → (k : ℕ) → k < n → T (f (i + k))
all_from f zero i t k h = absurd (not-suc-le-zero h)
all_from f (suc n) i t zero h = subst (λ (m : ℕ). T (f m)) (sym (add-zero i)) (left (f i) (all f (suc i) n) t)
all_from f (suc n) i t (suc k) h =
    subst (λ (m : ℕ). T (f m)) (suc-add i k ∙ sym (add-suc i k))
    (all_from f n (suc i) (right (f i) (all f (suc i) n) t) k (le_of_suc-le-suc h))

pub below : (f : ℕ → Bool) (n : ℕ) → T (all f 0 n) → (k : ℕ) → k < n → T (f k)
below f n t k h = subst (λ (m : ℕ). T (f m)) (zero-add k) (all_from f n 0 t k h)

-- P at each number from i on, n of them
abbrev pub Each : (ℕ → Type 0) → ℕ → ℕ → Type 0
Each P i zero = Unit {0}
Each P i (suc n) = P i × Each P (suc i) n

each_from : (P : ℕ → Type 0) (n i : ℕ) → Each P i n → (k : ℕ) → k < n → P (i + k)
each_from P zero i t k h = absurd (not-suc-le-zero h)
each_from P (suc n) i t zero h = subst P (sym (add-zero i)) t.0
each_from P (suc n) i t (suc k) h = subst P (suc-add i k ∙ sym (add-suc i k)) (each_from P n (suc i) t.1 k (le_of_suc-le-suc h))

pub each : (P : ℕ → Type 0) (n : ℕ) → Each P 0 n → (k : ℕ) → k < n → P k
each P n t k h = subst P (zero-add k) (each_from P n 0 t k h)

-- a test that two bits are the same
abbrev pub same : Bool → Bool → Bool
same a b = not (a ⊕ b)

pub same→eq : (a b : Bool) → T (same a b) → a ≡ b
same→eq true true t = refl
same→eq true false t = absurd t
same→eq false true t = absurd t
same→eq false false t = refl

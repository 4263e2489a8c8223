-- Laws of what is asked of each number below n (`all`, `find`, `highest`, `parts`): the turn to n + 1, what an answer says, and that
-- functions which agree below n have one answer. Then laws of `same`.
-- Assumes nothing.
use mathlib.Core.Bool.{Bool, true, false, ◌&&◌, cond, and_assoc, true≢false, false≢true}
use mathlib.Core.List.{List, [], ◌∷◌, ◌++◌}
use mathlib.Core.Logic.{◌⊎◌, inl, inr, ◌≢◌}
use mathlib.Core.Option.{Option, some}
use mathlib.Core.Path.{◌≡◌, refl, sym, ap, ap₂, ◌∙◌}
use Prim.Native.Nat.{ℕ, zero, suc, ◌+◌, ◌<◌}
use native.Mathlib.Nat.{eq-or-lt_of_le}
use native.Mathlib.Numerals.{add-one}
use native.Mathlib.Omega.{arith}
use borrow.Author.Tests.{eqb-true, eq-eqb}
use lib.Dec.{eqb}
use lib.ListN.{length}
use Rattle.bits.proofs.Both.{both_left, both_right, both_intro}
use Rattle.bbt.specs.Copies.{parts, page_part, Found, nowhere, only, several, also, find, highest}
use Rattle.bbt.specs.Pages.{all, Page}
use Rattle.bbt.specs.Pairs.{same}

-- what `cc` makes of two values by different constructors
pub no_confusion : ◌≡◌ {A = ℕ} 0 1 → ⊥
no_confusion e = omega arith

-- a number below suc n is n or below n
pub below_suc : {i n : ℕ} → i < suc n → (i ≡ n) ⊎ (i < n)
below_suc {i} {n} h = go (eq-or-lt_of_le h)
  where
    go : (suc i ≡ suc n) ⊎ (suc i < suc n) → (i ≡ n) ⊎ (i < n)
    go (inl e) = inl (omega arith)
    go (inr l) = inr (omega arith)

-- ---- all
pub all_next : (n : ℕ) (f : ℕ → Bool) → all (n + 1) f ≡ (all n f && f n)
unfolding all
all_next n f = rw add-one

pub all_intro : (n : ℕ) (f : ℕ → Bool) → ((i : ℕ) → i < n → f i ≡ true) → all n f ≡ true
unfolding all
all_intro zero f h = refl
all_intro (suc n) f h = both_intro (all n f) (f n) (all_intro n f (λ i l. h i (omega arith))) (h n (omega arith))

pub all_at : (n : ℕ) (f : ℕ → Bool) → all n f ≡ true → (i : ℕ) → i < n → f i ≡ true
unfolding all
all_at zero f e i l = absurd (omega arith)
all_at (suc n) f e i l =
    elim (below_suc l) [ inl q ↦ rw q (both_right (all n f) (f n) e) | inr q ↦ all_at n f (both_left (all n f) (f n) e) i q ]

pub all_not : (n : ℕ) (f : ℕ → Bool) (i : ℕ) → i < n → f i ≡ false → all n f ≡ false
all_not n f i l e = go (all n f) refl
  where
    go : (t : Bool) → all n f ≡ t → t ≡ false
    go true a = absurd (true≢false (sym (all_at n f a i l) ∙ e))
    go false a = refl

pub all_cong : (n : ℕ) (f g : ℕ → Bool) → ((i : ℕ) → i < n → f i ≡ g i) → all n f ≡ all n g
unfolding all
all_cong zero f g h = refl
all_cong (suc n) f g h = ap₂ ◌&&◌ (all_cong n f g (λ i l. h i (omega arith))) (h n (omega arith))

-- one of two holds at every number below n: the first throughout, or the second somewhere
pub all_or_some : (n : ℕ) (A B : ℕ → Type 0) → ((i : ℕ) → i < n → A i ⊎ B i) → ((i : ℕ) → i < n → A i) ⊎ ((i : ℕ) × (i < n) × B i)
all_or_some zero A B h = inl (λ i l. absurd (omega arith))
all_or_some (suc n) A B h = go (all_or_some n A B (λ i l. h i (omega arith))) (h n (omega arith))
  where
    go : ((i : ℕ) → i < n → A i) ⊎ ((i : ℕ) × (i < n) × B i) → A n ⊎ B n → ((i : ℕ) → i < suc n → A i) ⊎ ((i : ℕ) × (i < suc n) × B i)
    go (inl a) (inl x) = inl (λ i l. put i (below_suc l))
      where
        put : (i : ℕ) → (i ≡ n) ⊎ (i < n) → A i
        put i (inl e) = rw e x
        put i (inr l) = a i l
    go (inl a) (inr y) = inr (n, omega arith, y)
    go (inr s) y = inr (s.0, omega (arith, s.1), s.2)

-- ---- parts
pub parts_cong : (n : ℕ) (f g : ℕ → Page) → ((i : ℕ) → i < n → f i ≡ g i) → parts n f ≡ parts n g
unfolding parts
parts_cong zero f g h = refl
parts_cong (suc n) f g h = ap₂ (λ (l : List ℕ) (x : Page). l ++ page_part x) (parts_cong n f g (λ i l. h i (omega arith))) (h n (omega arith))

-- ---- find
pub find_next : (n : ℕ) (f : ℕ → Bool) → find (n + 1) f ≡ also (f n) n (find n f)
unfolding find
find_next n f = rw add-one

pub find_cong : (n : ℕ) (f g : ℕ → Bool) → ((i : ℕ) → i < n → f i ≡ g i) → find n f ≡ find n g
unfolding find
find_cong zero f g h = refl
find_cong (suc n) f g h = ap₂ (λ (t : Bool) (x : Found). also t n x) (h n (omega arith)) (find_cong n f g (λ i l. h i (omega arith)))

-- what a turn came from
also_nowhere : (t : Bool) (b : ℕ) (x : Found) → also t b x ≡ nowhere → (t ≡ false) × (x ≡ nowhere)
unfolding also
also_nowhere false b x e = (refl, e)
also_nowhere true b nowhere e = absurd (no_confusion (cc))
also_nowhere true b (only c) e = absurd (no_confusion (cc))
also_nowhere true b several e = absurd (no_confusion (cc))

also_only : (t : Bool) (b : ℕ) (x : Found) (c : ℕ) → also t b x ≡ only c → ((t ≡ false) × (x ≡ only c)) ⊎ ((t ≡ true) × (x ≡ nowhere) × (b ≡ c))
unfolding also
also_only false b x c e = inl (refl, e)
also_only true b nowhere c e = inr (refl, refl, cc)
also_only true b (only d) c e = absurd (no_confusion (cc))
also_only true b several c e = absurd (no_confusion (cc))

-- none passes
pub nowhere_find : (n : ℕ) (f : ℕ → Bool) → find n f ≡ nowhere → (i : ℕ) → i < n → f i ≡ false
unfolding find
nowhere_find zero f e i l = absurd (omega arith)
nowhere_find (suc n) f e i l =
    let h = also_nowhere (f n) n (find n f) e in
    elim (below_suc l) [ inl q ↦ rw q h.0 | inr q ↦ nowhere_find n f h.1 i q ]

-- b is the one number below n that passes
pub record Unique (n : ℕ) (f : ℕ → Bool) (b : ℕ) : Type 0 where
  pub inside : b < n
  pub passes : f b ≡ true
  pub no_other : (i : ℕ) → i < n → i ≢ b → f i ≡ false

pub only_find : (n : ℕ) (f : ℕ → Bool) (b : ℕ) → find n f ≡ only b → Unique n f b
unfolding find
only_find zero f b e = absurd (no_confusion (cc))
only_find (suc n) f b e = go (λ c. only_find n f b c) (also_only (f n) n (find n f) b e)
  where
    go : (find n f ≡ only b → Unique n f b) → ((f n ≡ false) × (find n f ≡ only b)) ⊎ ((f n ≡ true) × (find n f ≡ nowhere) × (n ≡ b))
        → Unique (suc n) f b
    go rec (inl h) =
        let u : Unique n f b = rec h.1 in
        record {
          inside = omega (arith, u.inside);
          passes = u.passes;
          no_other = λ i l d. elim (below_suc l) [ inl x ↦ rw x h.0 | inr x ↦ u.no_other i x d ];
        }
    go rec (inr h) =
        record {
          inside = omega (arith, h.2);
          passes = ap f (sym h.2) ∙ h.0;
          no_other = λ i l d. elim (below_suc l) [ inl x ↦ absurd (d (x ∙ h.2)) | inr x ↦ nowhere_find n f h.1 i x ];
        }

-- where none passes, none is found; where one passes and no other, it is
pub find_none : (n : ℕ) (f : ℕ → Bool) → ((i : ℕ) → i < n → f i ≡ false) → find n f ≡ nowhere
unfolding find also
find_none zero f h = refl
find_none (suc n) f h =
    let a : f n ≡ false = h n (omega arith) in
    let b : find n f ≡ nowhere = find_none n f (λ i l. h i (omega arith)) in
    rw (a, b)

pub find_only : (n : ℕ) (f : ℕ → Bool) (b : ℕ) → b < n → f b ≡ true → ((i : ℕ) → i < n → i ≢ b → f i ≡ false) → find n f ≡ only b
unfolding find also
find_only zero f b l e h = absurd (omega arith)
find_only (suc n) f b l e h = go (λ q. find_only n f b q e (λ i k. h i (omega arith))) (below_suc l)
  where
    go : (b < n → find n f ≡ only b) → (b ≡ n) ⊎ (b < n) → find (suc n) f ≡ only b
    go rec (inl q) =
        let a : f n ≡ true = rw (← q) e in
        let c : find n f ≡ nowhere = find_none n f (λ i k. h i (omega arith) (omega arith)) in
        rw (a, c, q)
    go rec (inr q) =
        let a : f n ≡ false = h n (omega arith) (omega arith) in
        let c : find n f ≡ only b = rec q in
        rw (a, c)

-- ---- highest
pub highest_next : (n : ℕ) (f : ℕ → Bool) → highest (n + 1) f ≡ cond (f n) (some n) (highest n f)
unfolding highest
highest_next n f = rw add-one

pub highest_cong : (n : ℕ) (f g : ℕ → Bool) → ((i : ℕ) → i < n → f i ≡ g i) → highest n f ≡ highest n g
unfolding highest
highest_cong zero f g h = refl
highest_cong (suc n) f g h = ap₂ (λ (t : Bool) (x : Option ℕ). cond t (some n) x) (h n (omega arith)) (highest_cong n f g (λ i l. h i (omega arith)))

-- b passes and is below n
pub record Passes (n : ℕ) (f : ℕ → Bool) (b : ℕ) : Type 0 where
  pub below : b < n
  pub passing : f b ≡ true

pub highest_is : (n : ℕ) (f : ℕ → Bool) (b : ℕ) → highest n f ≡ some b → Passes n f b
unfolding highest
highest_is zero f b e = absurd (no_confusion (cc))
highest_is (suc n) f b e = go (λ q. highest_is n f b q) (f n) refl
  where
    go : (highest n f ≡ some b → Passes n f b) → (t : Bool) → f n ≡ t → Passes (suc n) f b
    go rec true a =
        let z : some n ≡ some b = sym (rw a) ∙ e in
        let q : n ≡ b = cc in
        record { below = omega arith; passing = rw (← q) a }
    go rec false a = let r : Passes n f b = rec (sym (rw a) ∙ e) in record { below = omega (arith, r.below); passing = r.passing }

-- where one passes, there is a highest
pub highest_some : (n : ℕ) (f : ℕ → Bool) (b : ℕ) → b < n → f b ≡ true → (c : ℕ) × (highest n f ≡ some c)
unfolding highest
highest_some zero f b l e = absurd (omega arith)
highest_some (suc n) f b l e = go (λ q. highest_some n f b q e) (f n) refl (below_suc l)
  where
    go : (b < n → (c : ℕ) × (highest n f ≡ some c)) → (x : Bool) → f n ≡ x → (b ≡ n) ⊎ (b < n) → (c : ℕ) × (highest (suc n) f ≡ some c)
    go rec true a q = (n, rw a)
    go rec false a (inl q) = absurd (true≢false (sym e ∙ (ap f q ∙ a)))
    go rec false a (inr q) = let r = rec q in (r.0, rw a r.1)

-- ---- same
pub same_refl : (l : List ℕ) → same l l ≡ true
unfolding same
same_refl [] = refl
same_refl (x ∷ xs) = both_intro (eqb x x) (same xs xs) (eq-eqb x x refl) (same_refl xs)

pub same_eq : (l m : List ℕ) → same l m ≡ true → l ≡ m
unfolding same
same_eq [] [] e = refl
same_eq [] (y ∷ ys) e = absurd (false≢true e)
same_eq (x ∷ xs) [] e = absurd (false≢true e)
same_eq (x ∷ xs) (y ∷ ys) e = ap₂ ◌∷◌ (eqb-true x y (both_left (eqb x y) (same xs ys) e)) (same_eq xs ys (both_right (eqb x y) (same xs ys) e))

-- part by part
pub same_append : (a b c d : List ℕ) → length a ≡ length c → same (a ++ b) (c ++ d) ≡ (same a c && same b d)
unfolding same
same_append [] b [] d e = refl
same_append [] b (y ∷ c) d e = absurd (omega arith)
same_append (x ∷ a) b [] d e = absurd (omega arith)
same_append (x ∷ a) b (y ∷ c) d e = ap (λ (t : Bool). eqb x y && t) (same_append a b c d (omega arith)) ∙ sym (and_assoc (eqb x y) (same a c) (same b d))

-- Laws of the list that f builds, and of a loop that stores f i at each place i: after i turns the list is what f builds, and then what was
-- there. For any f.
-- Assumes nothing.
use mathlib.Core.Bool.{Bool, true, false}
use mathlib.Core.Path.{◌≡◌, refl, sym, ◌∙◌, ap}
use mathlib.Core.List.{List, [], ◌∷◌, ◌++◌, append-nil}
use Prim.Native.Nat.{ℕ, zero, suc, ◌+◌, ◌<◌}
use native.Mathlib.Numerals.{add-one}
use native.Mathlib.Omega.{arith}
use borrow.Author.Tests.{eq-eqb, eqb-true, eqb-false}
use lib.Dec.{eqb}
use lib.ListN.{length, get_or, drop, set, take, replicate, length-append, replicate-append-replicate, get_or-append}
use lib.Seq.{append_snoc, drop-cons, drop-length, get_or_at, set_at, take-length, take-suc}
use Rattle.bits.specs.Bytes.{build, copied}

pub length_build : (f : ℕ → ℕ) (n : ℕ) → length (build f n) ≡ n
unfolding build
length_build f zero = refl
length_build f (suc n) = length-append (build f n) (f n ∷ []) ∙ rw (length_build f n) (add-one n)

-- an element of what is built
pub get_d_build : (f : ℕ → ℕ) (n k : ℕ) → k < n → get_or (build f n) k 0 ≡ f k
unfolding build
get_d_build f zero k h = absurd (omega arith)
get_d_build f (suc n) k h = go (eqb k n) refl (get_d_build f n k)
  where
    go : (t : Bool) → eqb k n ≡ t → (k < n → get_or (build f n) k 0 ≡ f k) → get_or (build f n ++ (f n ∷ [])) k 0 ≡ f k
    go true e below = let same : k ≡ n = eqb-true k n e in rw same (get_or_at (build f n) (f n) [] 0 n (length_build f n))
    go false e below =
        let other : k ≡ n → ⊥ = eqb-false k n e in
        let h : k < n = omega arith in
        let built : length (build f n) ≡ n = length_build f n in
        get_or-append (build f n) (f n ∷ []) 0 k (omega arith) ∙ below h

-- the list after i turns
pub filled : (ℕ → ℕ) → ℕ → List ℕ → List ℕ
filled f i l = build f i ++ drop i l

pub fill_start : (f : ℕ → ℕ) (l : List ℕ) → filled f 0 l ≡ l
unfolding filled build
fill_start f l = refl

pub fill_turn : (f : ℕ → ℕ) (l : List ℕ) (i : ℕ) → i < length l → set (filled f i l) i (f i) ≡ filled f (i + 1) l
unfolding filled build
fill_turn f l i h =
    rw (add-one, drop-cons l i 0 h) (set_at (build f i) (get_or l i 0) (drop (suc i) l) (f i) i (length_build f i) ∙ sym (append_snoc (build f i) (f i) (drop (suc i) l)))

pub fill_end : (f : ℕ → ℕ) (l : List ℕ) → filled f (length l) l ≡ build f (length l)
unfolding filled
fill_end f l = rw drop-length (append-nil (build f (length l)))

-- a list is built from its own elements
build_take : (l : List ℕ) (n : ℕ) → n < suc (length l) → build (λ i. get_or l i 0) n ≡ take n l
unfolding build
build_take l zero h = refl
build_take l (suc n) h = rw (build_take l n (omega arith)) (sym (take-suc l n 0 (omega arith)))

pub build_self : (l : List ℕ) → build (λ i. get_or l i 0) (length l) ≡ l
build_self l = build_take l (length l) (omega arith) ∙ take-length l

-- what is built of one value
pub build_replicate : (a n : ℕ) → build (λ i. a) n ≡ replicate n a
unfolding build
build_replicate a zero = refl
build_replicate a (suc n) =
    ap (λ (l : List ℕ). l ++ (a ∷ [])) (build_replicate a n) ∙ replicate-append-replicate n 1 a ∙ ap (λ (k : ℕ). replicate k a) (add-one n)

-- a copy takes where the lengths are the same
pub copied_same : (from to : List ℕ) → length to ≡ length from → copied from to ≡ from
unfolding copied
copied_same from to e = simp (eq-eqb (length to) (length from) e)

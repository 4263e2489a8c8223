-- A list to which the numbers from 0 on bring one entry each or none, in their order: what number k brings stands behind all that was
-- brought before, and every entry was brought by one number.
-- Assumes nothing.
use mathlib.Core.List.{List, [], ◌∷◌, ◌++◌}
use mathlib.Core.Logic.{◌⊎◌, inl, inr}
use mathlib.Core.Path.{◌≡◌, refl, ap, ◌∙◌}
use Prim.Native.Nat.{ℕ, zero, suc, ◌+◌, ◌<◌, ◌≤◌}
use native.Mathlib.Nat.{eq-or-lt_of_le}
use native.Mathlib.Omega.{arith}
use lib.ListN.{length, get_or, length-append, get_or-append}
use Rattle.std.proofs.lemmas.Bool.{cases_lt}
use Rattle.std.proofs.lemmas.Grind.{common_steps}

module _ {A : Type 0} (f : ℕ → List A) (L : ℕ → List A) where
  -- L n holds what the numbers below n bring, by f
  pub record Gathers : Type 0 where
    pub start : L 0 ≡ []
    pub next : (n : ℕ) → L (suc n) ≡ L n ++ f n

  -- number k brings a, which stands in L n
  pub record Brought (d a : A) (k n : ℕ) : Type 0 where
    pub inside : length (L k) < length (L n)
    pub there : get_or (L n) (length (L k)) d ≡ a

  -- the number that brought what stands at place i
  pub record Source (d : A) (i n : ℕ) : Type 0 where
    pub number : ℕ
    pub below : number < n
    pub brings : f number ≡ get_or (L n) i d ∷ []
    pub place : length (L number) ≡ i

module _ {A : Type 0} {f : ℕ → List A} {L : ℕ → List A} (s : Gathers f L) where
  gathers_length : (n : ℕ) → length (L (suc n)) ≡ length (L n) + length (f n)
  gathers_length n = ap length (s.next n) ∙ length-append (L n) (f n)

  -- where each brings one, place and number are one
  pub gathers_full : (n : ℕ) → ((k : ℕ) → k < n → length (f k) ≡ 1) → length (L n) ≡ n
  gathers_full zero h = ap length s.start
  gathers_full (suc n) h = omega (arith, gathers_length n, gathers_full n (λ k l. h k (omega arith)), h n (omega arith))

  -- what stands further behind was brought by a higher number
  gathers_grows : (k n : ℕ) → k ≤ n → length (L k) ≤ length (L n)
  gathers_grows k zero h = let e : k ≡ 0 = omega arith in rw e (omega arith)
  gathers_grows k (suc n) h = grind (arith, eq-or-lt_of_le h, gathers_grows k n, gathers_length n)

  pub gathers_order : (k n : ℕ) → length (L k) < length (L n) → k < n
  gathers_order k n h = grind (arith, gathers_grows n k)

  -- what number k brings stands at the place that the numbers below it fill
  pub gathers_brought : (d a : A) (k n : ℕ) → k < n → f k ≡ a ∷ [] → Brought f L d a k n
  gathers_brought d a k zero h e = absurd (omega arith)
  gathers_brought d a k (suc n) h e =
      let rec : k < n → Brought f L d a k n = λ l. gathers_brought d a k n l e in
      record {
        inside = grind (arith, eq-or-lt_of_le h, gathers_grows k n, gathers_length n, ap length e);
        there = grind (arith, common_steps, eq-or-lt_of_le h, s.next n, e, λ (l : k < n). (rec l).inside, λ (l : k < n). (rec l).there);
      }

  -- and nothing else stands there: each place has its number
  pub gathers_source : (d : A) → ((k : ℕ) → length (f k) ≤ 1) → (i n : ℕ) → i < length (L n) → Source f L d i n
  gathers_source d most i zero h = absurd (omega (arith, ap length s.start))
  gathers_source d most i (suc n) h = go (gathers_source d most i n) (cases_lt i (length (L n))) (f n) refl
    where
      go : (i < length (L n) → Source f L d i n) → (i < length (L n)) ⊎ (length (L n) ≤ i) → (l : List A) → f n ≡ l → Source f L d i (suc n)
      go rec (inl l) m e =
          let o : Source f L d i n = rec l in
          record { number = o.number; below = omega (arith, o.below); brings = rw (s.next n, get_or-append (L n) (f n) d i l) o.brings; place = o.place }
      go rec (inr l) [] e = absurd (omega (arith, gathers_length n, ap length e))
      go rec (inr l) (a ∷ []) e =
          let p : length (L n) ≡ i = omega (arith, gathers_length n, ap length e) in
          let b : Brought f L d a n (suc n) = gathers_brought d a n (suc n) (omega arith) e in
          record { number = n; below = omega arith; brings = rw (← p, b.there) e; place = p }
      go rec (inr l) (a ∷ b ∷ m) e = absurd (omega (arith, most n, ap length e))

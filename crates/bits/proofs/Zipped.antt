-- Laws of two lists taken together byte by byte, for any f of two bytes: what a loop that stores f of the bytes at each place builds.
-- Assumes nothing.
use mathlib.Core.List.{List, [], ◌∷◌, ◌++◌}
use mathlib.Core.Path.{◌≡◌, refl, sym, ◌∙◌, ap, ap₂}
use Prim.Native.Nat.{ℕ, zero, suc, ◌<◌}
use native.Mathlib.Omega.{arith}
use lib.ListN.{length, get_or}
use Rattle.bits.specs.Bytes.{build}
use Rattle.bits.proofs.Filling.{build_self}

-- two builds of the same elements
pub build_same : (f g : ℕ → ℕ) (n : ℕ) → ((i : ℕ) → i < n → f i ≡ g i) → build f n ≡ build g n
unfolding build
build_same f g zero h = refl
build_same f g (suc n) h =
    ap₂ (λ (l : List ℕ) (x : ℕ). l ++ (x ∷ [])) (build_same f g n (λ i b. h i (omega arith))) (h n (omega arith))

-- f of the bytes at each place, to the end of the shorter list
module _ (f : ℕ → ℕ → ℕ) where
  abbrev pub zipped : List ℕ → List ℕ → List ℕ
  zipped [] ys = []
  zipped (x ∷ xs) [] = []
  zipped (x ∷ xs) (y ∷ ys) = f x y ∷ zipped xs ys

  pub length_zipped : (xs ys : List ℕ) → length xs ≡ length ys → length (zipped xs ys) ≡ length xs
  length_zipped [] ys h = refl
  length_zipped (x ∷ xs) [] h = absurd (omega arith)
  length_zipped (x ∷ xs) (y ∷ ys) h = ap suc (length_zipped xs ys (omega arith))

  pub get_d_zipped : (xs ys : List ℕ) (i : ℕ) → length xs ≡ length ys → i < length xs → get_or (zipped xs ys) i 0 ≡ f (get_or xs i 0) (get_or ys i 0)
  get_d_zipped [] ys i h b = absurd (omega arith)
  get_d_zipped (x ∷ xs) [] i h b = absurd (omega arith)
  get_d_zipped (x ∷ xs) (y ∷ ys) zero h b = refl
  get_d_zipped (x ∷ xs) (y ∷ ys) (suc i) h b = get_d_zipped xs ys i (omega arith) (omega arith)

  pub build_zipped : (xs ys : List ℕ) → length xs ≡ length ys → build (λ i. f (get_or xs i 0) (get_or ys i 0)) (length xs) ≡ zipped xs ys
  build_zipped xs ys h =
      build_same (λ i. f (get_or xs i 0) (get_or ys i 0)) (λ i. get_or (zipped xs ys) i 0) (length xs) (λ i b. sym (get_d_zipped xs ys i h b))
      ∙ ap (build (λ i. get_or (zipped xs ys) i 0)) (sym (length_zipped xs ys h)) ∙ build_self (zipped xs ys)

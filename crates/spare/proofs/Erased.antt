-- A spare is erased where it is so many bytes FF.
-- Assumes nothing.
use Rattle.std.proofs.Common.{◌≡◌, ℕ, List, [], ◌∷◌, ◌&&◌, eqb, length, replicate, refl, ap}
use Rattle.std.specs.Cmp.Lexicographic.{pointwise}
use Rattle.spare.specs.Reading.{is_erased}

pub erased_same : (s : List ℕ) → is_erased s ≡ pointwise eqb s (replicate (length s) 0xFF)
unfolding is_erased
erased_same [] = refl
erased_same (b ∷ bs) = ap (λ t. eqb b 0xFF && t) (erased_same bs)

-- Document 02, T-05: where a half was put right. A data bit is told by its byte, 0 to 255, and its number in it, 0 to 7; a code bit by its number, 0 to
-- 21, counted LP0 to LP15, then CP0 to CP5.
use Rattle.std.specs.Prelude.{List, [], ◌∷◌, ◌≡◌, length}
use Rattle.ecc.specs.declared.Verdict.{Verdict}
use Rattle.ecc.specs.declared.Verdict.TheVariants.{Clean, CodeBit, DataBit, NotRepairable}
use Rattle.ecc.specs.Flips.{Place, data_at, code_at, Real, Kept, flip}
use Rattle.ecc.specs.Claims.{told}

-- the place that a verdict puts right; none where nothing is put right
abbrev pub places : Verdict → List Place
places Clean = []
places (CodeBit j) = code_at j ∷ []
places (DataBit a b) = data_at a b ∷ []
places NotRepairable = []

-- these are the places at which a kept half was put right
pub record Located (k : Kept) (qs : List Place) : Type 0 where
  -- none exactly where it is clean
  pub nothing : (qs ≡ [] → told k ≡ Clean) × (told k ≡ Clean → qs ≡ [])
  -- a place exactly where that is one of its 2,070, and it is clean once the bit there is flipped
  pub place : (q : Place)
      → (qs ≡ q ∷ [] → Real q × (told (flip q k) ≡ Clean)) × (Real q × (told (flip q k) ≡ Clean) → qs ≡ q ∷ [])

-- so it is of any 256 bytes with any stored code, as written or not, that are not refused
abbrev pub Locates : Type 0
Locates = (k : Kept) → length k.half ≡ 256 → (told k ≡ NotRepairable → ⊥) → Located k (places (told k))

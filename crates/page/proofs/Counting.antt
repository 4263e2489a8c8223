-- The counts of repairs: at most 3 in a spare, 1 in a half; a half counts its places, none or one.
-- Assumes nothing.
use mathlib.Core.Bool.{Bool, true, false, cond}
use mathlib.Core.Path.{◌≡◌, refl}
use Prim.Native.Nat.{◌≤◌}
use native.Mathlib.Omega.{arith}
use lib.ListN.{length}
use Rattle.ecc.specs.Places.{places}
use Rattle.ecc.specs.Verdicts.{repairs}
use Rattle.ecc.specs.declared.Verdict.{Verdict}
use Rattle.ecc.specs.declared.Verdict.TheVariants.{Clean, CodeBit, DataBit, NotRepairable}
use Rattle.spare.specs.Reading.{spare_repairs}
use Rattle.spare.specs.declared.Repaired.{Repaired}
use Rattle.page.specs.Places.{CountsPlaces}

one_le : (b : Bool) → cond b 1 0 ≤ 1
one_le true = omega arith
one_le false = omega arith

pub spare_le : (r : Repaired) → spare_repairs r ≤ 3
spare_le r = omega (arith, one_le r.tag, one_le r.path, one_le r.count)

pub repairs_le : (v : Verdict) → repairs v ≤ 1
repairs_le Clean = omega arith
repairs_le (CodeBit j) = omega arith
repairs_le (DataBit a b) = omega arith
repairs_le NotRepairable = omega arith

pub places_count : (v : Verdict) → length (places v) ≡ repairs v
places_count Clean = refl
places_count (CodeBit j) = refl
places_count (DataBit a b) = refl
places_count NotRepairable = refl

-- the places and the repaired tag and words are the repaired parts
pub counts_places : CountsPlaces
counts_places f = omega (arith, places_count f.first, places_count f.second)

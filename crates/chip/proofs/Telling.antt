-- Refusals are told apart: a refusal can be had back from its number and what comes with it.
-- Assumes nothing.
use mathlib.Core.Bool.{cond}
use mathlib.Core.Path.{◌≡◌, refl, sym, ◌∙◌, ap₂}
use Prim.Native.Nat.{ℕ, ◌<◌}
use native.Mathlib.Omega.{arith}
use lib.Dec.{eqb}
use Rattle.chip.specs.Refusals.{refusal_number, refusal_detail, ToldApart}
use Rattle.chip.specs.declared.BadKind.TheVariants.{Factory, Late}
use Rattle.chip.specs.declared.Half.TheVariants.{First, Second}
use Rattle.chip.specs.declared.Refusal.{Refusal}
use Rattle.chip.specs.declared.Refusal.TheVariants.{Length, Range, BadBlock, Tag, Erased, NotOurs, NotOursRepaired, Unrepairable, NoCopy, SeveralCopies, Opposite, NotSettled, NoTarget, ZeroFailed}

-- the refusal that has the number n, with d beside it
unfoldable pub refusal_of : ℕ → ℕ → Refusal
refusal_of n d =
    cond (eqb n 1) Length
    (cond (eqb n 2) Range
    (cond (eqb n 3) (BadBlock (cond (eqb d 1) Factory Late))
    (cond (eqb n 4) Tag
    (cond (eqb n 51) Erased
    (cond (eqb n 52) NotOurs
    (cond (eqb n 53) NotOursRepaired
    (cond (eqb n 6) (Unrepairable (cond (eqb d 1) First Second))
    (cond (eqb n 7) NoCopy
    (cond (eqb n 8) SeveralCopies
    (cond (eqb n 9) Opposite
    (cond (eqb n 10) NotSettled
    (cond (eqb n 11) NoTarget ZeroFailed))))))))))))

pub refusal_back : (r : Refusal) → refusal_of (refusal_number r) (refusal_detail r) ≡ r
unfolding refusal_of
refusal_back Length = refl
refusal_back Range = refl
refusal_back (BadBlock Factory) = refl
refusal_back (BadBlock Late) = refl
refusal_back Tag = refl
refusal_back Erased = refl
refusal_back NotOurs = refl
refusal_back NotOursRepaired = refl
refusal_back (Unrepairable First) = refl
refusal_back (Unrepairable Second) = refl
refusal_back NoCopy = refl
refusal_back SeveralCopies = refl
refusal_back Opposite = refl
refusal_back NotSettled = refl
refusal_back NoTarget = refl
refusal_back ZeroFailed = refl

-- every number is from 1 to 255
in_range : (r : Refusal) → (0 < refusal_number r) × (refusal_number r < 256)
in_range Length = (omega arith, omega arith)
in_range Range = (omega arith, omega arith)
in_range (BadBlock k) = (omega arith, omega arith)
in_range Tag = (omega arith, omega arith)
in_range Erased = (omega arith, omega arith)
in_range NotOurs = (omega arith, omega arith)
in_range NotOursRepaired = (omega arith, omega arith)
in_range (Unrepairable h) = (omega arith, omega arith)
in_range NoCopy = (omega arith, omega arith)
in_range SeveralCopies = (omega arith, omega arith)
in_range Opposite = (omega arith, omega arith)
in_range NotSettled = (omega arith, omega arith)
in_range NoTarget = (omega arith, omega arith)
in_range ZeroFailed = (omega arith, omega arith)

pub told_apart : ToldApart
told_apart = record {
  above = λ r. (in_range r).0;
  byte = λ r. (in_range r).1;
  apart = λ r q e f. sym (refusal_back r) ∙ ap₂ refusal_of e f ∙ refusal_back q;
}

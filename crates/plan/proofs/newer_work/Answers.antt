-- `newer_work` meets its contract: the sign of d is that of `newer_work`.
-- Assumes nothing.
use mathlib.Core.Bool.{true, false, true≢false}
use mathlib.Core.Path.{◌≡◌, refl, ◌∙◌, ap, sym}
use native.Mathlib.Omega.{arith}
use borrow.Author.Tests.{ltb-true}
use lib.IntN.{ℤ, pos, negsuc}
use lib.Signed.{lt_z}
use mir.Facts.{to_z-of_z}
use mir.Syntax.{w32}
use Rattle.bbt.specs.declared.Kind.TheVariants.{Primary, Mirror}
use Rattle.chip.specs.declared.RegionBlock.{RegionBlock}
use Rattle.plan.specs.Works.{newer_work}
use Rattle.plan.specs.declared.Work.TheVariants.{Copy}
use Rattle.plan.proofs.newer_work.Goals as goal

below : (d : ℤ) (p m : RegionBlock) → lt_z d (pos 0) ≡ true → Copy m p Primary ≡ newer_work d p m
below (pos n) p m h = absurd (omega (arith, ltb-true n 0 h))
below (negsuc n) p m h = refl

above : (d : ℤ) (p m : RegionBlock) → lt_z d (pos 0) ≡ false → Copy p m Mirror ≡ newer_work d p m
above (pos n) p m h = refl
above (negsuc n) p m h = absurd (true≢false h)

pub returns-then-d-lt0 : goal.returns-then-d-lt0
returns-then-d-lt0 c =
    let a = c.args in
    let fits = to_z-of_z {w = w32} {z = a.d} (record { sfits = c.well_formed.0 }) in
    below a.d a.p a.m (ap (λ (z : ℤ). lt_z z (pos 0)) (sym fits) ∙ c.if-d-lt0.true)

pub returns : goal.returns
returns c =
    let a = c.args in
    let fits = to_z-of_z {w = w32} {z = a.d} (record { sfits = c.well_formed.0 }) in
    above a.d a.p a.m (ap (λ (z : ℤ). lt_z z (pos 0)) (sym fits) ∙ c.if-d-lt0.false)

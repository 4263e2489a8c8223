-- `version_difference` meets its contract: a number of 128 or more is read as it less 256.
-- Assumes nothing.
use mathlib.Core.Path.{◌≡◌, ap, ◌∙◌}
use Prim.Native.Nat.{ℕ, ◌+◌, ◌-◌, ◌%◌, ◌<◌, ◌^◌}
use native.Mathlib.Omega.{arith}
use borrow.Author.Tests.{lt-ltb, le-ltb}
use lib.IntN.{pos, negsuc, ◌-ℤ◌}
use mir.Syntax.{w32}
use mir.Val.{SFits, to_z}
use mir.Facts.{to_z-of_z, to_z_pos}
use Rattle.bbt.specs.Pairs.{signed_of, difference}
use Rattle.bbt.proofs.version_difference.Goals as goal

small : (u : ℕ) → u < 256 → u < 2 ^ 31
small u h = omega arith

-- a number below 256, less 256
below : (u : ℕ) → u < 256 → to_z w32 u -ℤ pos 256 ≡ negsuc (255 - u)
below u h = rw (to_z_pos w32 (small u h)) (simp (lt-ltb u 256 h) (ap negsuc (omega arith)))

fits_below : (u : ℕ) → u < 256 → SFits w32 (to_z w32 u -ℤ pos 256)
fits_below u h = rw (below u h) (record { sfits = omega arith })

pub returns-then-u-lt128 : goal.returns-then-u-lt128
unfolding difference signed_of
returns-then-u-lt128 c =
    let u : ℕ = (c.args.primary + 256 - c.args.mirror) % 256 in
    to_z_pos w32 (small u (omega arith)) ∙ simp (lt-ltb u 128 c.if-u-lt128.true)

pub overflow_sub-result : goal.overflow_sub-result
overflow_sub-result c = fits_below ((c.args.primary + 256 - c.args.mirror) % 256) (omega arith)

pub returns : goal.returns
unfolding difference signed_of
returns c =
    let u : ℕ = (c.args.primary + 256 - c.args.mirror) % 256 in
    let h : u < 256 = omega arith in
    to_z-of_z {w = w32} (fits_below u h) ∙ below u h ∙ simp (le-ltb u 128 c.if-u-lt128.false)

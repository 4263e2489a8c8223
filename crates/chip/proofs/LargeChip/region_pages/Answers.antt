-- `LargeChip::region_pages` meets its contract: 255 blocks of any chip's pages fit.
-- Assumes nothing.
use mathlib.Core.Path.{ap}
use Prim.Native.Nat.{ℕ, ◌*◌}
use native.Mathlib.Nat.{mul-le-mul_right}
use native.Mathlib.Omega.{arith}
use Rattle.chip.specs.Large.{pages_of}
use Rattle.chip.proofs.LargeChip.region_pages.Goals as goal

pub overflow_mul-result : goal.overflow_mul-result
overflow_mul-result c =
    let chip = c.args.self in
    let few = mul-le-mul_right {m = chip.region} {n = 255} (pages_of chip) (omega arith) in
    let told = ap (λ (p : ℕ). chip.region * p) c.pages.ensures in
    omega arith

pub returns : goal.returns
returns c = ap (λ (p : ℕ). c.args.self.region * p) c.pages.ensures

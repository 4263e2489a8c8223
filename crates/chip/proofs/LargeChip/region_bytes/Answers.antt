-- `LargeChip::region_bytes` meets its contract: the bytes of 255 blocks of any chip's pages fit.
-- Assumes nothing.
use native.Mathlib.Nat.{mul-le-mul_right}
use native.Mathlib.Omega.{arith}
use Rattle.chip.specs.Large.{pages_of}
use Rattle.chip.proofs.LargeChip.region_bytes.Goals as goal

pub overflow_mul-result : goal.overflow_mul-result
overflow_mul-result c =
    let chip = c.args.self in
    let few = mul-le-mul_right {m = chip.region} {n = 255} (pages_of chip) (omega arith) in
    omega arith

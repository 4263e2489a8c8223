-- `ecc::spread` meets its contract: computed at the 16 numbers.
-- Assumes nothing.
-- a byte's bits with those moved up, as a mask leaves them
use Prim.Native.Nat.{ℕ, ◌*◌, ◌%◌}
use lib.Bits.{bit_and, bit_or}
use lib.Dec.{eqb, eqb→eq}
use Rattle.bits.specs.Bits.{bit, number}
use Rattle.bits.proofs.Computed.{below}
use Rattle.ecc.specs.Sums.{spread_of}
use Rattle.ecc.proofs.spread.Goals as goal

abbrev apart : ℕ → ℕ → ℕ → ℕ
apart power mask n = bit_and (bit_or n (n * power % 256)) mask

pub returns : goal.returns
unfolding bit number spread_of
returns c = eqb→eq _ _ (below (λ n. eqb (apart 2 0x55 (apart 4 0x33 n)) (spread_of n)) 16 tt c.args.n c.requires)

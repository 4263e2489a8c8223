-- `ecc::columns` meets its contract: computed at the 256 byte values.
-- Assumes nothing.
use Prim.Native.Nat.{ℕ, ◌+◌, ◌*◌}
use native.Mathlib.Omega.{arith}
use lib.Bits.{bit_and, bit_or}
use lib.Dec.{eqb, eqb→eq}
use Rattle.bits.specs.Bits.{bit, number, parity_of}
use Rattle.bits.proofs.Computed.{below}
use Rattle.ecc.specs.Half.{place_bit, counts}
use Rattle.ecc.specs.Sums.{parity_bit, pairs_of, columns_of}
use Rattle.ecc.proofs.columns.Goals as goal

abbrev odd : ℕ → ℕ
odd v = parity_bit (bit_and v 0xAA) * 2 + parity_bit (bit_and v 0xCC) * 4 + parity_bit (bit_and v 0xF0) * 8

pub returns : goal.returns
unfolding bit number parity_of place_bit counts pairs_of columns_of
returns c =
    rw (c.pairs.ensures, c.parity.ensures.0, c.parity-2.ensures.0, c.parity-3.ensures.0, c.parity-4.ensures.0)
    (eqb→eq _ _ (below (λ v. eqb (bit_or (pairs_of (odd v) (parity_bit v)) 3) (columns_of v)) 256 tt c.args.all (omega arith)))

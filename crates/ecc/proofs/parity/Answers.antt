-- `ecc::parity` meets its contract: computed at the 256 byte values.
-- Assumes nothing.
-- a byte's bits from `power` on, XORed onto the lowest
use Prim.Native.Nat.{ℕ, ◌/◌, ◌%◌}
use native.Mathlib.Omega.{arith}
use lib.Bits.{bit_xor}
use lib.Dec.{eqb, eqb→eq}
use Rattle.bits.specs.Bits.{bit, parity_of}
use Rattle.bits.proofs.Computed.{below}
use Rattle.ecc.specs.Sums.{parity_bit}
use Rattle.ecc.proofs.parity.Goals as goal

abbrev onto : ℕ → ℕ → ℕ
onto power x = bit_xor x (x / power)

pub returns : goal.returns
unfolding bit parity_of
returns c = (eqb→eq _ _ (below (λ x. eqb (onto 2 (onto 4 (onto 16 x)) % 2) (parity_bit x)) 256 tt c.args.x (omega arith)), omega arith)

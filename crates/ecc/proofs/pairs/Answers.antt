-- `ecc::pairs` meets its contract: computed at the 16 numbers of odd members and the two parities.
-- Assumes nothing.
use mathlib.Core.Bool.{Bool}
use Prim.Native.Nat.{ℕ, ◌-◌, ◌*◌, ◌%◌}
use lib.Bits.{bit_or, bit_xor}
use lib.Dec.{eqb, eqb→eq}
use Rattle.bits.specs.Bits.{bit, number}
use Rattle.bits.proofs.Computed.{all, below}
use Rattle.ecc.specs.Sums.{spread_of, pairs_of}
use Rattle.ecc.proofs.pairs.Goals as goal

abbrev right : ℕ → ℕ → Bool
right odd all = eqb (255 - bit_or (spread_of odd * 2 % 256) (bit_xor (spread_of odd) (all * 0x55))) (pairs_of odd all)

pub returns : goal.returns
unfolding bit number spread_of pairs_of
returns c =
    let a = c.args in
    let h = c.requires in
    rw c.spread-apart.ensures
    (eqb→eq _ _ (below (right a.odd) 2 (below (λ odd. all (right odd) 0 2) 16 tt a.odd h.0) a.all h.1))

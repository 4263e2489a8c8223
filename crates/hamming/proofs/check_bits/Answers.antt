-- `check_bits` meets its contract: each mask is the set of data bits that its check bit counts, which antt computes.
-- Assumes nothing.
use mathlib.Core.Path.{refl}
use native.Mathlib.Omega.{arith}
use lib.Count.{ones, ones_in}
use Rattle.bits.specs.Bits.{bit, number}
use Rattle.hamming.specs.Word.{house_numbers, not_powers, check_bits}
use Rattle.hamming.proofs.Checks.{check_masked}
use Rattle.hamming.proofs.check_bits.Goals as goal

pub returns : goal.returns
unfolding check_bits number bit house_numbers not_powers ones ones_in
returns c =
    let v = c.args.bits in
    let zero-digit = check_masked 0 v 0x2AAAD5B refl in
    let first = check_masked 1 v 0x333366D refl in
    let second = check_masked 2 v 0x3C3C78E refl in
    let third = check_masked 3 v 0x3FC07F0 refl in
    let fourth = check_masked 4 v 0x3FFF800 refl in
    (omega arith, omega arith)

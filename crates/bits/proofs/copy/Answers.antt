-- `copy` meets its contract: after i turns `to` is filled with the first i bytes of `from`.
-- Assumes nothing.
use mathlib.Core.Path.{◌≡◌, sym, ◌∙◌, ap}
use Prim.Native.Nat.{ℕ}
use native.Mathlib.Omega.{arith}
use borrow.Author.Tests.{ne_eqb}
use lib.ListN.{length, get_or}
use Rattle.bits.specs.Bytes.{build, copied}
use Rattle.bits.proofs.Filling.{fill_start, fill_turn, fill_end, build_self, copied_same}
use Rattle.bits.proofs.copy.Goals as goal

pub loop-i-init : goal.loop-i-init
loop-i-init c = sym (fill_start _ _)

pub loop-i-preserved : goal.loop-i-preserved
loop-i-preserved c = rw c.loop-i.invariant (fill_turn _ _ _ (omega arith))

pub returns-after-loop-i : goal.returns-after-loop-i
returns-after-loop-i c =
    let from = c.args.from.now in
    let to = c.args.to.now in
    let same : length to ≡ length from = c.if-to-from.true in
    let end : ◌≡◌ {A = ℕ} c.loop-i.i (length to) = omega arith in
    rw (c.loop-i.invariant, end) (fill_end (λ i. get_or from i 0) to ∙ ap (build (λ i. get_or from i 0)) same ∙ build_self from ∙ sym (copied_same from to same))

pub returns-else-to-from : goal.returns-else-to-from
unfolding copied
returns-else-to-from c = simp (ne_eqb _ _ c.if-to-from.false)

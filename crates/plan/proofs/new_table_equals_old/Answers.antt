-- `new_table_equals_old` meets its contract: the parts before page p are kept, and one that is not spoils the table.
-- Assumes nothing.
use mathlib.Core.Path.{◌≡◌, ◌∙◌, ap, sym}
use Prim.Native.Nat.{ℕ, ◌*◌}
use native.Mathlib.Omega.{arith}
use lib.Seq.{take_all}
use Rattle.bbt.proofs.Searches.{all_not}
use Rattle.bbt.specs.Images.{chunk}
use Rattle.bbt.specs.Pages.{all}
use Rattle.region.specs.Parts.{part_of}
use Rattle.bitmap.specs.Made.{new_equals_old}
use Rattle.chip.specs.Large.{pages_of}
use Rattle.plan.proofs.NewEqualsOld.{kept_by_parts}
use Rattle.region.proofs.Lending.{fits}
use Rattle.region.specs.Stored.{stored_parts}
use Rattle.plan.proofs.new_table_equals_old.Goals as goal

pub overflow_cast-p-end : goal.overflow_cast-p-end
overflow_cast-p-end c = let r = c.args.region in let f = fits r.chip r.image.now r.status.now r.chip_right r.lengths_right in omega arith

pub returns-then-not-new_equals_old : goal.returns-then-not-new_equals_old
returns-then-not-new_equals_old c =
    let a = c.args in
    let r = a.region in
    let f = fits r.chip r.image.now r.status.now r.chip_right r.lengths_right in
    let all_of = take_all (2048 * pages_of r.chip) a.wanted.now (omega arith) in
    let by_parts = kept_by_parts r.chip r.image.now (omega arith) a.b.0 (pages_of r.chip) c.requires.0 (omega arith) a.wanted.now c.requires.1 in
    sym (ap (new_equals_old (stored_parts r.chip r.image.now a.b.0 (pages_of r.chip))) (sym all_of) ∙ by_parts ∙ all_not (pages_of r.chip) _ c.loop-p.p (omega arith) (cc))

pub returns : goal.returns
returns c =
    let a = c.args in
    let r = a.region in
    let f = fits r.chip r.image.now r.status.now r.chip_right r.lengths_right in
    let all_of = take_all (2048 * pages_of r.chip) a.wanted.now (omega arith) in
    let end : pages_of r.chip ≡ c.loop-p.p = omega (arith, c.pages-p-end.ensures) in
    let by_parts = kept_by_parts r.chip r.image.now (omega arith) a.b.0 (pages_of r.chip) c.requires.0 (omega arith) a.wanted.now c.requires.1 in
    sym (ap (new_equals_old (stored_parts r.chip r.image.now a.b.0 (pages_of r.chip))) (sym all_of) ∙ by_parts ∙ ap (λ (n : ℕ). all n (λ p. new_equals_old (part_of r.chip r.image.now a.b.0 p) (chunk p a.wanted.now))) end ∙ c.loop-p.invariant)

-- `page` meets its contract: the array is the part of the image.
-- Assumes nothing.
use Rattle.std.proofs.Common.{◌≡◌, ◌∙◌, ap, ℕ, ◌+◌, ◌*◌, ◌-◌, arith}
use Rattle.std.proofs.Math.ListN.{take, drop}
use Rattle.bbt.specs.Pages.{page_bytes}
use Rattle.region.proofs.lent.Region.page.Goals as goal

pub returns : goal.returns
unfolding page_bytes
returns c =
    let at = c.args.i * 2112 in
    let whole = rw c.unwrap.ensures at c.as_array.ensures.cases in
    let n : at + 2112 - at ≡ 2112 = omega arith in
    whole.same ∙ ap (λ (n : ℕ). take n (drop at c.args.self.image.now)) n

-- A plan made anew has a failed block.
-- Assumes nothing.
use mathlib.Core.List.{[], ◌∷◌}
use mathlib.Core.Logic.{◌≢◌}
use mathlib.Core.Option.{Option, none, some}
use mathlib.Core.Path.{◌≡◌, ap, ◌∙◌}
use Prim.Native.Nat.{ℕ}
use Rattle.chip.specs.declared.LargeChip.{LargeChip}
use Rattle.bbt.specs.Failures.{other_block, moved, moved_to, block_fails, step_fails}
use Rattle.bbt.specs.Pages.{View}
use Rattle.bbt.specs.Plans.{Step, erase, write, zeros, Plan, plan, target}
use Rattle.bbt.proofs.Searches.{no_confusion}

block_retires : {z : Plan} (q : Plan) (b : ℕ) (o : Option ℕ) → moved_to q b o ≡ plan z → z.failed ≢ []
unfolding moved_to
block_retires q b none e f = no_confusion (cc)
block_retires {z} q b (some x) e f =
    let w : record { failed = b ∷ q.failed; job = moved q.job b x } ≡ z = cc in
    let v : b ∷ q.failed ≡ [] = ap (λ (p : Plan). p.failed) w ∙ f in
    no_confusion (cc)

pub step_retires : (chip : LargeChip) (R : View) {z : Plan} (q : Plan) (e : Option Step) → step_fails chip R q e ≡ plan z → z.failed ≢ []
unfolding step_fails block_fails
step_retires chip R q none e = λ f. no_confusion (cc)
step_retires chip R q (some (erase b)) e = block_retires q b (target chip R (other_block q.job b ∷ b ∷ q.failed)) e
step_retires chip R q (some (write b p k t)) e = block_retires q b (target chip R (other_block q.job b ∷ b ∷ q.failed)) e
step_retires chip R q (some (zeros b)) e = λ f. no_confusion (cc)

-- The bridge: both sides judge N and go on with the same definition.
-- Assumes nothing.
use mathlib.Core.List.{List}
use mathlib.Core.Path.{◌≡◌}
use Prim.Native.Nat.{ℕ}
use borrow.Author.Tests.{eq-eqb}
use lib.ListN.{length}
use Rattle.bbt.specs.Lent.{planned, imaged}
use Rattle.bbt.specs.Plans.{Call}
use Rattle.plan.specs.Answers.{plan_answer}
use Rattle.plan.specs.Bridge.{Bridged}
use Rattle.plan.specs.PageImages.{lent_image, image_answer, image_after}

-- with room for a page, its image is the step's
room_image : (n size : ℕ) (call : Call) (image status failed : List ℕ) (i : ℕ) (room : List ℕ) → length room ≡ 2112
    → lent_image n size call image status failed i room ≡ imaged n size call image status failed i
unfolding lent_image
room_image n size call image status failed i room h = rw (eq-eqb (length room) 2112 h)

pub bridged : Bridged
unfolding plan_answer planned image_answer image_after
bridged n size chip call image status failed e = record {
  plans = rw e;
  answers = λ i room h. rw (room_image n size call image status failed i room h);
  pages = λ i room h. rw (room_image n size call image status failed i room h);
}

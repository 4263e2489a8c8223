-- The plan in hand, throughout a history: the steps left are those from the next step's number on, of the plan that the library gives from
-- the snapshot and the failed steps. So the next step is the told step of that number, and the page image asked for by that number is its page.
-- Assumes nothing.
use Rattle.std.specs.Prelude.{Some}
use mathlib.Core.List.{List, [], ◌∷◌, map}
use mathlib.Core.Option.{some}
use mathlib.Core.Path.{◌≡◌, refl, ap, ◌∙◌}
use Prim.Native.Nat.{ℕ, zero, suc}
use Rattle.chip.specs.Large.{pages_of}
use Rattle.chip.specs.declared.LargeChip.{LargeChip}
use Rattle.bbt.specs.declared.Step.{Step as ToldStep}
use Rattle.bbt.specs.Histories.{Snapshot, snapshot, with_failed, answer, Hand, empty, holding, World, world, Last, Event, plan_refused, update_planned, recovery_planned, step_done, step_cut, cut_between, step_failed, step_given_up, no_step_left, no_plan, History, start, next}
use Rattle.bbt.specs.Images.{image_at, plan_image}
use Rattle.bbt.specs.Plans.{Step, erase, write, zeros, Plan, steps_of, step_at, plan, Call}
use Rattle.bbt.specs.PowerCuts.{ImageOf, Numbered, Start, settled_at}
use Rattle.bbt.specs.Regions.{Region}
use Rattle.bbt.specs.Told.{told_step, nth_step}
use Rattle.bbt.proofs.LeftPages.{Judged}
use Rattle.bbt.proofs.Planning.{asked_is}
use Rattle.bbt.proofs.Searches.{no_confusion}
use Rattle.bbt.proofs.ToldSteps.{tells_steps}

-- ---- the steps from number i on
unfoldable pub steps_from : List Step → ℕ → List Step
steps_from es zero = es
steps_from [] (suc i) = []
steps_from (e ∷ es) (suc i) = steps_from es i

from_next : (l : List Step) (i : ℕ) {e : Step} {es : List Step} → steps_from l i ≡ e ∷ es → steps_from l (suc i) ≡ es
unfolding steps_from
from_next [] zero h = absurd (no_confusion (cc))
from_next [] (suc i) h = absurd (no_confusion (cc))
from_next (x ∷ xs) zero h = cc
from_next (x ∷ xs) (suc i) h = from_next xs i h

from_told : (f : Step → ToldStep) (l : List Step) (i : ℕ) {e : Step} {es : List Step} → steps_from l i ≡ e ∷ es → nth_step (map f l) i ≡ Some (f e)
unfolding steps_from nth_step
from_told f [] zero h = absurd (no_confusion (cc))
from_told f [] (suc i) h = absurd (no_confusion (cc))
from_told f (x ∷ xs) zero {e} {es} h = let q : x ≡ e = cc in ap (λ (s : Step). Some (f s)) q
from_told f (x ∷ xs) (suc i) h = from_told f xs i h

pub from_at : (l : List Step) (i : ℕ) {e : Step} {es : List Step} → steps_from l i ≡ e ∷ es → step_at l i ≡ some e
unfolding steps_from step_at
from_at [] zero h = absurd (no_confusion (cc))
from_at [] (suc i) h = absurd (no_confusion (cc))
from_at (x ∷ xs) zero {e} {es} h = let q : x ≡ e = cc in ap some q
from_at (x ∷ xs) (suc i) h = from_at xs i h

first_image : (x : Step) (xs : List Step) → ImageOf x (image_at (x ∷ xs) 0)
unfolding image_at
first_image (erase b) xs = refl
first_image (write b p k t) xs = refl
first_image (zeros b) xs = refl

from_image : (l : List Step) (i : ℕ) (e : Step) {es : List Step} → steps_from l i ≡ e ∷ es → ImageOf e (image_at l i)
unfolding steps_from image_at
from_image [] zero e h = absurd (no_confusion (cc))
from_image [] (suc i) e h = absurd (no_confusion (cc))
from_image (x ∷ xs) zero e h = let q : x ≡ e = cc in rw (← q) (first_image x xs)
from_image (erase b ∷ xs) (suc i) e h = from_image xs i e h
from_image (write b p k t ∷ xs) (suc i) e h = from_image xs i e h
from_image (zeros b ∷ xs) (suc i) e h = from_image xs i e h

-- ---- the plan in hand
module _ {chip : LargeChip} where
  pub record Tracked (call : Call) (a : Snapshot chip) (i : ℕ) (es : List Step) : Type 0 where
    pub made : Plan
    pub by_plan : answer call a ≡ plan made
    pub left : steps_from (steps_of (pages_of chip) made) i ≡ es

  abbrev pub InHand : Hand chip → Type 0
  InHand empty = Unit {0}
  InHand (holding c a i es) = Tracked c a i es

  pub track_first : (call : Call) (a : Snapshot chip) (q : Plan) → answer call a ≡ plan q → Tracked call a 0 (steps_of (pages_of chip) q)
  unfolding steps_from
  track_first call a q e = record { made = q; by_plan = e; left = refl }

  pub track_next : {call : Call} {a : Snapshot chip} {i : ℕ} {e : Step} {es : List Step} → Tracked call a i (e ∷ es) → Tracked call a (suc i) es
  track_next {i = i} t = record { made = t.made; by_plan = t.by_plan; left = from_next (steps_of (pages_of chip) t.made) i t.left }

  abbrev pub HandOf : World chip → Type 0
  HandOf (world r h l) = InHand h

  track_event : {r : Region chip} {h : Hand chip} {l : Last} {u : World chip} → InHand h → Event r l h u → HandOf u
  track_event t (plan_refused c n e) = t
  track_event {r} t (update_planned wanted p m o q e h) = track_first _ (snapshot r) q e
  track_event {r} t (recovery_planned q l' e cl) = track_first _ (snapshot r) q e
  track_event t (step_done s l' k d en) = track_next t
  track_event t (step_cut s l' k d cl) = tt
  track_event t (cut_between l' cl) = tt
  track_event t (step_failed {a = a} {i = i} s q k d e) = track_first _ (with_failed a i) q e
  track_event t (step_given_up s l' x k d e cl) = tt
  track_event t no_step_left = t
  track_event t no_plan = tt

  pub started : {w : World chip} → Start w → HandOf w
  started (settled_at e) = tt

  pub tracked : {w u : World chip} → HandOf w → History w u → HandOf u
  tracked t start = t
  tracked t (next h e) = track_event (tracked t h) e

-- ---- by number
module _ {chip : LargeChip} (ok : Judged chip) where
  pub track_numbered : {call : Call} {a : Snapshot chip} {i : ℕ} {e : Step} {es : List Step} → Tracked call a i (e ∷ es) → Numbered call a i e
  unfolding plan_image
  track_numbered {call} {a} {i} {e} t =
      let l : List Step = steps_of (pages_of chip) t.made in
      record {
        made = t.made;
        by_plan = t.by_plan;
        by_number = ap (λ (es : List ToldStep). nth_step es i) (tells_steps chip t.made) ∙ from_told (told_step chip) l i t.left;
        by_image = rw (asked_is ok a call i, t.by_plan) (from_image l i e t.left);
      }

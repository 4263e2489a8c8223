-- A told plan when its steps fail: what the code makes of it by a step that fails, and step after step, is what the rules make of the plan.
-- Assumes nothing.
use Rattle.std.specs.Prelude.{Option, Some, None}
use mathlib.Core.Bool.{Bool, false}
use mathlib.Core.List.{List, [], ◌∷◌}
use mathlib.Core.Option.{Option as Search, none, some}
use mathlib.Core.Path.{◌≡◌, refl, sym, ap, subst, ◌∙◌}
use Prim.Native.Nat.{ℕ}
use lib.ListN.{length, replicate, length-set}
use Rattle.chip.specs.Large.{pages_of}
use Rattle.chip.specs.declared.LargeChip.{LargeChip}
use Rattle.chip.specs.declared.Refusal.{Refusal}
use Rattle.chip.specs.declared.RegionBlock.{RegionBlock}
use Rattle.bbt.proofs.ToldSteps.{tells_steps}
use Rattle.bbt.specs.Failures.{moved_to, block_fails, step_fails, failure, failures, other_block}
use Rattle.bbt.specs.Pages.{View, seen}
use Rattle.bbt.specs.Plans.{Step, erase, write, zeros, Plan, steps_of, step_at, Answer, refuse, plan, target}
use Rattle.bbt.specs.Told.{chip_block, told_shape, told_retired, told_plan, told_answer, told_steps, nth_step}
use Rattle.bbt.specs.declared.Step.{Step as ToldStep}
use Rattle.region.proofs.Flagging.{flags_none, flags_more}
use Rattle.region.specs.Targets.{Flags}
use Rattle.retire.specs.Retiring.{copy_at, also_retired, copy_retired, step_retired, on_plan, steps_retired, all_retired, Lends, RetiresByRules}
use Rattle.retire.proofs.Telling.{WritesTo, copy_told, answer_told, target_lent, told_maybe, nth_told, Of, step_of}

-- ---- the flags, with the block that a plan retires, are those of its failed blocks
abbrev Flagged : List Bool → Answer → Type 0
Flagged gone (refuse x) = Unit {0}
Flagged gone (plan q) = Flags (also_retired gone (told_retired q.failed)) q.failed

moved_flagged : (gone : List Bool) (q : Plan) (b : ℕ) (t : Search ℕ) → length gone ≡ 7 → Flags gone q.failed → Flagged gone (moved_to q b t)
unfolding moved_to
moved_flagged gone q b none e flags = tt
moved_flagged gone q b (some x) e flags = flags_more gone q.failed b e flags

failed_flagged : (chip : LargeChip) (R : View) (gone : List Bool) (q : Plan) (s : Search Step) → length gone ≡ 7 → Flags gone q.failed
    → Flagged gone (step_fails chip R q s)
unfolding step_fails block_fails
failed_flagged chip R gone q none e flags = tt
failed_flagged chip R gone q (some (erase b)) e flags = moved_flagged gone q b _ e flags
failed_flagged chip R gone q (some (write b p k t)) e flags = moved_flagged gone q b _ e flags
failed_flagged chip R gone q (some (zeros b)) e flags = tt

still_seven : (gone : List Bool) (r : Option RegionBlock) → length gone ≡ 7 → length (also_retired gone r) ≡ 7
still_seven gone None e = e
still_seven gone (Some b) e = simp length-set e

-- ---- a refusal is passed on
pub refused_on : (chip : LargeChip) (R : View) (x : Refusal) (rest : List ℕ) → failures chip R (refuse x) rest ≡ refuse x
unfolding failures failure
refused_on chip R x [] = refl
refused_on chip R x (k ∷ rest) = refused_on chip R x rest

module _ {n size : ℕ} {chip : LargeChip} {image status : List ℕ} (lends : Lends n size chip image status) where
  abbrev R : View
  R = seen chip image status

  -- ---- a block, a step
  block_retired : (gone : List Bool) (q : Plan) (b : ℕ) → length gone ≡ 7 → Flags gone q.failed → WritesTo q.job b
      → copy_retired n size image status gone (told_plan chip q) (copy_at chip (told_shape q.job) (chip_block chip b)) ≡ told_answer chip (block_fails chip R q b)
  unfolding block_fails
  block_retired gone q b e flags w =
      rw (copy_told chip q.job b w, target_lent lends gone q.failed b (other_block q.job b) e flags)
      (answer_told chip q b (target chip R (other_block q.job b ∷ b ∷ q.failed)))

  step-retired : (gone : List Bool) (q : Plan) (k : ℕ) → length gone ≡ 7 → Flags gone q.failed
      → step_retired n size image status gone (told_plan chip q) (nth_step (told_steps (told_plan chip q)) k) ≡ told_answer chip (failure chip R (plan q) k)
  unfolding failure step_fails
  step-retired gone q k e flags =
      ap (step_retired n size image status gone (told_plan chip q)) is
      ∙ go (step_at (steps_of (pages_of chip) q) k) (step_of (pages_of chip) q.failed q.job k)
    where
      is : nth_step (told_steps (told_plan chip q)) k ≡ told_maybe chip (step_at (steps_of (pages_of chip) q) k)
      is = ap (λ (es : List ToldStep). nth_step es k) (tells_steps chip q) ∙ nth_told chip (steps_of (pages_of chip) q) k

      go : (s : Search Step) → Of q.job s
          → step_retired n size image status gone (told_plan chip q) (told_maybe chip s) ≡ told_answer chip (step_fails chip R q s)
      go none w = refl
      go (some (erase b)) w = block_retired gone q b e flags w
      go (some (write b p x t)) w = block_retired gone q b e flags w
      go (some (zeros b)) w = refl

  -- ---- step after step
  steps-retired : (gone : List Bool) (q : Plan) (ks : List ℕ) → length gone ≡ 7 → Flags gone q.failed
      → steps_retired n size image status gone (told_plan chip q) ks ≡ told_answer chip (failures chip R (plan q) ks)
  unfolding steps_retired failures failure
  steps-retired gone q [] e flags = refl
  steps-retired gone q (k ∷ ks) e flags =
      ap (on_plan (λ next. steps_retired n size image status (also_retired gone next.retired) next ks)) (step-retired gone q k e flags)
      ∙ go (failure chip R (plan q) k) (failed_flagged chip R gone q (step_at (steps_of (pages_of chip) q) k) e flags)
      (λ q' f. steps-retired (also_retired gone (told_retired q'.failed)) q' ks (still_seven gone (told_retired q'.failed) e) f)
    where
      go : (a : Answer) → Flagged gone a
          → ((q' : Plan) → Flagged gone (plan q')
          → steps_retired n size image status (also_retired gone (told_retired q'.failed)) (told_plan chip q') ks ≡ told_answer chip (failures chip R (plan q') ks))
          → on_plan (λ next. steps_retired n size image status (also_retired gone next.retired) next ks) (told_answer chip a) ≡ told_answer chip (failures chip R a ks)
      go (refuse x) f on = ap (told_answer chip) (sym (refused_on chip R x ks))
      go (plan q') f on = on q' f

-- ---- all of them, from the first plan on
pub retires_by_rules : RetiresByRules
unfolding all_retired
retires_by_rules n size chip image status (refuse x) failed lends new = ap (told_answer chip) (sym (refused_on chip (seen chip image status) x failed))
retires_by_rules n size chip image status (plan q) failed lends new =
    steps-retired lends (replicate 7 false) q failed refl (subst (λ (bs : List ℕ). Flags (replicate 7 false) bs) (sym new) flags_none)

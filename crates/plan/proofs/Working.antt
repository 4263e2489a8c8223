-- What a call comes to is planned as the rules have it, and reads blocks that hold good copies.
-- Assumes nothing.
use Rattle.std.specs.Prelude.{Option, Some, None, Result, Ok, Err}
use mathlib.Core.Bool.{true, false}
use mathlib.Core.List.{List, [], ◌∷◌}
use mathlib.Core.Option.{Option as Search, none, some}
use mathlib.Core.Path.{◌≡◌, refl, ◌∙◌, ap, ap₂, sym, subst}
use Prim.Native.Nat.{ℕ, ◌<◌}
use native.Mathlib.Omega.{arith}
use borrow.Author.Tests.{eqb-true}
use lib.IntN.{ℤ, pos, negsuc}
use lib.ListN.{length, set, replicate}
use Rattle.bbt.specs.Copies.{Table}
use Rattle.bbt.specs.Pages.{seen}
use Rattle.bbt.specs.Plans.{Answer, refuse, plan, fresh, idle, double, holds, read_case, reading, update_from, update, target, other_kind, recover_to, anded, recover_newer, recover_case, recovery, Call, for_update, for_recovery, plan_by_rules}
use Rattle.region.specs.Stored.{stored_table}
use Rattle.bbt.specs.declared.Kind.{Kind}
use Rattle.bbt.specs.declared.PairCase.{PairCase}
use Rattle.bbt.specs.declared.PairCase.TheVariants.{Alone, Settled, Merging, Differing}
use Rattle.chip.specs.Large.{pages_of}
use Rattle.chip.specs.declared.LargeChip.{LargeChip}
use Rattle.chip.specs.declared.Refusal.{Refusal}
use Rattle.chip.specs.declared.RegionBlock.{RegionBlock}
use Rattle.plan.specs.Calls.{beside_of, wanted_of}
use Rattle.plan.specs.Works.{update_work, missing_work, newer_work, recovery_work, work_of, call_work, work_answer, Placed}
use Rattle.plan.specs.declared.Work.{Work}
use Rattle.plan.specs.declared.Work.TheVariants.{Keep, Update, Copy, Merge}
use Rattle.region.proofs.Flagging.{target_flags, flags_none, flags_more}
use Rattle.bbt.specs.Pairs.{no_pair, pair_case}
use Rattle.bbt.specs.Told.{told_case}
use Rattle.region.proofs.Judged.{untold, untold_refused, Known, case_known, lent_answers, known_valid, known_copies, known_table}
use Rattle.region.specs.Cases.{lent_chip}
use Rattle.region.specs.Targets.{told_target, target_by}
use Rattle.retire.specs.Retiring.{First}

-- what is planned for a work, or why there is none
abbrev pub answer_of : LargeChip → List ℕ → List ℕ → Result Work Refusal → Answer
answer_of chip image w (Ok work) = work_answer chip image w work
answer_of chip image w (Err r) = refuse r

-- ---- the plan
module _ (chip : LargeChip) (image w : List ℕ) where
  missing_plans : (k : Kind) (g : RegionBlock) (o : Search ℕ)
      → answer_of chip image w (missing_work k g (told_target o)) ≡ recover_to (other_kind k) g.0 (stored_table chip image g.0) o
  unfolding work_answer recover_to
  missing_plans k g none = refl
  missing_plans k g (some b) = refl

  newer_plans : (d : ℤ) (p m : RegionBlock)
      → work_answer chip image w (newer_work d p m)
      ≡ recover_newer d (stored_table chip image p.0) (stored_table chip image m.0) p.0 m.0
  unfolding work_answer recover_newer
  newer_plans (pos n) p m = refl
  newer_plans (negsuc n) p m = refl

module _ {n size : ℕ} {chip : LargeChip} {beside : Option ℕ} {image status : List ℕ} where
  -- the target beside one block
  target_beside : {c : PairCase} → Known n size chip beside image status c → (g : ℕ)
      → target_by chip (seen chip image status) (set (replicate 7 false) g true) ≡ target chip (seen chip image status) (g ∷ [])
  target_beside k g =
      target_flags chip (seen chip image status) (set (replicate 7 false) g true) (g ∷ []) (omega (arith, (known_valid k).region, (known_valid k).right_size)) (flags_more (replicate 7 false) [] g refl flags_none)

  update_plans : (w : List ℕ) (c : PairCase) → Known n size chip beside image status c
      → answer_of chip image w (update_work c) ≡ update_from w (read_case (pages_of chip) (seen chip image status) (untold c))
  unfolding work_answer update_from read_case
  update_plans w (Alone j b) k = refl
  update_plans w (Settled p m) k = ap (λ (t : Table). update_from w (holds p.0 m.0 t)) (sym (known_table k (known_copies k).0))
  update_plans w (Merging p m) k = refl
  update_plans w (Differing d p m) k = refl

  recovery_plans : (w : List ℕ) (c : PairCase) → Known n size chip beside image status c
      → answer_of chip image w (recovery_work chip image status c) ≡ recover_case chip (seen chip image status) (untold c)
  unfolding work_answer recover_case
  recovery_plans w (Alone j g) k =
      ap (λ (t : Search ℕ). answer_of chip image w (missing_work j g (told_target t))) (target_beside k g.0)
      ∙ missing_plans chip image w j g (target chip (seen chip image status) (g.0 ∷ []))
      ∙ ap (λ (t : Table). recover_to (other_kind j) g.0 t (target chip (seen chip image status) (g.0 ∷ []))) (sym (known_table k (known_copies k)))
  recovery_plans w (Settled p m) k = ap (λ (t : Table). plan (fresh (idle t.version))) (sym (known_table k (known_copies k).0))
  recovery_plans w (Merging p m) k =
      ap₂ (λ (x y : Table). plan (fresh (double p.0 m.0 (anded x y)))) (sym (known_table k (known_copies k).0)) (sym (known_table k (known_copies k).1))
  recovery_plans w (Differing d p m) k =
      newer_plans chip image w d p m
      ∙ ap₂ (λ (x y : Table). recover_newer d x y p.0 m.0) (sym (known_table k (known_copies k).0)) (sym (known_table k (known_copies k).1))

module _ (n size : ℕ) (chip : LargeChip) (image status : List ℕ) where
  work_plans : (call : Call) (c : PairCase) → Known n size chip (beside_of call) image status c
      → answer_of chip image (wanted_of call) (work_of call chip image status c) ≡ plan_by_rules chip (seen chip image status) call
  unfolding plan_by_rules update reading recovery
  work_plans (for_update w) c k =
      update_plans w c k ∙ ap (λ x. update_from w (read_case (pages_of chip) (seen chip image status) x)) (sym k.the_case)
  work_plans for_recovery c k = recovery_plans [] c k ∙ ap (recover_case chip (seen chip image status)) (sym k.the_case)

  -- where there is no pair, nothing is planned
  none_plans : (call : Call) (r : Refusal) → pair_case chip (seen chip image status) ≡ no_pair r → refuse r ≡ plan_by_rules chip (seen chip image status) call
  unfolding plan_by_rules update update_from reading read_case recovery recover_case
  none_plans (for_update w) r e = rw e refl
  none_plans for_recovery r e = rw e refl

  -- by the pair's case, or why there is none
  pub call_plans : (call : Call) → lent_chip n size (beside_of call) image status ≡ Ok chip
      → answer_of chip image (wanted_of call) (call_work call chip image status (told_case (pair_case chip (seen chip image status)))) ≡ plan_by_rules chip (seen chip image status) call
  call_plans call e = go (told_case (pair_case chip (seen chip image status))) refl
    where
      go : (t : Result PairCase Refusal) → told_case (pair_case chip (seen chip image status)) ≡ t
          → answer_of chip image (wanted_of call) (call_work call chip image status t) ≡ plan_by_rules chip (seen chip image status) call
      go (Ok c) a = work_plans call c (case_known n size (beside_of call) image status chip c (lent_answers n size (beside_of call) image status chip c e a))
      go (Err r) a = none_plans call r (untold_refused (pair_case chip (seen chip image status)) r a)

-- no block has failed under it
pub work_first : (chip : LargeChip) (image w : List ℕ) (work : Work) → First (work_answer chip image w work)
unfolding work_answer update_from
work_first chip image w (Keep b) = refl
work_first chip image w (Update p m) = refl
work_first chip image w (Copy b t k) = refl
work_first chip image w (Merge p m) = refl

-- ---- where the bitmap comes from
abbrev PlacedIfAny : LargeChip → ℕ → Result Work Refusal → Type 0
PlacedIfAny chip size (Ok work) = Placed chip size work
PlacedIfAny chip size (Err r) = Unit {0}

missing_placed : (chip : LargeChip) (size : ℕ) (k : Kind) (g : RegionBlock) (t : Option RegionBlock) → g.0 < chip.region → PlacedIfAny chip size (missing_work k g t)
missing_placed chip size k g None h = tt
missing_placed chip size k g (Some b) h = h

newer_placed : (chip : LargeChip) (size : ℕ) (d : ℤ) (p m : RegionBlock) → p.0 < chip.region → m.0 < chip.region → Placed chip size (newer_work d p m)
newer_placed chip size (pos n) p m x y = x
newer_placed chip size (negsuc n) p m x y = y

module _ (n size : ℕ) (chip : LargeChip) (image status : List ℕ) where
  work_placed : (call : Call) (c : PairCase) → Known n size chip (beside_of call) image status c
      → PlacedIfAny chip (length (wanted_of call)) (work_of call chip image status c)
  work_placed (for_update w) (Alone j b) k = tt
  work_placed (for_update w) (Settled p m) k = ((known_copies k).0.inside, eqb-true _ _ k.beside_right)
  work_placed (for_update w) (Merging p m) k = tt
  work_placed (for_update w) (Differing d p m) k = tt
  work_placed for_recovery (Alone j g) k = missing_placed chip 0 j g (told_target (target_by chip (seen chip image status) (set (replicate 7 false) g.0 true))) (known_copies k).inside
  work_placed for_recovery (Settled p m) k = tt
  work_placed for_recovery (Merging p m) k = ((known_copies k).0.inside, (known_copies k).1.inside)
  work_placed for_recovery (Differing d p m) k = newer_placed chip 0 d p m (known_copies k).0.inside (known_copies k).1.inside

  pub call_placed : (call : Call) → lent_chip n size (beside_of call) image status ≡ Ok chip
      → (work : Work) → call_work call chip image status (told_case (pair_case chip (seen chip image status))) ≡ Ok work
      → Placed chip (length (wanted_of call)) work
  call_placed call e work w = go (told_case (pair_case chip (seen chip image status))) refl w
    where
      go : (t : Result PairCase Refusal) → told_case (pair_case chip (seen chip image status)) ≡ t → call_work call chip image status t ≡ Ok work
          → Placed chip (length (wanted_of call)) work
      go (Err r) a b = absurd (cc)
      go (Ok c) a b =
          subst (λ (x : Result Work Refusal). PlacedIfAny chip (length (wanted_of call)) x) b
          (work_placed call c (case_known n size (beside_of call) image status chip c (lent_answers n size (beside_of call) image status chip c e a)))

-- of a work that is known
pub placed_by : (chip : LargeChip) (size : ℕ) {work known : Work} → Placed chip size work → work ≡ known → Placed chip size known
placed_by chip size s e = subst (λ (x : Work). Placed chip size x) e s

-- The chip blocks that are told are from N − size to N − 1: each is one of the region's, the last blocks of the chip.
-- Assumes nothing.
use Rattle.std.specs.Prelude.{Result, Ok, Err, Some}
use mathlib.Core.Bool.{Bool, true, false, cond, ◌&&◌}
use mathlib.Core.List.{List, [], ◌∷◌, map}
use mathlib.Core.Option.{Option, none, some}
use mathlib.Core.Path.{◌≡◌, refl, subst, sym}
use Prim.Native.Nat.{ℕ, zero, suc, ◌<◌, ◌≤◌}
use native.Mathlib.Omega.{arith}
use lib.Dec.{eqb}
use lib.IntN.{pos, negsuc}
use lib.ListN.{length}
use Rattle.bbt.proofs.Raw.{Valid, chip_valid}
use Rattle.bbt.proofs.ToldSteps.{tells_steps}
use Rattle.bbt.proofs.Views.{Copies, case_copies}
use Rattle.bbt.specs.Copies.{Table, table, highest}
use Rattle.bbt.specs.Entries.{updated_bytes}
use Rattle.bbt.specs.Failures.{other_block, moved, moved_to, block_fails, step_fails, failure, failures}
use Rattle.bbt.specs.Lent.{on_chip, region_lent, statuses_right, call_lent, judged, lent_reading, table_reading, lent_plan}
use Rattle.bbt.specs.Pages.{View, seen}
use Rattle.bbt.specs.Pairs.{same, Case, no_pair, alone, settled, merging, differing, pair_case}
use Rattle.bbt.specs.Plans.{Step, erase, write, zeros, Job, idle, single, double, Plan, fresh, writes, copy_steps, job_steps, zero_first, steps_of, step_at, Answer, refuse, plan, refused, read_case, reading, updated, update_from, update, target, other_kind, recover_to, recover_newer, recover_case, recovery, Call, for_update, for_recovery, plan_by_rules}
use Rattle.bbt.specs.PowerCuts.{InRegion}
use Rattle.bbt.specs.Told.{chip_block, told_answer, told_step, nth_step}
use Rattle.bbt.specs.declared.Kind.{Kind}
use Rattle.bbt.specs.declared.Kind.TheVariants.{Mirror}
use Rattle.bbt.specs.declared.Step.{Step as ToldStep}
use Rattle.chip.specs.Large.{chip_of, bitmap_bytes, pages_of}
use Rattle.chip.specs.declared.LargeChip.{LargeChip}
use Rattle.chip.specs.declared.Refusal.{Refusal}
use Rattle.plan.specs.Answers.{plan_answer}
use Rattle.table.specs.Tables.{told_reading, table_answer}
use Rattle.claims.specs.Blocks.{TableInRegion, StepInRegion, PlanInRegion, BlocksInRegion}

-- what is found among the numbers below n is below n
abbrev FoundBelow : ℕ → Option ℕ → Type 0
FoundBelow m none = Unit {0}
FoundBelow m (some b) = b < m

highest_below : (m n : ℕ) (f : ℕ → Bool) → n ≤ m → FoundBelow m (highest n f)
unfolding highest
highest_below m zero f h = tt
highest_below m (suc n) f h = go (f n) (highest_below m n f (omega arith))
  where
    go : (t : Bool) → FoundBelow m (highest n f) → FoundBelow m (cond t (some n) (highest n f))
    go true r = omega arith
    go false r = r

module _ (n size : ℕ) (image status : List ℕ) (chip : LargeChip) (is : chip_of n size ≡ Ok chip) where
  abbrev own : LargeChip
  own = record { blocks = n; region = size }

  abbrev R : View
  R = seen chip image status

  inside : (b : ℕ) → b < chip.region → InRegion own (chip_block chip b)
  inside b h = let v : Valid n size chip = chip_valid n size chip is in (omega arith, omega arith)

  table_case : (c : Case) → Copies chip R c → TableInRegion own (told_reading chip (read_case (pages_of chip) R c))
  unfolding read_case
  table_case (no_pair r) x = tt
  table_case (alone k b) x = tt
  table_case (settled p m) x =
      let first = inside p x.0.inside in
      let second = inside m x.1.inside in
      ((omega arith, omega arith), (omega arith, omega arith))
  table_case (merging p m) x = tt
  table_case (differing d p m) x = tt

  table_judged : (l s : Bool) → TableInRegion own (told_reading chip (judged refused l s (reading chip R)))
  unfolding reading
  table_judged true true = table_case (pair_case chip R) (case_copies chip R)
  table_judged true false = tt
  table_judged false s = tt

  -- ---- plans: every block that one names is one of the region's
  abbrev JobIn : Job → Type 0
  JobIn (idle v) = Unit {0}
  JobIn (single k b g t) = (b < chip.region) × (g < chip.region)
  JobIn (double p m t) = (p < chip.region) × (m < chip.region)

  abbrev NewestIn : List ℕ → Type 0
  NewestIn [] = Unit {0}
  NewestIn (b ∷ bs) = b < chip.region

  abbrev AnswerIn : Answer → Type 0
  AnswerIn (refuse r) = Unit {0}
  AnswerIn (plan q) = NewestIn q.failed × JobIn q.job

  update_case : (w : List ℕ) (c : Case) → Copies chip R c → AnswerIn (update_from w (read_case (pages_of chip) R c))
  unfolding read_case update_from
  update_case w (no_pair r) x = tt
  update_case w (alone k b) x = tt
  update_case w (settled p m) x = go (same (updated_bytes o.bitmap w) o.bitmap)
    where
      o : Table
      o = table (pages_of chip) R p

      go : (t : Bool) → AnswerIn (plan (fresh (cond t (idle o.version) (double p m (updated o w)))))
      go true = (tt, tt)
      go false = (tt, (x.0.inside, x.1.inside))
  update_case w (merging p m) x = tt
  update_case w (differing d p m) x = tt

  recovery_case : (c : Case) → Copies chip R c → AnswerIn (recover_case chip R c)
  unfolding recover_case recover_to recover_newer target
  recovery_case (no_pair r) x = tt
  recovery_case (alone k g) x = go (target chip R (g ∷ [])) (highest_below chip.region chip.region _ (omega arith))
    where
      go : (f : Option ℕ) → FoundBelow chip.region f → AnswerIn (recover_to (other_kind k) g (table (pages_of chip) R g) f)
      go none h = tt
      go (some b) h = (tt, (h, x.inside))
  recovery_case (settled p m) x = (tt, tt)
  recovery_case (merging p m) x = (tt, (x.0.inside, x.1.inside))
  recovery_case (differing (pos k) p m) x = (tt, (x.1.inside, x.0.inside))
  recovery_case (differing (negsuc k) p m) x = (tt, (x.0.inside, x.1.inside))

  first_in : (call : Call) → AnswerIn (plan_by_rules chip R call)
  unfolding plan_by_rules update reading recovery
  first_in (for_update w) = update_case w (pair_case chip R) (case_copies chip R)
  first_in for_recovery = recovery_case (pair_case chip R) (case_copies chip R)

  -- its steps name no other
  abbrev block_of : Step → ℕ
  block_of (erase b) = b
  block_of (write b p k t) = b
  block_of (zeros b) = b

  abbrev StepsIn : List Step → Type 0
  StepsIn es = (i : ℕ) (e : Step) → step_at es i ≡ some e → block_of e < chip.region

  no_steps : StepsIn []
  unfolding step_at
  no_steps i e h = absurd (let z : ◌≡◌ {A = ℕ} 0 1 = cc in omega arith)

  more_steps : (x : Step) (es : List Step) → block_of x < chip.region → StepsIn es → StepsIn (x ∷ es)
  unfolding step_at
  more_steps x es h r zero e k = let q : x ≡ e = cc in subst (λ (y : Step). block_of y < chip.region) q h
  more_steps x es h r (suc i) e k = r i e k

  writes_in : (n p b : ℕ) (k : Kind) (t : Table) (es : List Step) → b < chip.region → StepsIn es → StepsIn (writes n p b k t es)
  unfolding writes
  writes_in zero p b k t es h r = r
  writes_in (suc n) p b k t es h r = more_steps (write b p k t) (writes n (suc p) b k t es) h (writes_in n (suc p) b k t es h r)

  copy_in : (b : ℕ) (k : Kind) (t : Table) (es : List Step) → b < chip.region → StepsIn es → StepsIn (copy_steps (pages_of chip) b k t es)
  unfolding copy_steps
  copy_in b k t es h r = more_steps (erase b) (writes (pages_of chip) 0 b k t es) h (writes_in (pages_of chip) 0 b k t es h r)

  job_in : (j : Job) → JobIn j → StepsIn (job_steps (pages_of chip) j)
  unfolding job_steps
  job_in (idle v) h = no_steps
  job_in (single k b g t) h = copy_in b k t [] h.0 no_steps
  job_in (double p m t) h = copy_in p _ t _ h.0 (copy_in m Mirror t [] h.1 no_steps)

  first_zeros : (bs : List ℕ) (es : List Step) → NewestIn bs → StepsIn es → StepsIn (zero_first bs es)
  first_zeros [] es h r = r
  first_zeros (b ∷ bs) es h r = more_steps (zeros b) es h r

  steps-in : (q : Plan) → AnswerIn (plan q) → StepsIn (steps_of (pages_of chip) q)
  steps-in q h = first_zeros q.failed (job_steps (pages_of chip) q.job) h.0 (job_in q.job h.1)

  -- after failed steps too
  moved_in : (j : Job) (b x : ℕ) → JobIn j → x < chip.region → JobIn (moved j b x)
  unfolding moved
  moved_in (idle v) b x h hx = tt
  moved_in (single k c g t) b x h hx = (hx, h.1)
  moved_in (double p m t) b x h hx = go (eqb b p)
    where
      go : (u : Bool) → JobIn (cond u (double x m t) (single Mirror x p t))
      go true = (hx, h.1)
      go false = (hx, h.0)

  block_fails_in : (q : Plan) (b : ℕ) → b < chip.region → AnswerIn (plan q) → AnswerIn (block_fails chip R q b)
  unfolding block_fails moved_to target
  block_fails_in q b hb h = go (target chip R (other_block q.job b ∷ b ∷ q.failed)) (highest_below chip.region chip.region _ (omega arith))
    where
      go : (o : Option ℕ) → FoundBelow chip.region o → AnswerIn (moved_to q b o)
      go none hx = tt
      go (some x) hx = (hb, moved_in q.job b x h.1 hx)

  step_fails_in : (q : Plan) (e : Option Step) → ((x : Step) → e ≡ some x → block_of x < chip.region) → AnswerIn (plan q) → AnswerIn (step_fails chip R q e)
  unfolding step_fails
  step_fails_in q none b h = tt
  step_fails_in q (some (erase c)) b h = block_fails_in q c (b (erase c) refl) h
  step_fails_in q (some (write c p k t)) b h = block_fails_in q c (b (write c p k t) refl) h
  step_fails_in q (some (zeros c)) b h = tt

  failures_in : (a : Answer) (is : List ℕ) → AnswerIn a → AnswerIn (failures chip R a is)
  unfolding failures failure
  failures_in a [] h = h
  failures_in (refuse x) (i ∷ is) h = failures_in (refuse x) is tt
  failures_in (plan q) (i ∷ is) h =
      failures_in (step_fails chip R q (step_at (steps_of (pages_of chip) q) i)) is
      (step_fails_in q (step_at (steps_of (pages_of chip) q) i) (λ x e. steps-in q h i x e) h)

  -- ---- as they are told
  step_told : (e : Step) → block_of e < chip.region → StepInRegion own (Some (told_step chip e))
  step_told (erase b) h = inside b h
  step_told (write b p k t) h = inside b h
  step_told (zeros b) h = inside b h

  nth_told : (es : List Step) → StepsIn es → (i : ℕ) → i < length (map (told_step chip) es) → StepInRegion own (nth_step (map (told_step chip) es) i)
  unfolding nth_step step_at
  nth_told [] h i l = absurd (omega arith)
  nth_told (e ∷ es) h zero l = step_told e (h 0 e refl)
  nth_told (e ∷ es) h (suc i) l = nth_told es (λ k x z. h (suc k) x z) i (omega arith)

  told_in : (a : Answer) → AnswerIn a → PlanInRegion own (told_answer chip a)
  told_in (refuse r) h = tt
  told_in (plan q) h = λ i l.
      subst (λ (ss : List ToldStep). StepInRegion own (nth_step ss i)) (sym (tells_steps chip q))
      (nth_told (steps_of (pages_of chip) q) (steps-in q h) i (subst (λ (ss : List ToldStep). i < length ss) (tells_steps chip q) l))

  plan_judged : (call : Call) (failed : List ℕ) (l s : Bool) → PlanInRegion own (told_answer chip (judged refuse l s (failures chip R (plan_by_rules chip R call) failed)))
  plan_judged call failed true true = told_in (failures chip R (plan_by_rules chip R call) failed) (failures_in (plan_by_rules chip R call) failed (first_in call))
  plan_judged call failed true false = tt
  plan_judged call failed false s = tt

pub blocks_in_region : (n size : ℕ) (image status : List ℕ) → BlocksInRegion n size image status
unfolding table_answer table_reading lent_reading plan_answer lent_plan
blocks_in_region n size image status = record { tables = λ room. tables room (chip_of n size) refl; plans = λ call failed. plans call failed (chip_of n size) refl }
  where
    tables : (room : List ℕ) (a : Result LargeChip Refusal) → chip_of n size ≡ a
        → TableInRegion (record { blocks = n; region = size }) (on_chip Err a (λ chip. told_reading chip (on_chip refused a (λ own. lent_reading own image status room))))
    tables room (Err r) e = tt
    tables room (Ok chip) e = table_judged n size image status chip e (region_lent chip image status && eqb (length room) (bitmap_bytes chip)) (statuses_right status)

    plans : (call : Call) (failed : List ℕ) (a : Result LargeChip Refusal) → chip_of n size ≡ a
        → PlanInRegion (record { blocks = n; region = size }) (on_chip Err a (λ chip. told_answer chip (lent_plan chip call image status failed)))
    plans call failed (Err r) e = tt
    plans call failed (Ok chip) e = plan_judged n size image status chip e call failed (region_lent chip image status && call_lent chip call) (statuses_right status)

-- A step of the plan in hand fails. What planning then answers, from the first plan's snapshot and the failed steps' numbers: the failed block is
-- retired and its copy goes to a target, or there is none (11); zeros that fail are 12. The blocks that are neither the two copies' nor failed
-- have not been touched since the snapshot, so the target is fit now as it was then.
-- Assumes nothing.
use mathlib.Core.Bool.{true, false, true≢false}
use mathlib.Core.List.{List, [], ◌∷◌, ◌++◌}
use mathlib.Core.Logic.{◌⊎◌, inl, inr, ◌≢◌}
use mathlib.Core.Option.{Option, none, some}
use mathlib.Core.Path.{◌≡◌, refl, sym, ap, ◌∙◌}
use Prim.Native.Nat.{ℕ, zero, suc, ◌<◌}
use borrow.Author.Tests.{eq-eqb, ne_eqb}
use Rattle.chip.specs.Large.{pages_of}
use Rattle.chip.specs.declared.LargeChip.{LargeChip}
use Rattle.chip.specs.declared.Refusal.TheVariants.{NoTarget, ZeroFailed}
use Rattle.bbt.specs.declared.Kind.{Kind}
use Rattle.bbt.specs.declared.Kind.TheVariants.{Primary, Mirror}
use Rattle.bbt.specs.Copies.{Table, reads_bad}
use Rattle.bbt.specs.Failures.{other_block, moved, moved_to, block_fails, step_fails, failure, failures}
use Rattle.bbt.specs.Histories.{Snapshot, snapshot, with_failed, answer}
use Rattle.bbt.specs.Lent.{call_lent}
use Rattle.bbt.specs.Pages.{View}
use Rattle.bbt.specs.Plans.{Step, erase, write, zeros, Job, idle, single, double, Plan, writes, copy_steps, job_steps, zero_first, steps_of, step_at, Answer, refuse, plan, Call, plan_by_rules, member, target}
use Rattle.bbt.specs.PowerCuts.{Retires, IfItFails}
use Rattle.bbt.specs.Regions.{Region, view}
use Rattle.bbt.proofs.Forms.{Frame, frame_bad}
use Rattle.bbt.proofs.LeftPages.{Judged}
use Rattle.bbt.proofs.Numbering.{Tracked, from_at}
use Rattle.bbt.proofs.Planning.{in_force, plan_is, Target, target_is}
use Rattle.bbt.proofs.Searches.{no_confusion}

-- ---- the copy being written
-- the first of two, or the last: of two, or the only one
pub data Turn : Type 0 where
  first_copy : Turn
  last_copy : Turn

-- a plan's job, where a copy of x, of kind k, goes to block b, and the other copy's block is g
pub data Doing : Turn → Kind → ℕ → ℕ → Table → Job → Type 0 where
  doing_first : {b g : ℕ} {x : Table} → Doing first_copy Primary b g x (double b g x)
  doing_second : {b g : ℕ} {x : Table} → Doing last_copy Mirror b g x (double g b x)
  doing_only : {k : Kind} {b g : ℕ} {x : Table} → Doing last_copy k b g x (single k b g x)

-- the job from this copy on, with it at b
unfoldable pub job_at : Turn → Kind → ℕ → Table → ℕ → Job
job_at first_copy k g x b = double b g x
job_at last_copy k g x b = single k b g x

doing_other : {d : Turn} {k : Kind} {b g : ℕ} {x : Table} {j : Job} → g ≢ b → Doing d k b g x j → other_block j b ≡ g
unfolding other_block
doing_other {b = b} n doing_first = rw (eq-eqb b b refl)
doing_other {b = b} {g = g} n doing_second = rw (ne_eqb b g (λ e. n (sym e)))
doing_other n doing_only = refl

doing_moved : {d : Turn} {k : Kind} {b g : ℕ} {x : Table} {j : Job} → g ≢ b → Doing d k b g x j → (y : ℕ) → moved j b y ≡ job_at d k g x y
unfolding moved job_at
doing_moved {b = b} n doing_first y = rw (eq-eqb b b refl)
doing_moved {b = b} {g = g} n doing_second y = rw (ne_eqb b g (λ e. n (sym e)))
doing_moved n doing_only y = refl

pub doing_again : {d : Turn} {k : Kind} {b g : ℕ} {x : Table} {j : Job} → Doing d k b g x j → (y : ℕ) → Doing d k y g x (job_at d k g x y)
unfolding job_at
doing_again doing_first y = doing_first
doing_again doing_second y = doing_only
doing_again doing_only y = doing_only

-- ---- zeros go to a failed block alone
no_zeros_writes : (n p b : ℕ) (k : Kind) (t : Table) (rest : List Step) → ((i z : ℕ) → step_at rest i ≢ some (zeros z))
    → (i z : ℕ) → step_at (writes n p b k t rest) i ≢ some (zeros z)
unfolding writes step_at
no_zeros_writes zero p b k t rest h i z e = h i z e
no_zeros_writes (suc n) p b k t rest h zero z e = no_confusion (cc)
no_zeros_writes (suc n) p b k t rest h (suc i) z e = no_zeros_writes n (suc p) b k t rest h i z e

no_zeros_copy : (P b : ℕ) (k : Kind) (t : Table) (rest : List Step) → ((i z : ℕ) → step_at rest i ≢ some (zeros z))
    → (i z : ℕ) → step_at (copy_steps P b k t rest) i ≢ some (zeros z)
unfolding copy_steps step_at
no_zeros_copy P b k t rest h zero z e = no_confusion (cc)
no_zeros_copy P b k t rest h (suc i) z e = no_zeros_writes P 0 b k t rest h i z e

no_zeros_none : (i z : ℕ) → step_at [] i ≢ some (zeros z)
unfolding step_at
no_zeros_none i z e = no_confusion (cc)

no_zeros_job : (P : ℕ) (j : Job) (i z : ℕ) → step_at (job_steps P j) i ≢ some (zeros z)
unfolding job_steps
no_zeros_job P (idle v) = no_zeros_none
no_zeros_job P (single k b g t) = no_zeros_copy P b k t [] no_zeros_none
no_zeros_job P (double p m t) = no_zeros_copy P p Primary t (copy_steps P m Mirror t []) (no_zeros_copy P m Mirror t [] no_zeros_none)

zeros_failed : (bs : List ℕ) (es : List Step) → ((i z : ℕ) → step_at es i ≢ some (zeros z)) → (i z : ℕ) → step_at (zero_first bs es) i ≡ some (zeros z) → member z bs ≡ true
unfolding step_at member
zeros_failed [] es h i z e = absurd (h i z e)
zeros_failed (b ∷ bs) es h zero z e = let w : z ≡ b = cc in rw (w, eq-eqb b b refl)
zeros_failed (b ∷ bs) es h (suc i) z e = absurd (h i z e)

-- ---- one failed step more
pub failures_more : (chip : LargeChip) (R : View) (a : Answer) (is : List ℕ) (i : ℕ) → failures chip R a (is ++ (i ∷ [])) ≡ failure chip R (failures chip R a is) i
unfolding failures
failures_more chip R a [] i = refl
failures_more chip R a (j ∷ js) i = failures_more chip R (failure chip R a j) js i

-- a step, not of zeros, at block b
pub data At : Step → ℕ → Type 0 where
  erase_at : {b : ℕ} → At (erase b) b
  write_at : {b p : ℕ} {k : Kind} {t : Table} → At (write b p k t) b

at_fails : (chip : LargeChip) (R : View) (q : Plan) (e : Step) (b : ℕ) → At e b → step_fails chip R q (some e) ≡ block_fails chip R q b
unfolding step_fails
at_fails chip R q e b erase_at = refl
at_fails chip R q e b write_at = refl

pub answered_by : (chip : LargeChip) {e : Step} {b : ℕ} → At e b → (x : Answer) → (x ≡ refuse NoTarget) ⊎ Retires chip x b → IfItFails chip e x
answered_by chip erase_at x h = h
answered_by chip write_at x h = h

pub zeros_answered : (chip : LargeChip) {e : Step} {z : ℕ} {x : Answer} → e ≡ zeros z → x ≡ refuse ZeroFailed → IfItFails chip e x
zeros_answered chip {x = x} u h = rw u h

module _ {chip : LargeChip} where
  -- the plan in hand, at region r, which planning gives for a call of a: it writes a copy of x, of kind k, to b, while the other's block is g
  pub record Held (r : Region chip) (call : Call) (a : Snapshot chip) (d : Turn) (k : Kind) (b g : ℕ) (x : Table) : Type 0 where
    pub q : Plan
    pub lent : call_lent chip call ≡ true
    pub forced : in_force call a ≡ plan q
    pub doing : Doing d k b g x q.job
    -- blocks of none of these reads as it did in the snapshot
    pub since : (c : ℕ) → c < chip.region → c ≢ b → c ≢ g → member c q.failed ≡ false → reads_bad (view r) c ≡ reads_bad (view a.from) c

module _ {chip : LargeChip} (ok : Judged chip) where
  -- a plan as it is made
  pub held_first : {r : Region chip} {call : Call} {d : Turn} {k : Kind} {b g : ℕ} {x : Table} (q : Plan) → call_lent chip call ≡ true
      → plan_by_rules chip (view r) call ≡ plan q → Doing d k b g x q.job → Held r call (snapshot r) d k b g x
  unfolding failures
  held_first q l e w = record { q = q; lent = l; forced = e; doing = w; since = λ c h n m f. refl }

  -- the first of two copies is placed: the second's turn
  pub held_turn : {r : Region chip} {call : Call} {a : Snapshot chip} {p m : ℕ} {x : Table} → Held r call a first_copy Primary p m x
      → Held r call a last_copy Mirror m p x
  held_turn h =
      record { q = h.q; lent = h.lent; forced = h.forced; doing = go h.doing; since = λ c l n o f. h.since c l o n f }
    where
      go : {p m : ℕ} {x : Table} {j : Job} → Doing first_copy Primary p m x j → Doing last_copy Mirror m p x j
      go doing_first = doing_second

  module _ (r s : Region chip) {call : Call} {a : Snapshot chip} {i : ℕ} {e : Step} {es : List Step} {d : Turn} {k : Kind} {b g : ℕ} {x : Table}
      (t : Tracked call a i (e ∷ es)) (h : Held r call a d k b g x) where
    answered : answer call a ≡ plan h.q
    answered = plan_is ok a call ∙ rw (h.lent, h.forced)

    -- the next step is that of its number
    here : step_at (steps_of (pages_of chip) h.q) i ≡ some e
    here =
        let z : plan t.made ≡ plan h.q = sym t.by_plan ∙ answered in
        let w : t.made ≡ h.q = cc in
        ap (λ (q : Plan). step_at (steps_of (pages_of chip) q) i) (sym w) ∙ from_at (steps_of (pages_of chip) t.made) i t.left

    -- the step is done: it touched block b, or it wrote zeros
    pub held_next : (z : ℕ) → Frame r s z → (z ≡ b) ⊎ (e ≡ zeros z) → Held s call a d k b g x
    held_next z f u =
        record {
          q = h.q;
          lent = h.lent;
          forced = h.forced;
          doing = h.doing;
          since = λ c l n m w. frame_bad ok r s z f c l (off c n w u) ∙ h.since c l n m w;
        }
      where
        off : (c : ℕ) → c ≢ b → member c h.q.failed ≡ false → (z ≡ b) ⊎ (e ≡ zeros z) → c ≢ z
        off c n w (inl v) y = n (y ∙ v)
        off c n w (inr v) y =
            let m : member z h.q.failed ≡ true =
            zeros_failed h.q.failed (job_steps (pages_of chip) h.q.job) (no_zeros_job (pages_of chip) h.q.job) i z (here ∙ ap some v) in
            true≢false (sym m ∙ (ap (λ (c : ℕ). member c h.q.failed) (sym y) ∙ w))

    -- ---- it fails
    pub replanned : in_force call (with_failed a i) ≡ step_fails chip (view a.from) h.q (some e)
    unfolding failure
    replanned = failures_more chip (view a.from) (plan_by_rules chip (view a.from) call) a.failed i ∙ rw (h.forced, here)

    answer_anew : answer call (with_failed a i) ≡ step_fails chip (view a.from) h.q (some e)
    answer_anew = plan_is ok (with_failed a i) call ∙ rw (h.lent, replanned)

    pub zeros_refused : (z : ℕ) → e ≡ zeros z → answer call (with_failed a i) ≡ refuse ZeroFailed
    unfolding step_fails
    zeros_refused z u = answer_anew ∙ rw u

    pub zeros_no_plan : (z : ℕ) → e ≡ zeros z → (q : Plan) → answer call (with_failed a i) ≡ plan q → ⊥
    zeros_no_plan z u q p = let y : refuse ZeroFailed ≡ plan q = sym (zeros_refused z u) ∙ p in no_confusion (cc)

    module _ (at : At e b) (apart : g ≢ b) where
      abbrev avoid : List ℕ
      avoid = g ∷ b ∷ h.q.failed

      by_target : (o : Option ℕ) → target chip (view a.from) avoid ≡ o → step_fails chip (view a.from) h.q (some e) ≡ moved_to h.q b o
      unfolding block_fails
      by_target o u = at_fails chip (view a.from) h.q e b at ∙ rw (doing_other apart h.doing, u)

      -- the plan made anew: the copy goes to block y
      pub record Anew (q : Plan) : Type 0 where
        pub y : ℕ
        pub is : q ≡ record { failed = b ∷ h.q.failed; job = job_at d k g x y }
        pub chosen : Target a.from (g ∷ b ∷ h.q.failed) y
        pub forces : in_force call (with_failed a i) ≡ plan (record { failed = b ∷ h.q.failed; job = job_at d k g x y })

      pub anew : (q : Plan) → answer call (with_failed a i) ≡ plan q → Anew q
      unfolding moved_to
      anew q p = go (target chip (view a.from) avoid) refl
        where
          go : (o : Option ℕ) → target chip (view a.from) avoid ≡ o → Anew q
          go none u = let z : refuse NoTarget ≡ plan q = sym (answer_anew ∙ by_target none u) ∙ p in absurd (no_confusion (cc))
          go (some y) u =
              let z : plan (record { failed = b ∷ h.q.failed; job = moved h.q.job b y }) ≡ plan q = sym (answer_anew ∙ by_target (some y) u) ∙ p in
              let v : moved h.q.job b y ≡ job_at d k g x y = doing_moved apart h.doing y in
              record {
                y = y;
                is = cc;
                chosen = target_is ok a.from avoid y u;
                forces = replanned ∙ (by_target (some y) u ∙ ap (λ (j : Job). plan (record { failed = b ∷ h.q.failed; job = j })) v);
              }

      pub at_answer : (answer call (with_failed a i) ≡ refuse NoTarget) ⊎ Retires chip (answer call (with_failed a i)) b
      unfolding moved_to step_at
      at_answer = go (target chip (view a.from) avoid) refl
        where
          go : (o : Option ℕ) → target chip (view a.from) avoid ≡ o
              → (answer call (with_failed a i) ≡ refuse NoTarget) ⊎ Retires chip (answer call (with_failed a i)) b
          go none u = inl (answer_anew ∙ by_target none u)
          go (some y) u = inr (record { failed = b ∷ h.q.failed; job = moved h.q.job b y }, answer_anew ∙ by_target (some y) u, refl)

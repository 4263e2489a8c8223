-- Demand 3 in C: each event of a driver is an event of a history of demand 3, step by step (`event`): what the driver finds in its buffers is
-- what that history speaks of (`Found`). So what holds at every moment of a history holds of the driver.
-- Assumes nothing.
use Rattle.std.specs.Prelude.{Some}
use mathlib.Core.List.{List, [], ◌∷◌, map}
use mathlib.Core.Logic.{◌⊎◌, inl, inr, ⊎_elim, ◌≢◌}
use mathlib.Core.Option.{some}
use mathlib.Core.Path.{◌≡◌, refl, sym, ap, ◌∙◌, subst}
use Prim.Native.Nat.{ℕ, suc, ◌+◌, ◌-◌, ◌<◌, ◌≤◌}
use native.Mathlib.Omega.{arith}
use borrow.Author.Tests.{ne_eqb}
use lib.ListN.{length}
use Rattle.bbt.proofs.LeftPages.{Judged, judge}
use Rattle.bbt.proofs.Planning.{plan_asked, update_reads}
use Rattle.bbt.proofs.Ready.{plan_ready}
use Rattle.bbt.proofs.PowerCuts.{demand3}
use Rattle.bbt.proofs.Raw.{chip_valid}
use Rattle.bbt.proofs.ToldSteps.{tells_steps}
use Rattle.bbt.specs.Copies.{Table}
use Rattle.bbt.specs.Histories.{Touches, Done, Cut, Written, OthersKept, Last, one_table, as_planned, Closes, AfterStep, Snapshot, snapshot, with_failed, answer, asked, Hand, empty, holding, World, world, plan_refused, update_planned, recovery_planned, step_done, step_cut, cut_between, step_failed, step_given_up, History, start, next}
use Rattle.bbt.specs.Images.{Imaged, page-image, page_image}
use Rattle.bbt.specs.Plans.{Step, erase, write, zeros, Job, idle, single, double, Plan, fresh, job_steps, steps_of, step_at, writes, copy_steps, Answer, refuse, plan, updated, Call, for_update, for_recovery, reading, holds}
use Rattle.bbt.specs.PowerCuts.{NotGoodKept, ImageOf, IfItFails, Retires as RetiresPlan, Start, settled_at, Settled, Harmless, Promise, SafeUnderCuts}
use Rattle.bbt.specs.Regions.{Region, view, Blank, Complete, Zeroed, Unreadable, Lost, Kept}
use Rattle.bbt.specs.Told.{chip_block, told_plan, told_answer, told_step, told_steps, nth_step}
use Rattle.bbt.specs.declared.Kind.TheVariants.{Primary, Mirror}
use Rattle.bbt.specs.declared.Step.{Step as ToldStep}
use Rattle.chip.specs.Large.{bitmap_bytes, pages_of}
use Rattle.chip.specs.declared.LargeChip.{LargeChip}
use Rattle.chip.specs.declared.Refusal.{Refusal}
use Rattle.chip.specs.declared.Refusal.TheVariants.{NoTarget, ZeroFailed}
use Rattle.images.specs.Made.{image_answer_by, image_after_by}
use Rattle.packing.specs.Packing.{refusal_code, steps_put}
use Rattle.reamsickle.specs.Boundary.{code_by}
use Rattle.reamsickle.specs.LargeBoundary.{plan_code_by}
use Rattle.claims.specs.Driver.{refusal_in, steps_in, zeroes, driver_step, place_of, StepTouches, plan_told, steps_told, page_told, table_told, StepDone, StepCut, RestKept, DriverHand, nothing, doing, DriverWorld, at, as_told, StepsLeft, DriverEvent, refused as was-refused, update as was-updated, recovery as was-recovered, done as was-done, cut as was-cut, fail as was-failed, give_up as was-given-up, cut_between as was-cut-between, no_step_left as had-no-step, no_plan as had-no-plan, DriverHistory, start as at-start, next as and_then}
use Rattle.claims.specs.DriverCuts.{region_at, Answers, DriverStart, from_settled, DriverSettles, DriverHarmless, Retires, DriverFails, DriverNext, DriverPromise, Demand3InC}
use Rattle.claims.proofs.Found.{block_of, seen_step, as_many, step_seen, plan-told, refused_told, plan_answered, count_told, filled, page_answered, page_filled, read_answered, table-told, read_settled}

module _ {chip : LargeChip} where
  -- the plan that a driver has in hand is the one of the history: the same call, snapshot and number; its bytes tell the plan's steps
  pub data Follows : DriverHand chip → Hand chip → Type 0 where
    neither : Follows nothing empty
    both : {call : Call} {a : Snapshot chip} {steps : List ℕ} {n i : ℕ} {es : List Step} (q : Plan) (room : List ℕ)
        → answer call a ≡ plan q → steps ≡ steps_put (told_steps (told_plan chip q)) room → n ≡ length (steps_of (pages_of chip) q)
        → length es + i ≡ n → Follows (doing call a steps n i) (holding call a i es)

  pub record Like (w : World chip) (r : Region chip) (h : DriverHand chip) (l : Last) : Type 0 where
    hand : Hand chip
    so_far : History w (world r hand l)
    follows : Follows h hand

  abbrev pub LikeAt : World chip → DriverWorld chip → Type 0
  LikeAt w (at r h l) = Like w r h l

-- ---- a step, as the history has it
module _ (chip : LargeChip) where
  pub place : (b : ℕ) → place_of chip (chip_block chip b).0 ≡ b
  place b = omega arith

module _ {chip : LargeChip} where
  others : {r s : Region chip} (e : Step) → RestKept (seen_step chip e) r s → OthersKept e r s
  others e h b p hb hp n = h b p hb hp (λ z. n (untouched e b p z))
    where
      untouched : (e : Step) (b p : ℕ) → StepTouches chip (seen_step chip e) b p → Touches e b p
      untouched (erase c) b p h = h ∙ place chip c
      untouched (write c q k t) b p h = (h.0 ∙ place chip c, h.1)
      untouched (zeros c) b p h = (h.0 ∙ place chip c, h.1)

  written : {s : Region chip} {b p : ℕ} (l : List ℕ) (x : Imaged) (page : List ℕ) → x ≡ page-image l → Complete s b p (image_after_by x page)
      → Written s b p x
  written {s} {b} {p} l x page e h = record { page = l; given = e; complete = subst (λ (y : Imaged). Complete s b p (image_after_by y page)) e h }

  -- done, or cut or failed
  step_is_done : (s : Region chip) (e : Step) (x : Imaged) (page : List ℕ) → ImageOf e x → StepDone (image_after_by x page) (seen_step chip e) s → Done x e s
  step_is_done s (erase b) x page i h = λ p l. subst (λ (c : ℕ). Blank s c p) (place chip b) (h p l)
  step_is_done s (write b p k t) x page i h =
      written (page_image k t p) x page i (subst (λ (c : ℕ). Complete s c p (image_after_by x page)) (place chip b) h)
  step_is_done s (zeros b) x page i h = subst (λ (c : ℕ). Zeroed s c 0) (place chip b) h

  step_is_cut : (r s : Region chip) (e : Step) (x : Imaged) (page : List ℕ) → ImageOf e x → StepCut (image_after_by x page) (seen_step chip e) r s → Cut x e r s
  step_is_cut r s (erase b) x page i h =
      λ p l. subst (λ (c : ℕ). Kept r s c p ⊎ (Blank s c p ⊎ Lost s c p)) (place chip b) (h p l)
  step_is_cut r s (write b p k t) x page i h =
      ⊎_elim (λ w. inl w) (λ w. inr (⊎_elim (λ v. inl (written (page_image k t p) x page i v)) (λ v. inr v) w))
      (subst (λ (c : ℕ). Blank s c p ⊎ (Complete s c p (image_after_by x page) ⊎ Lost s c p)) (place chip b) h)
  step_is_cut r s (zeros b) x page i h = subst (λ (c : ℕ). Kept r s c 0 ⊎ (Zeroed s c 0 ⊎ Unreadable s c 0)) (place chip b) h

  after_step : {s : Region chip} {l l' : Last} (left : ℕ) (es : List Step) → left ≡ length es → StepsLeft s left l l' → AfterStep s es l l'
  after_step left [] e h = h.none e
  after_step left (x ∷ es) e h = h.some (λ z. omega arith)

-- ---- the first step of a plan
first_told : (chip : LargeChip) (es : List Step) {e : Step} → step_at es 0 ≡ some e → nth_step (map (told_step chip) es) 0 ≡ Some (told_step chip e)
unfolding step_at nth_step
first_told chip [] h = absurd (let z : ◌≡◌ {A = ℕ} 0 1 = cc in omega arith)
first_told chip (x ∷ es) {e} h = let q : x ≡ e = cc in ap (λ (y : Step). Some (told_step chip y)) q

-- ---- a world that a history from a settled pair leads to
module _ {chip : LargeChip} where
  abbrev pub Reached : World chip → Type 0
  Reached w = (v : World chip) × Start v × History v w

  pub joined : {u v w : World chip} → History u v → History v w → History u w
  joined h start = h
  joined h (next k e) = next (joined h k) e

-- ---- event by event
module _ {chip : LargeChip} (ok : Judged chip) (few : chip.blocks ≤ 32768) (safe : SafeUnderCuts chip) where
  promised : {w v : World chip} → Reached w → History w v → Promise v
  promised s h = safe.promise s.1 (joined s.2 h)

  -- what is known of the next step: where it is, what its bytes tell, and its page
  pub record Next (call : Call) (a : Snapshot chip) (steps : List ℕ) (i : ℕ) (r : Region chip) (e : Step) : Type 0 where
    pub harmless : Harmless r e
    pub told : driver_step steps i ≡ seen_step chip e
    pub its_image : ImageOf e (asked call a i)
    pub if_it_fails : IfItFails chip e (answer call (with_failed a i))

  block_small : (r : Region chip) (e : Step) → Harmless r e → (chip_block chip (block_of e)).0 < 65536
  block_small r (erase b) h = omega (arith, few, h.0.1)
  block_small r (write b p k t) h = omega (arith, few, h.0.1)
  block_small r (zeros b) h = omega (arith, few, h.1)

  pub next_is : {w : World chip} {r : Region chip} {a : Snapshot chip} {l : Last} {call : Call} {i : ℕ} {e : Step} {es : List Step} (q : Plan) (room : List ℕ) → Reached w
      → History w (world r (holding call a i (e ∷ es)) l) → answer call a ≡ plan q
      → i < length (steps_of (pages_of chip) q) → Next call a (steps_put (told_steps (told_plan chip q)) room) i r e
  next_is {r = r} {i = i} {e = e} q room s h planned inside =
      let n = (promised s h).next_step in
      let same : plan n.1.made ≡ plan q = sym n.1.by_plan ∙ planned in
      let made : n.1.made ≡ q = cc in
      let numbered : nth_step (told_steps (told_plan chip q)) i ≡ Some (told_step chip e) = subst (λ (x : Plan). nth_step (told_steps (told_plan chip x)) i ≡ Some (told_step chip e)) made n.1.by_number in
      record {
        harmless = n.0;
        told = step_seen (told_steps (told_plan chip q)) room i chip e numbered (block_small r e n.0);
        its_image = n.1.by_image;
        if_it_fails = n.2;
      }

  -- ---- a plan is made, or refused
  refusing : {w : World chip} {r : Region chip} {h : DriverHand chip} {l : Last} → Like w r h l → (call : Call) (steps : List ℕ) → length steps ≡ 64
      → refusal_in (plan_told call (snapshot r) steps) ≢ 0 → Like w r h l
  refusing {w} {r} {h} {l} k call steps long ne = go (answer call (snapshot r)) refl
    where
      go : (x : Answer) → answer call (snapshot r) ≡ x → Like w r h l
      go (refuse x) e = record { hand = k.hand; so_far = next k.so_far (plan_refused call x e); follows = k.follows }
      go (plan q) e = absurd (ne (plan_answered ok (snapshot r) call steps long q e))

  -- the plan's bytes and its number of steps
  pub planned_both : (a : Snapshot chip) (call : Call) (steps : List ℕ) → length steps ≡ 64 → (q : Plan) → answer call a ≡ plan q
      → Follows (doing call a (steps_told call a steps) (steps_in (plan_told call a steps)) 0) (holding call a 0 (steps_of (pages_of chip) q))
  planned_both a call steps long q e =
      let c = count_told ok a call steps long q e in
      both {i = 0} {es = steps_of (pages_of chip) q} q steps e (filled ok a call steps long q e) c (omega arith)

  -- an update's plan as it is made, with or without steps
  pub as-told : (o n : Table) (j : Job) → as_told o n (length (steps_of (pages_of chip) (fresh j))) ≡ as_planned o n j
  unfolding as_planned job_steps copy_steps
  as-told o n (idle v) = refl
  as-told o n (single k b g t) = rw (ne_eqb (suc (length (writes (pages_of chip) 0 b k t []))) 0 (λ z. omega arith))
  as-told o n (double p m t) =
      rw (ne_eqb (suc (length (writes (pages_of chip) 0 p Primary t (copy_steps (pages_of chip) m Mirror t [])))) 0 (λ z. omega arith))

  pub as_made : (r : Region chip) (call : Call) (o n : Table) (q : Plan) → answer call (snapshot r) ≡ plan q
      → as_told o n (length (steps_of (pages_of chip) q)) ≡ as_planned o n q.job
  as_made r call o n q e =
      let m = plan_ready ok r call q e in
      subst (λ (x : Plan). as_told o n (length (steps_of (pages_of chip) x)) ≡ as_planned o n x.job) (sym m.1) (as-told o n m.0)

  updating : {w : World chip} {r : Region chip} {h : DriverHand chip} {l : Last} → Like w r h l → (wanted steps room : List ℕ) → length steps ≡ 64
      → length room ≡ bitmap_bytes chip → refusal_in (plan_told (for_update wanted) (snapshot r) steps) ≡ 0
      → Like w r
      (doing (for_update wanted) (snapshot r) (steps_told (for_update wanted) (snapshot r) steps) (steps_in (plan_told (for_update wanted) (snapshot r) steps)) 0)
      (as_told (table_told r room) (updated (table_told r room) wanted) (steps_in (plan_told (for_update wanted) (snapshot r) steps)))
  updating {w} {r} k wanted steps room long lr z = go (answer call (snapshot r)) refl
    where
      call : Call
      call = for_update wanted

      t : Table
      t = table_told r room

      go : (x : Answer) → answer call (snapshot r) ≡ x
          → Like w r (doing call (snapshot r) (steps_told call (snapshot r) steps) (steps_in (plan_told call (snapshot r) steps)) 0)
          (as_told t (updated t wanted) (steps_in (plan_told call (snapshot r) steps)))
      go (refuse x) e = absurd (refused_told ok (snapshot r) call steps long x e z)
      go (plan q) e =
          let a = update_reads ok r wanted q (plan_asked ok r call q e) in
          let is : t ≡ a.2 = table-told ok r room lr a.0 a.1 a.2 a.3 in
          let holds_it : reading chip (view r) ≡ holds a.0 a.1 t = rw is a.3 in
          let h = next k.so_far (update_planned wanted a.0 a.1 t q e holds_it) in
          let last : as_told t (updated t wanted) (steps_in (plan_told call (snapshot r) steps)) ≡ as_planned t (updated t wanted) q.job =
          rw (count_told ok (snapshot r) call steps long q e) (as_made r call t (updated t wanted) q e) in
          record {
            hand = holding call (snapshot r) 0 (steps_of (pages_of chip) q);
            so_far = rw last h;
            follows = planned_both (snapshot r) call steps long q e;
          }

  recovering : {w : World chip} {r : Region chip} {h : DriverHand chip} {l : Last} → Like w r h l → (steps : List ℕ) (l' : Last) → length steps ≡ 64
      → refusal_in (plan_told for_recovery (snapshot r) steps) ≡ 0 → Closes r l l'
      → Like w r (doing for_recovery (snapshot r) (steps_told for_recovery (snapshot r) steps) (steps_in (plan_told for_recovery (snapshot r) steps)) 0) l'
  recovering {w} {r} k steps l' long z cl = go (answer for_recovery (snapshot r)) refl
    where
      go : (x : Answer) → answer for_recovery (snapshot r) ≡ x
          → Like w r (doing for_recovery (snapshot r) (steps_told for_recovery (snapshot r) steps) (steps_in (plan_told for_recovery (snapshot r) steps)) 0) l'
      go (refuse x) e = absurd (refused_told ok (snapshot r) for_recovery steps long x e z)
      go (plan q) e = record {
        hand = holding for_recovery (snapshot r) 0 (steps_of (pages_of chip) q);
        so_far = next k.so_far (recovery_planned q l' e cl);
        follows = planned_both (snapshot r) for_recovery steps long q e;
      }

  -- ---- a step is done, cut, or fails
  module _ {w : World chip} {r : Region chip} {a : Snapshot chip} {l : Last} {call : Call} {steps : List ℕ} {n i : ℕ} (s : Reached w) (t : Region chip)
      (page : List ℕ) (inside : i < n) (long : length page ≡ 2112) (rest : RestKept (driver_step steps i) r t) where
    stepping : (l' : Last) (h : Hand chip) → History w (world r h l) → Follows (doing call a steps n i) h → StepDone (page_told call a i page) (driver_step steps i) t
        → StepsLeft t (n - suc i) l l' → Like w t (doing call a steps n (suc i)) l'
    stepping l' _ so_far (both {es = []} q room e f c m) d left = absurd (omega arith)
    stepping l' _ so_far (both {es = x ∷ es} q room e f c m) d left =
        let nx = next_is q room s so_far e (omega arith) in
        let told : driver_step steps i ≡ seen_step chip x = ap (λ (b : List ℕ). driver_step b i) f ∙ nx.told in
        let its : StepDone (image_after_by (asked call a i) page) (seen_step chip x) t = rw (← told, ← page_filled ok a call i page long) d in
        record {
          hand = holding call a (suc i) es;
          so_far = next so_far
              (step_done t l' (others x (rw (← told) rest)) (step_is_done t x (asked call a i) page nx.its_image its)
              (after_step (n - suc i) es (omega arith) left));
          follows = both {i = suc i} {es = es} q room e f c (omega arith);
        }

    -- what a cut or failed step leaves, as the history has it
    broken : (h : Hand chip) → History w (world r h l) → Follows (doing call a steps n i) h → StepCut (page_told call a i page) (driver_step steps i) r t
        → (x : Step) × (es : List Step) × (h ≡ holding call a i (x ∷ es)) × OthersKept x r t × Cut (asked call a i) x r t
    broken _ so_far (both {es = []} q room e f c m) d = absurd (omega arith)
    broken _ so_far (both {es = x ∷ es} q room e f c m) d =
        let nx = next_is q room s so_far e (omega arith) in
        let told : driver_step steps i ≡ seen_step chip x = ap (λ (b : List ℕ). driver_step b i) f ∙ nx.told in
        let its : StepCut (image_after_by (asked call a i) page) (seen_step chip x) r t = rw (← told, ← page_filled ok a call i page long) d in
        (x, es, refl, others x (rw (← told) rest), step_is_cut r t x (asked call a i) page nx.its_image its)

    cutting : (l' : Last) (h : Hand chip) → History w (world r h l) → Follows (doing call a steps n i) h → StepCut (page_told call a i page) (driver_step steps i) r t
        → Closes t l l' → Like w t nothing l'
    cutting l' h so_far f d cl =
        let b = broken h so_far f d in
        let past : History w (world r (holding call a i (b.0 ∷ b.1)) l) = subst (λ (k : Hand chip). History w (world r k l)) b.2 so_far in
        record { hand = empty; so_far = next past (step_cut t l' b.3 b.4 cl); follows = neither }

    failing : (room : List ℕ) → length room ≡ 64 → (h : Hand chip) → History w (world r h l) → Follows (doing call a steps n i) h
        → StepCut (page_told call a i page) (driver_step steps i) r t → refusal_in (plan_told call (with_failed a i) room) ≡ 0
        → Like w t (doing call (with_failed a i) (steps_told call (with_failed a i) room) (steps_in (plan_told call (with_failed a i) room)) 0) l
    failing room lr h so_far f d z = go (answer call (with_failed a i)) refl
      where
        go : (y : Answer) → answer call (with_failed a i) ≡ y
            → Like w t (doing call (with_failed a i) (steps_told call (with_failed a i) room) (steps_in (plan_told call (with_failed a i) room)) 0) l
        go (refuse y) e = absurd (refused_told ok (with_failed a i) call room lr y e z)
        go (plan q) e =
            let b = broken h so_far f d in
            let past : History w (world r (holding call a i (b.0 ∷ b.1)) l) = subst (λ (k : Hand chip). History w (world r k l)) b.2 so_far in
            record {
              hand = holding call (with_failed a i) 0 (steps_of (pages_of chip) q);
              so_far = next past (step_failed t q b.3 b.4 e);
              follows = planned_both (with_failed a i) call room lr q e;
            }

    giving_up : (room : List ℕ) → length room ≡ 64 → (l' : Last) (h : Hand chip) → History w (world r h l) → Follows (doing call a steps n i) h
        → StepCut (page_told call a i page) (driver_step steps i) r t → refusal_in (plan_told call (with_failed a i) room) ≢ 0 → Closes t l l' → Like w t nothing l'
    giving_up room lr l' h so_far f d ne cl = go (answer call (with_failed a i)) refl
      where
        go : (y : Answer) → answer call (with_failed a i) ≡ y → Like w t nothing l'
        go (refuse y) e =
            let b = broken h so_far f d in
            let past : History w (world r (holding call a i (b.0 ∷ b.1)) l) = subst (λ (k : Hand chip). History w (world r k l)) b.2 so_far in
            record { hand = empty; so_far = next past (step_given_up t l' y b.3 b.4 e cl); follows = neither }
        go (plan q) e = absurd (ne (plan_answered ok (with_failed a i) call room lr q e))

  event : {w : World chip} {r : Region chip} {h : DriverHand chip} {l : Last} {u : DriverWorld chip} → Reached w → Like w r h l → DriverEvent r l h u → LikeAt w u
  event s k (was-refused call steps long ne) = refusing k call steps long ne
  event s k (was-updated wanted steps room long lr z) = updating k wanted steps room long lr z
  event s k (was-recovered steps l' long z cl) = recovering k steps l' long z cl
  event s k (was-done t l' page inside long rest d left) = stepping s t page (omega arith) long rest l' k.hand k.so_far k.follows d left
  event s k (was-cut t l' page inside long rest d cl) = cutting s t page (omega arith) long rest l' k.hand k.so_far k.follows d cl
  event s k (was-failed t page room inside long lr rest d z) = failing s t page (omega arith) long rest room lr k.hand k.so_far k.follows d z
  event s k (was-given-up t l' page room inside long lr rest d ne cl) =
      giving_up s t page (omega arith) long rest room lr l' k.hand k.so_far k.follows d ne cl
  event s k (was-cut-between l' cl) = record { hand = empty; so_far = next k.so_far (cut_between l' cl); follows = neither }
  event s k (had-no-step none) = k
  event s k had-no-plan = k

  history : {w : World chip} {v u : DriverWorld chip} → Reached w → LikeAt w v → DriverHistory v u → LikeAt w u
  history s k at-start = k
  history s k (and_then h e) = event s (history s k h) e

  -- ---- what holds at every moment
  settles : {w : World chip} {r : Region chip} {l : Last} (h : DriverHand chip) (k : Hand chip) → Reached w → History w (world r k l) → Follows h k
      → DriverSettles (at r h l)
  settles nothing _ s so_far neither = tt
  settles (doing (for_update w) a steps n i) _ s so_far f = tt
  settles {r = r} {l = l} (doing for_recovery a steps n i) _ s so_far (both {es = []} q room e f c m) = λ over bitmap lb.
      let x = (promised s so_far).settles in
      let z = x.1 in
      (read_answered ok r bitmap lb z.0 z.1 x.0 z.2, rw (table-told ok r bitmap lb z.0 z.1 x.0 z.2) x.2)
  settles (doing for_recovery a steps n i) _ s so_far (both {es = x ∷ es} q room e f c m) = λ over bitmap lb. absurd (omega arith)

  harmless : (r : Region chip) (a : Snapshot chip) (call : Call) (i : ℕ) (e : Step) → Harmless r e → ImageOf e (asked call a i)
      → DriverHarmless call a i r (seen_step chip e)
  harmless r a call i (erase b) h x = (h.0, rw (place chip b) h.1)
  harmless r a call i (write b p k t) h x = (h.0, h.1, λ page long. page_answered ok a call i page long ∙ ap (λ (y : Imaged). code_by (image_answer_by y)) x)
  harmless r a call i (zeros b) h x = h

  -- were it to fail
  refused_with : (call : Call) (a : Snapshot chip) (room : List ℕ) → length room ≡ 64 → (x : Refusal) → answer call a ≡ refuse x
      → refusal_in (plan_told call a room) ≡ refusal_in (refusal_code x)
  refused_with call a room long x e = ap refusal_in (plan-told ok a call room long ∙ ap (λ (y : Answer). plan_code_by (told_answer chip y)) e)

  retires : (call : Call) (a : Snapshot chip) (b : ℕ) → (chip_block chip b).0 < 65536 → (answer call a ≡ refuse NoTarget) ⊎ RetiresPlan chip (answer call a) b
      → (room : List ℕ) → length room ≡ 64 → Retires call a (chip_block chip b).0 room
  retires call a b small (inl e) room long = inl (refused_with call a room long NoTarget e)
  retires call a b small (inr (q, e, first)) room long = inr (plan_answered ok a call room long q e, starts)
    where
      starts : driver_step (steps_told call a room) 0 ≡ zeroes (chip_block chip b).0
      starts =
          ap (λ (l : List ℕ). driver_step l 0) (filled ok a call room long q e)
          ∙ step_seen (told_steps (told_plan chip q)) room 0 chip (zeros b)
          (ap (λ (ss : List ToldStep). nth_step ss 0) (tells_steps chip q) ∙ first_told chip (steps_of (pages_of chip) q) first) small

  fails : (r : Region chip) (call : Call) (a : Snapshot chip) (e : Step) → Harmless r e → IfItFails chip e (answer call a) → (room : List ℕ) → length room ≡ 64
      → DriverFails call a (seen_step chip e) room
  fails r call a (erase b) h x = retires call a b (block_small r (erase b) h) x
  fails r call a (write b p k t) h x = retires call a b (block_small r (write b p k t) h) x
  fails r call a (zeros b) h x = λ room long. refused_with call a room long ZeroFailed x

  next_step : {w : World chip} {r : Region chip} {l : Last} (h : DriverHand chip) (k : Hand chip) → Reached w → History w (world r k l) → Follows h k
      → DriverNext (at r h l)
  next_step nothing _ s so_far neither = tt
  next_step (doing call a steps n i) _ s so_far (both {es = []} q room e f c m) = λ inside. absurd (omega arith)
  next_step {r = r} (doing call a steps n i) _ s so_far (both {es = x ∷ es} q room e f c m) = λ inside.
      let nx = next_is q room s so_far e (omega arith) in
      let told : driver_step steps i ≡ seen_step chip x = ap (λ (b : List ℕ). driver_step b i) f ∙ nx.told in (
        rw told (harmless r a call i x nx.harmless nx.its_image),
        λ rm lr. rw told (fails r call (with_failed a i) x nx.harmless nx.if_it_fails rm lr),
      )

  promise : {w : World chip} → Reached w → (v : DriverWorld chip) → LikeAt w v → DriverPromise v
  promise s (at r h l) k =
      let q = (promised s k.so_far).recovers.not_refused in
      record {
        settles = settles h k.hand s k.so_far k.follows;
        next_step = next_step h k.hand s k.so_far k.follows;
        recovers = λ steps long. plan_answered ok (snapshot r) for_recovery steps long q.0 q.1;
      }

  -- a region that ream_table_read answers is a start
  begin : {w : DriverWorld chip} → DriverStart w → (v : World chip) × Reached v × LikeAt v w
  begin (from_settled {r} room h) =
      let z : Settled r (table_told r room) = read_settled ok r room h.0 h.1 in
      let w = world r empty (one_table (table_told r room)) in
      (w, (w, settled_at z, start), record { hand = empty; so_far = start; follows = neither })

  kept_on : {w : World chip} (v u : DriverWorld chip) → Reached w → LikeAt w v → DriverHistory v u → (x y : List ℕ) → Answers (region_at v) x
      → Answers (region_at u) y → NotGoodKept chip (table_told (region_at v) x) (table_told (region_at u) y)
  kept_on (at r h l) (at t k m) s a d x y hx hy =
      let here = world r a.hand l in
      let later : Like here t k m = history (s.0, s.1, joined s.2 a.so_far) (record { hand = a.hand; so_far = start; follows = a.follows }) d in
      safe.not_good_kept s.1 (joined s.2 a.so_far) later.so_far (table_told r x) (table_told t y)
      (read_settled ok r x hx.0 hx.1) (read_settled ok t y hy.0 hy.1)

pub demand3_in_c : Demand3InC
demand3_in_c n size chip e = record {
  promise = λ {w} {v} s h. let b = begin ok few safe s in promise ok few safe b.1 v (history ok few safe b.1 b.2 h);
  not_good_kept = λ {w} {v} {u} s h k x y hx hy. let b = begin ok few safe s in kept_on ok few safe v u b.1 (history ok few safe b.1 b.2 h) k x y hx hy;
}
  where
    ok : Judged chip
    ok = judge n size chip e

    few : chip.blocks ≤ 32768
    few = let v = chip_valid n size chip e in omega arith

    safe : SafeUnderCuts chip
    safe = demand3 n size chip e

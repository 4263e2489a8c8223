-- Nothing is left out in C: each event of a history of demand 3 is an event of a driver, whose buffers hold nothing but 00 before each call.
-- Assumes nothing.
use mathlib.Core.List.{List, [], ◌∷◌}
use mathlib.Core.Logic.{◌⊎◌, inl, inr, ⊎_elim}
use mathlib.Core.Path.{◌≡◌, refl, sym, ap, ◌∙◌, subst}
use Prim.Native.Nat.{ℕ, suc, ◌-◌, ◌<◌, ◌≤◌}
use native.Mathlib.Omega.{arith}
use lib.ListN.{length, replicate, length-replicate}
use Rattle.bbt.proofs.LeftPages.{Judged, judge}
use Rattle.bbt.proofs.PowerCuts.{demand3}
use Rattle.bbt.proofs.Raw.{chip_valid}
use Rattle.bbt.specs.Copies.{Table}
use Rattle.bbt.specs.Histories.{Touches, Done, Cut, Written, OthersKept, Last, one_table, as_planned, AfterStep, Closes, Snapshot, snapshot, with_failed, answer, asked, Hand, empty, holding, World, world, Event, plan_refused, update_planned, recovery_planned, step_done, step_cut, cut_between, step_failed, step_given_up, no_step_left, no_plan, History, start, next}
use Rattle.bbt.specs.Images.{Imaged}
use Rattle.bbt.specs.Plans.{Step, erase, write, zeros, Plan, steps_of, refuse, plan, updated, Call, for_update, for_recovery, reading, holds}
use Rattle.bbt.specs.PowerCuts.{settled_at, Settled, SafeUnderCuts}
use Rattle.bbt.specs.Regions.{Region, view, Blank, Complete, Zeroed, Unreadable, Lost, Kept}
use Rattle.chip.specs.Large.{bitmap_bytes, pages_of}
use Rattle.chip.specs.declared.LargeChip.{LargeChip}
use Rattle.chip.specs.declared.Refusal.{Refusal}
use Rattle.images.specs.Made.{image_after_by}
use Rattle.claims.specs.Driver.{steps_in, driver_step, StepTouches, plan_told, steps_told, page_told, table_told, StepDone, StepCut, RestKept, DriverHand, nothing, doing, DriverWorld, at, as_told, StepsLeft, refused as was-refused, update as was-updated, recovery as was-recovered, done as was-done, cut as was-cut, fail as was-failed, give_up as was-given-up, cut_between as was-cut-between, DriverHistory, start as at-start, next as and_then}
use Rattle.claims.specs.DriverCuts.{DriverStart, from_settled, SameHand, NothingLeftOutInC}
use Rattle.claims.proofs.DriverCuts.{Follows, neither, both, place, Reached, joined, next_is, planned_both, as_made}
use Rattle.claims.proofs.Found.{seen_step, refused_told, plan_answered, count_told, page_filled, read_answered, table-told}

-- ---- a step, as a driver has it
touched : (chip : LargeChip) (e : Step) (b p : ℕ) → Touches e b p → StepTouches chip (seen_step chip e) b p
touched chip (erase c) b p h = h ∙ sym (place chip c)
touched chip (write c q k t) b p h = (h.0 ∙ sym (place chip c), h.1)
touched chip (zeros c) b p h = (h.0 ∙ sym (place chip c), h.1)

module _ {chip : LargeChip} where
  rest : {r s : Region chip} (e : Step) → OthersKept e r s → RestKept (seen_step chip e) r s
  rest e h b p hb hp n = h b p hb hp (λ z. n (touched chip e b p z))

  -- a page written is the one that the page entry left in its room
  page_is : {s : Region chip} {b p : ℕ} (x : Imaged) (page : List ℕ) → Written s b p x → Complete s b p (image_after_by x page)
  page_is {s} {b} {p} x page w = rw w.given w.complete

  done_is : (s : Region chip) (e : Step) (x : Imaged) (page : List ℕ) → Done x e s → StepDone (image_after_by x page) (seen_step chip e) s
  done_is s (erase b) x page h = λ p l. subst (λ (c : ℕ). Blank s c p) (sym (place chip b)) (h p l)
  done_is s (write b p k t) x page h = subst (λ (c : ℕ). Complete s c p (image_after_by x page)) (sym (place chip b)) (page_is x page h)
  done_is s (zeros b) x page h = subst (λ (c : ℕ). Zeroed s c 0) (sym (place chip b)) h

  cut_is : (r s : Region chip) (e : Step) (x : Imaged) (page : List ℕ) → Cut x e r s → StepCut (image_after_by x page) (seen_step chip e) r s
  cut_is r s (erase b) x page h = λ p l. subst (λ (c : ℕ). Kept r s c p ⊎ (Blank s c p ⊎ Lost s c p)) (sym (place chip b)) (h p l)
  cut_is r s (write b p k t) x page h =
      subst (λ (c : ℕ). Blank s c p ⊎ (Complete s c p (image_after_by x page) ⊎ Lost s c p)) (sym (place chip b))
      (⊎_elim (λ w. inl w) (λ w. inr (⊎_elim (λ v. inl (page_is x page v)) (λ v. inr v) w)) h)
  cut_is r s (zeros b) x page h = subst (λ (c : ℕ). Kept r s c 0 ⊎ (Zeroed s c 0 ⊎ Unreadable s c 0)) (sym (place chip b)) h

  steps_left : {s : Region chip} {l l' : Last} (left : ℕ) (es : List Step) → left ≡ length es → AfterStep s es l l' → StepsLeft s left l l'
  steps_left left [] e h = record { none = λ z. h; some = λ n. absurd (n e) }
  steps_left left (x ∷ es) e h = record { none = λ z. absurd (omega arith); some = λ n. h }

-- ---- rooms of the header's lengths
steps : List ℕ
steps = replicate 64 0

long_steps : length steps ≡ 64
unfolding steps
long_steps = length-replicate {A = ℕ} 64 0

page : List ℕ
page = replicate 2112 0

long_page : length page ≡ 2112
unfolding page
long_page = length-replicate {A = ℕ} 2112 0

-- ---- event by event
module _ {chip : LargeChip} (ok : Judged chip) (few : chip.blocks ≤ 32768) (safe : SafeUnderCuts chip) {w : World chip} (v : DriverWorld chip) (s : Reached w) where
  room : List ℕ
  room = replicate (bitmap_bytes chip) 0

  long_room : length room ≡ bitmap_bytes chip
  unfolding room
  long_room = length-replicate {A = ℕ} (bitmap_bytes chip) 0

  record Drives (r : Region chip) (h : Hand chip) (l : Last) : Type 0 where
    hand : DriverHand chip
    follows : Follows hand h
    so_far : DriverHistory v (at r hand l)

  abbrev DrivesTo : World chip → Type 0
  DrivesTo (world r h l) = Drives r h l

  updating : {r : Region chip} {h : Hand chip} {l : Last} → Drives r h l → (wanted : List ℕ) (p m : ℕ) (o : Table) (q : Plan)
      → answer (for_update wanted) (snapshot r) ≡ plan q → reading chip (view r) ≡ holds p m o
      → Drives r (holding (for_update wanted) (snapshot r) 0 (steps_of (pages_of chip) q)) (as_planned o (updated o wanted) q.job)
  updating {r} d wanted p m o q e reads =
      let call : Call = for_update wanted in
      let a : Snapshot chip = snapshot r in
      let last : as_told (table_told r room) (updated (table_told r room) wanted) (steps_in (plan_told call a steps)) ≡ as_planned o (updated o wanted) q.job =
      rw (table-told ok r room long_room p m o reads, count_told ok a call steps long_steps q e) (as_made ok few safe r call o (updated o wanted) q e) in
      let hand = doing call a (steps_told call a steps) (steps_in (plan_told call a steps)) 0 in
      record {
        hand = hand;
        follows = planned_both ok few safe a call steps long_steps q e;
        so_far = subst (λ (x : Last). DriverHistory v (at r hand x)) last
            (and_then d.so_far (was-updated wanted steps room long_steps long_room (plan_answered ok a call steps long_steps q e)));
      }

  -- the next step, done, cut or failed
  module _ {r : Region chip} {l : Last} {call : Call} {from : Snapshot chip} {i : ℕ} {x : Step} {es : List Step} (t : Region chip)
      (past : History w (world r (holding call from i (x ∷ es)) l)) (others : OthersKept x r t) where
    stepping : (l' : Last) (hand : DriverHand chip) → Follows hand (holding call from i (x ∷ es)) → DriverHistory v (at r hand l) → Done (asked call from i) x t
        → AfterStep t es l l' → Drives t (holding call from (suc i) es) l'
    stepping l' _ (both {a = a} {steps = bytes} {n = n} q held e f c m) so_far done left =
        let nx = next_is ok few safe q held s past e (omega arith) in
        let told : driver_step bytes i ≡ seen_step chip x = ap (λ (b : List ℕ). driver_step b i) f ∙ nx.told in
        let asks = page_filled ok a call i page long_page in
        record {
          hand = doing call a bytes n (suc i);
          follows = both {i = suc i} {es = es} q held e f c (omega arith);
          so_far = and_then so_far
              (was-done {call = call} {a = a} {steps = bytes} {n = n} {i = i} t l' page (omega arith) long_page (rw told (rest x others)) (rw (told, asks) (done_is t x (asked call a i) page done))
              (steps_left (n - suc i) es (omega arith) left));
        }

    -- what a cut or failed step leaves, as the driver has it
    broken : {told : Call} {snap : Snapshot chip} {bytes : List ℕ} {n k : ℕ} → Follows (doing told snap bytes n k) (holding call from i (x ∷ es)) → Cut (asked call from i) x r t
        → (i < n) × RestKept (driver_step bytes i) r t × StepCut (page_told call from i page) (driver_step bytes i) r t
    broken {bytes = bytes} {n = n} (both q held e f c m) cut =
        let nx = next_is ok few safe q held s past e (omega arith) in
        let told : driver_step bytes i ≡ seen_step chip x = ap (λ (b : List ℕ). driver_step b i) f ∙ nx.told in
        let asks = page_filled ok from call i page long_page in
        (omega arith, rw told (rest x others), rw (told, asks) (cut_is r t x (asked call from i) page cut))

    cutting : (l' : Last) (hand : DriverHand chip) → Follows hand (holding call from i (x ∷ es)) → DriverHistory v (at r hand l) → Cut (asked call from i) x r t
        → Closes t l l' → Drives t empty l'
    cutting l' _ (both {steps = bytes} {n = n} q held e f c m) so_far cut cl =
        let b = broken (both {i = i} {es = x ∷ es} q held e f c m) cut in
        record {
          hand = nothing;
          follows = neither;
          so_far = and_then so_far (was-cut {call = call} {a = from} {steps = bytes} {n = n} {i = i} t l' page b.0 long_page b.1 b.2 cl);
        }

    failing : (hand : DriverHand chip) → Follows hand (holding call from i (x ∷ es)) → DriverHistory v (at r hand l) → Cut (asked call from i) x r t
        → (q : Plan) → answer call (with_failed from i) ≡ plan q → Drives t (holding call (with_failed from i) 0 (steps_of (pages_of chip) q)) l
    failing _ (both {steps = bytes} {n = n} p held e f c m) so_far cut q an =
        let b = broken (both {i = i} {es = x ∷ es} p held e f c m) cut in
        let a : Snapshot chip = with_failed from i in
        record {
          hand = doing call a (steps_told call a steps) (steps_in (plan_told call a steps)) 0;
          follows = planned_both ok few safe a call steps long_steps q an;
          so_far = and_then so_far
              (was-failed {call = call} {a = from} {steps = bytes} {n = n} {i = i} t page steps b.0 long_page long_steps b.1 b.2
              (plan_answered ok a call steps long_steps q an));
        }

    giving_up : (l' : Last) (hand : DriverHand chip) → Follows hand (holding call from i (x ∷ es)) → DriverHistory v (at r hand l) → Cut (asked call from i) x r t
        → (y : Refusal) → answer call (with_failed from i) ≡ refuse y → Closes t l l' → Drives t empty l'
    giving_up l' _ (both {steps = bytes} {n = n} p held e f c m) so_far cut y an cl =
        let b = broken (both {i = i} {es = x ∷ es} p held e f c m) cut in
        let a : Snapshot chip = with_failed from i in
        record {
          hand = nothing;
          follows = neither;
          so_far = and_then so_far
              (was-given-up {call = call} {a = from} {steps = bytes} {n = n} {i = i} t l' page steps b.0 long_page long_steps b.1 b.2
              (refused_told ok a call steps long_steps y an) cl);
        }

  event : {r : Region chip} {h : Hand chip} {l : Last} {u : World chip} → History w (world r h l) → Drives r h l → Event r l h u → DrivesTo u
  event {r} {h} {l} past d (plan_refused call x e) =
      record { hand = d.hand; follows = d.follows; so_far = and_then d.so_far (was-refused call steps long_steps (refused_told ok (snapshot r) call steps long_steps x e)) }
  event past d (update_planned wanted p m o q e reads) = updating d wanted p m o q e reads
  event {r} past d (recovery_planned q l' e cl) = record {
    hand = doing for_recovery (snapshot r) (steps_told for_recovery (snapshot r) steps) (steps_in (plan_told for_recovery (snapshot r) steps)) 0;
    follows = planned_both ok few safe (snapshot r) for_recovery steps long_steps q e;
    so_far = and_then d.so_far (was-recovered steps l' long_steps (plan_answered ok (snapshot r) for_recovery steps long_steps q e) cl);
  }
  event past d (step_done t l' k e left) = stepping t past k l' d.hand d.follows d.so_far e left
  event past d (step_cut t l' k e cl) = cutting t past k l' d.hand d.follows d.so_far e cl
  event past d (step_failed t q k e an) = failing t past k d.hand d.follows d.so_far e q an
  event past d (step_given_up t l' y k e an cl) = giving_up t past k l' d.hand d.follows d.so_far e y an cl
  event past d (cut_between l' cl) = record { hand = nothing; follows = neither; so_far = and_then d.so_far (was-cut-between l' cl) }
  event past d no_step_left = d
  event past d no_plan = d

  history : {x u : World chip} → History w x → DrivesTo x → History x u → DrivesTo u
  history past d start = d
  history past d (next h e) = event (joined past h) (history past d h) e

-- a settled pair is one that ream_table_read answers, with the table that it holds
begins : {chip : LargeChip} (ok : Judged chip) {r : Region chip} {o : Table} → Settled r o → DriverStart (at r nothing (one_table o))
begins {chip} ok {r} {o} (p, m, e) =
    let room : List ℕ = replicate (bitmap_bytes chip) 0 in
    let long : length room ≡ bitmap_bytes chip = length-replicate {A = ℕ} (bitmap_bytes chip) 0 in
    subst (λ (t : Table). DriverStart (at r nothing (one_table t))) (table-told ok r room long p m o e)
    (from_settled room (long, read_answered ok r room long p m o e))

same_hand : {chip : LargeChip} (d : DriverHand chip) (h : Hand chip) → Follows d h → SameHand d h
same_hand _ _ neither = tt
same_hand _ _ (both q room e f c m) = (refl, refl, refl, m)

pub nothing_left_out_in_c : NothingLeftOutInC
nothing_left_out_in_c n size chip e _ (world t h l) (settled_at {r} {t = o} settled) past =
    let w = world r empty (one_table o) in
    let v = at r nothing (one_table o) in
    let d = history ok few (demand3 n size chip e) v (w, settled_at settled, start) start (record { hand = nothing; follows = neither; so_far = at-start }) past in
    (begins ok settled, d.hand, same_hand d.hand h d.follows, d.so_far)
  where
    ok : Judged chip
    ok = judge n size chip e

    few : chip.blocks ≤ 32768
    few = let v = chip_valid n size chip e in omega arith

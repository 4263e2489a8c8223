-- Demand 3. Every event keeps the invariant (`Events`), and the promise is read off it.
-- Assumes nothing.
use mathlib.Core.List.{List, [], ◌∷◌}
use mathlib.Core.Path.{◌≡◌, refl}
use Prim.Native.Nat.{ℕ, ◌<◌}
use native.Mathlib.Omega.{arith}
use Rattle.chip.specs.declared.LargeChip.{LargeChip}
use Rattle.bbt.specs.declared.Kind.{Kind}
use Rattle.bbt.specs.Copies.{Table}
use Rattle.bbt.specs.Histories.{Last, Snapshot, Hand, holding, World, world}
use Rattle.bbt.specs.Plans.{Step, fresh, Call, for_recovery}
use Rattle.bbt.specs.PowerCuts.{InRegion, Outcome, region_of, Settled, Settles, Harmless, NextStep, Promise, Demand3}
use Rattle.bbt.specs.Regions.{Region}
use Rattle.bbt.specs.Told.{chip_block}
use Rattle.bbt.proofs.Course.{begin, history}
use Rattle.bbt.proofs.Events.{mode_sound, mode_settled, recovery_planned_is}
use Rattle.bbt.proofs.Invariant.{Current, the_one, the_new, the_old, no_hand, update_over, Mode, resting, recovered, recovering, renewing, copying, Inv, inv}
use Rattle.bbt.proofs.Anew.{if_it_fails}
use Rattle.bbt.proofs.Failing.{Turn}
use Rattle.bbt.proofs.LeftPages.{Judged, judge}
use Rattle.bbt.proofs.Numbering.{Tracked, InHand, HandOf, started, tracked, track_numbered}
use Rattle.bbt.proofs.Outcomes.{zeroed_bad}
use Rattle.bbt.proofs.Placing.{Placing, place_start, place_fill, place_retire}
use Rattle.bbt.proofs.Planning.{settled_reading, reading_settled, recovers, no_merge}
use Rattle.bbt.proofs.Working.{Work, work_at, work_apart}

module _ {chip : LargeChip} (ok : Judged chip) where
  -- ---- the promise
  outcome : {l : Last} {c : Table} → Current l c → Outcome l c
  outcome the_one = refl
  outcome the_new = refl
  outcome the_old = refl

  place_settles : {r : Region chip} {k j : Kind} {b g : ℕ} {x c : Table} {rest es : List Step} (a : Snapshot chip) (i : ℕ) (l : Last)
      → Placing r k j b g x c rest es → Settles (world r (holding for_recovery a i es) l)
  place_settles a i l (place_start w t cl ft hb ne) = tt
  place_settles a i l (place_fill n q e w f) = tt
  place_settles a i l (place_retire w t cl hz nz nb ft hb ne) = tt

  settles : {r : Region chip} {h : Hand chip} {l : Last} {f : Table} → Mode r h l f → Settles (world r h l)
  settles (resting no_hand u s) = tt
  settles (resting update_over u s) = tt
  settles {f = f} (recovered {p = p} {m = m} u x y) = (f, (p, m, settled_reading x y), outcome u)
  settles {l = l} (recovering {a = a} {i = i} x) = place_settles a i l x.work.placing
  settles (renewing x) = tt
  settles (copying x) = tt

  pub in_region : (b : ℕ) → b < chip.region → InRegion chip (chip_block chip b)
  in_region b h = (omega arith, omega (arith, ok.within))

  place_harmless : {r : Region chip} {k j : Kind} {b g : ℕ} {x c : Table} {rest es : List Step} {e : Step} → Placing r k j b g x c rest (e ∷ es) → Harmless r e
  place_harmless {b = b} (place_start w t cl ft hb ne) = (in_region b hb, ft)
  place_harmless {b = b} (place_fill n q e w f) = (in_region b f.in_region, omega arith)
  place_harmless (place_retire {z = z} w t cl hz nz nb ft hb ne) = in_region z hz

  work_next : {r : Region chip} {call : Call} {a : Snapshot chip} {i : ℕ} {e : Step} {es : List Step} {d : Turn} {k j : Kind} {b g : ℕ} {x c : Table} (l : Last)
      → Tracked call a i (e ∷ es) → Work r call a (e ∷ es) d k j b g x c → NextStep (world r (holding call a i (e ∷ es)) l)
  work_next {r} l t w = (place_harmless w.placing, track_numbered ok t, if_it_fails ok r r t w.held (work_at ok w) (work_apart ok w))

  next_step : {r : Region chip} {h : Hand chip} {l : Last} {f : Table} → InHand h → Mode r h l f → NextStep (world r h l)
  next_step t (resting no_hand u s) = tt
  next_step t (resting update_over u s) = tt
  next_step t (recovered u x y) = tt
  next_step t (recovering {es = []} x) = tt
  next_step {l = l} t (recovering {es = e ∷ es} x) = work_next l t x.work
  next_step t (renewing {es = []} x) = tt
  next_step {l = l} t (renewing {es = e ∷ es} x) = work_next l t x.work
  next_step t (copying {es = []} x) = tt
  next_step {l = l} t (copying {es = e ∷ es} x) = work_next l t x.work

  pub promise : {w : World chip} {f : Table} → HandOf w → Inv w f → Promise w
  promise t (inv {r = r} m) =
      let s = mode_sound ok m in
      let q = recovers ok s.1 in
      record {
        settles = settles m;
        next_step = next_step t m;
        recovers = record { not_refused = (fresh q.0, recovery_planned_is ok r (fresh q.0) q.1); no_merge = no_merge ok s.1 };
      }

  pub holds_settled : {w : World chip} {f : Table} (t : Table) → Inv w f → Settled (region_of w) t → t ≡ f
  holds_settled t (inv {r = r} m) (p, q, e) =
      let h = reading_settled r p q t e in
      mode_settled ok m h.0 h.1

pub demand3 : Demand3
demand3 n size chip e = record {
  promise = λ s h. promise ok (tracked (started s) h) (history ok (started s) (begin ok s).1 h).still;
  not_good_kept = λ s h k t t' a b.
      let x = history ok (started s) (begin ok s).1 h in
      let y = history ok (tracked (started s) h) x.still k in
      let u : t ≡ x.c = holds_settled ok t x.still a in
      let v : t' ≡ y.c = holds_settled ok t' y.still b in
      rw (u, v) y.not_good_kept;
  retired_for_good = zeroed_bad;
}
  where
    ok : Judged chip
    ok = judge n size chip e

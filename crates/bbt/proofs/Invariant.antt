-- The invariant (`Mode`) under demand 3 says which table the region holds while the plan in hand goes on, and every event keeps it. An update
-- from o to n, with "~" for a copy being written:
--
--     planned                P o   M o    old holds
--     the primary placed     ~     M o    old holds: the mirror is left
--     the primary complete   P n   M o    new holds: the primary is ahead
--     the mirror placed      P n   ~      new holds: the primary is left
--     ended                  P n   M n    new holds
--
-- A cut leaves one of these, or the copy being written in part. A failed step does so too, and the copy is placed in another block; where the failed
-- step was the primary's last page and left it complete, new holds until zeros are written to that block, and then old again (`Half`).
-- A recovery writes the copy that is missing or behind, of the table held.
-- Assumes nothing.
use mathlib.Core.Bool.{true, false}
use mathlib.Core.List.{List, []}
use mathlib.Core.Logic.{◌≢◌}
use mathlib.Core.Path.{◌≡◌, refl, sym, ◌∙◌}
use Prim.Native.Nat.{ℕ, ◌<◌}
use native.Mathlib.Omega.{arith}
use Rattle.chip.specs.declared.LargeChip.{LargeChip}
use Rattle.bbt.specs.declared.Kind.{Kind}
use Rattle.bbt.specs.declared.Kind.TheVariants.{Primary, Mirror}
use Rattle.bbt.specs.Copies.{Table}
use Rattle.bbt.specs.Histories.{Last, one_table, pending, closed, NewPrimary, Closes, as_one, as_closed, AfterStep, Snapshot, Hand, empty, holding, World, world}
use Rattle.bbt.specs.Plans.{Step, for_update, for_recovery}
use Rattle.bbt.specs.PowerCuts.{NotGoodKept}
use Rattle.bbt.specs.Regions.{Region}
use Rattle.bbt.proofs.Failing.{first_copy, last_copy}
use Rattle.bbt.proofs.Forms.{Sole, Sound, twins, Whole, Frame}
use Rattle.bbt.proofs.LeftPages.{Twin, primary_kind, mirror_kind}
use Rattle.bbt.proofs.Outcomes.{complete_kept}
use Rattle.bbt.proofs.Placing.{Placing, place_start, place_fill, place_retire}
use Rattle.bbt.proofs.Planning.{News}
use Rattle.bbt.proofs.Working.{Work}

-- ---- the invariant
-- the table that the last update left, once its plan is out of hand
pub data Current : Last → Table → Type 0 where
  the_one : {t : Table} → Current (one_table t) t
  the_new : {o n : Table} → Current (closed o n true) n
  the_old : {o n : Table} → Current (closed o n false) o

-- entries that are not 11, from table to table
pub kept_same : (chip : LargeChip) (t : Table) → NotGoodKept chip t t
kept_same chip t b l h = refl

pub kept_on : (chip : LargeChip) (t u v : Table) → NotGoodKept chip t u → NotGoodKept chip u v → NotGoodKept chip t v
kept_on chip t u v f g b l h = g b l (λ e. h (sym (f b l h) ∙ e)) ∙ f b l h

module _ {chip : LargeChip} where
  -- no plan at work: none in hand, or an update's with no step left
  pub data Rests : Hand chip → Type 0 where
    no_hand : Rests empty
    update_over : {w : List ℕ} {a : Snapshot chip} {i : ℕ} → Rests (holding (for_update w) a i [])

  -- a recovery at work: a copy of the table that the region holds is being written
  pub record Recovering (r : Region chip) (a : Snapshot chip) (es : List Step) (l : Last) (c : Table) : Type 0 where
    pub k : Kind
    pub j : Kind
    pub b : ℕ
    pub g : ℕ
    pub work : Work r for_recovery a es last_copy k j b g c c
    pub now : Current l c
    pub sound : Sound r c

  -- while the new primary is being written: the region holds the old table; or the new one, where a step that failed left the primary complete
  pub data Half (r : Region chip) (m : ℕ) (o n : Table) : Type 0 where
    old_half : Sound r o → ¬ NewPrimary r n → Half r m o n
    new_half : {p : ℕ} → Sole r Primary p n → Sole r Mirror m o → NewPrimary r n → Half r m o n

  -- an update at work on the new primary
  pub record Renewing (r : Region chip) (v : List ℕ) (a : Snapshot chip) (es : List Step) (o n : Table) : Type 0 where
    pub p : ℕ
    pub m : ℕ
    pub work : Work r (for_update v) a es first_copy Primary Mirror p m n o
    pub half : Half r m o n
    pub new : News chip o n

  -- an update at work on the mirror: the new primary is complete, and the region holds the new table
  pub record Copying (r : Region chip) (v : List ℕ) (a : Snapshot chip) (es : List Step) (n : Table) : Type 0 where
    pub p : ℕ
    pub m : ℕ
    pub work : Work r (for_update v) a es last_copy Mirror Primary m p n n
    pub sound : Sound r n
    pub stays : Whole r Primary p n

  -- the region, the plan in hand and the last update; with the table that is settled if any is, whose entries all later ones keep
  pub data Mode (r : Region chip) : Hand chip → Last → Table → Type 0 where
    -- nothing is being written: the region holds the table that the last update left
    resting : {h : Hand chip} {l : Last} {c : Table} → Rests h → Current l c → Sound r c → Mode r h l c
    -- a recovery is finished: the pair is settled
    recovered : {a : Snapshot chip} {i : ℕ} {l : Last} {c : Table} {p m : ℕ} → Current l c → Sole r Primary p c → Sole r Mirror m c
        → Mode r (holding for_recovery a i []) l c
    -- a recovery is at work
    recovering : {a : Snapshot chip} {i : ℕ} {es : List Step} {l : Last} {c : Table} → Recovering r a es l c → Mode r (holding for_recovery a i es) l c
    -- an update is at work on the new primary: the old table
    renewing : {v : List ℕ} {a : Snapshot chip} {i : ℕ} {es : List Step} {o n : Table} → Renewing r v a es o n
        → Mode r (holding (for_update v) a i es) (pending o n) o
    -- an update is at work on the mirror: the new table
    copying : {v : List ℕ} {a : Snapshot chip} {i : ℕ} {es : List Step} {o n : Table} → Copying r v a es n
        → Mode r (holding (for_update v) a i es) (pending o n) n

  pub data Inv : World chip → Table → Type 0 where
    inv : {r : Region chip} {h : Hand chip} {l : Last} {c : Table} → Mode r h l c → Inv (world r h l) c

  -- ---- small laws of it
  pub close_current : {r : Region chip} {l l' : Last} {c : Table} → Current l c → Closes r l l' → Current l' c
  close_current the_one as_one = the_one
  close_current the_new as_closed = the_new
  close_current the_old as_closed = the_old

  -- a plan at work has a step left
  pub place_ends : {s : Region chip} {k j : Kind} {b g : ℕ} {x c : Table} {rest es : List Step} (l l' : Last) → Placing s k j b g x c rest es
      → AfterStep s es l l' → l' ≡ l
  place_ends l l' (place_start w t cl ft hb ne) e = e
  place_ends l l' (place_fill n q e w f) d = d
  place_ends l l' (place_retire w t cl hz nz nb ft hb ne) e = e

  pub both_sound : {s : Region chip} {k j : Kind} {b g : ℕ} {c : Table} → Twin k j → Sole s j g c → Sole s k b c → Sound s c
  both_sound primary_kind x y = twins y x
  both_sound mirror_kind x y = twins x y

  -- pages of a block that a step does not touch
  pub whole_kept : {r s : Region chip} {z p : ℕ} (n : Table) → Frame r s z → p < chip.region → p ≢ z → Whole r Primary p n → Whole s Primary p n
  whole_kept {p = p} n f l ne h q hq = complete_kept (f p q l hq ne) (h q hq)

  pub back : {r s : Region chip} → Frame r s chip.region → Frame s r chip.region
  back f d p hd hp n = let e = f d p hd hp n in record { same_status = sym e.same_status; same_bytes = sym e.same_bytes }

  pub new_kept : (r s : Region chip) (n : Table) → Frame r s chip.region → NewPrimary r n → NewPrimary s n
  new_kept r s n f h =
      record {
        block = h.block;
        in_region = h.in_region;
        whole = whole_kept n f h.in_region (λ e. omega (arith, h.in_region)) h.whole;
      }

  pub whole_new : {r : Region chip} {p : ℕ} (n : Table) → p < chip.region → Whole r Primary p n → NewPrimary r n
  whole_new {p = p} n l h = record { block = p; in_region = l; whole = h }

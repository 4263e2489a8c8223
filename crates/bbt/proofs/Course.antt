-- The invariant under demand 3 along a history, from its start.
-- Assumes nothing.
use Rattle.chip.specs.declared.LargeChip.{LargeChip}
use Rattle.bbt.specs.Copies.{Table}
use Rattle.bbt.specs.Histories.{Last, Hand, World, world, Event, History, start, next}
use Rattle.bbt.specs.PowerCuts.{Start, settled_at}
use Rattle.bbt.specs.Regions.{Region}
use Rattle.bbt.proofs.Forms.{twins}
use Rattle.bbt.proofs.LeftPages.{Judged}
use Rattle.bbt.proofs.Numbering.{InHand, HandOf, tracked}
use Rattle.bbt.proofs.Planning.{reading_settled}
use Rattle.bbt.proofs.Invariant.{Inv, inv, kept_on, kept_same, no_hand, resting, the_one}
use Rattle.bbt.proofs.Events.{Next, event}

module _ {chip : LargeChip} (ok : Judged chip) where
  event_inv : {r : Region chip} {h : Hand chip} {l : Last} {u : World chip} {f : Table} → InHand h → Inv (world r h l) f → Event r l h u → Next ok u f
  event_inv t (inv m) e = event ok t m e

  -- ---- a history
  pub begin : {w : World chip} → Start w → (c : Table) × Inv w c
  begin (settled_at {r = r} {t = t} (p, m, e)) =
      let h = reading_settled r p m t e in
      (t, inv (resting no_hand the_one (twins h.0 h.1)))

  pub history : {w u : World chip} {f : Table} → HandOf w → Inv w f → History w u → Next ok u f
  history {f = f} t i start = record { c = f; not_good_kept = kept_same chip f; still = i }
  history {f = f} t i (next h e) =
      let a = history t i h in
      let b = event_inv (tracked t h) a.still e in
      record { c = b.c; not_good_kept = kept_on chip f a.c b.c a.not_good_kept b.not_good_kept; still = b.still }

-- What a page that a step left is to a copy: a blank or unreadable one, or one with zeros, belongs to none, a complete one to none of the other
-- kind; and no erase or page write leaves a first page that makes its block readable as bad.
-- Assumes nothing.
use mathlib.Core.Bool.{true, false}
use mathlib.Core.List.{List}
use mathlib.Core.Logic.{◌⊎◌, inl, inr}
use mathlib.Core.Path.{◌≡◌, refl, ap, ◌∙◌}
use Prim.Native.Nat.{ℕ}
use lib.ListN.{length}
use Rattle.chip.specs.Large.{bitmap_bytes}
use Rattle.chip.specs.declared.LargeChip.{LargeChip}
use Rattle.bbt.specs.declared.Kind.{Kind}
use Rattle.bbt.specs.Copies.{Table, is_marked, reads_bad}
use Rattle.bbt.specs.Pages.{unreadable, marked}
use Rattle.bbt.specs.Regions.{Region, view, Blank, Complete, Zeroed, Unreadable, Lost, Kept}
use Rattle.bbt.proofs.Blocks.{Foreign, unreadable_page, marked_page, unsigned_page, twin_page}
use Rattle.bbt.proofs.LeftPages.{Twin, twin_sym, Stands, kept_seen, lost_seen, unreadable_seen, zeroed_seen, blank_seen, stands_seen}

module _ {chip : LargeChip} where
  -- ---- it is no page of a copy
  pub blank_foreign : {s : Region chip} {b p : ℕ} (k : Kind) → Blank s b p → Foreign k (view s b p)
  blank_foreign {s} {b} {p} k h = rw (blank_seen s b p h).1 unsigned_page

  pub lost_foreign : {s : Region chip} {b p : ℕ} (k : Kind) → Lost s b p → Foreign k (view s b p)
  lost_foreign {s} {b} {p} k h = rw (lost_seen s b p h) unreadable_page

  -- where zeros were written, or begun
  pub zeroed_foreign : {s : Region chip} {b : ℕ} (k : Kind) → Zeroed s b 0 ⊎ Unreadable s b 0 → Foreign k (view s b 0)
  zeroed_foreign {s} {b} k (inl h) = rw (zeroed_seen s b h) marked_page
  zeroed_foreign {s} {b} k (inr h) = go (unreadable_seen s b h)
    where
      go : (view s b 0 ≡ unreadable) ⊎ (view s b 0 ≡ marked) → Foreign k (view s b 0)
      go (inl e) = rw e unreadable_page
      go (inr e) = rw e marked_page

  pub stands_foreign : {s : Region chip} {b p : ℕ} {k j : Kind} (x : Table) → Twin k j → length x.bitmap ≡ bitmap_bytes chip
      → Stands s b p k x → Foreign j (view s b p)
  stands_foreign {s} {b} {p} {k} {j} x o len h = rw (stands_seen s b p k j x o len h) (twin_page (twin_sym o))

  -- ---- as a first page it does not make its block readable as bad
  pub blank_fit : {s : Region chip} {b : ℕ} → Blank s b 0 → reads_bad (view s) b ≡ false
  unfolding reads_bad is_marked
  blank_fit {s} {b} h = ap is_marked (blank_seen s b 0 h).1

  pub lost_fit : {s : Region chip} {b : ℕ} → Lost s b 0 → reads_bad (view s) b ≡ false
  unfolding reads_bad is_marked
  lost_fit {s} {b} h = ap is_marked (lost_seen s b 0 h)

  pub stands_fit : {s : Region chip} {b : ℕ} {k j : Kind} (x : Table) → Twin k j → length x.bitmap ≡ bitmap_bytes chip → Stands s b 0 k x → reads_bad (view s) b ≡ false
  unfolding reads_bad is_marked
  stands_fit {s} {b} {k} {j} x o len h = ap is_marked (stands_seen s b 0 k j x o len h)

  -- zeros do
  pub zeroed_bad : (s : Region chip) (b : ℕ) → Zeroed s b 0 → reads_bad (view s) b ≡ true
  unfolding reads_bad is_marked
  zeroed_bad s b h = ap is_marked (zeroed_seen s b h)

  pub kept_fit : {r s : Region chip} {b : ℕ} → Kept r s b 0 → reads_bad (view r) b ≡ false → reads_bad (view s) b ≡ false
  unfolding reads_bad is_marked
  kept_fit {r} {s} {b} h e = ap is_marked (kept_seen r s b 0 h) ∙ e

  -- ---- kept, it is what it was
  pub kept_refl : (r : Region chip) (b p : ℕ) → Kept r r b p
  kept_refl r b p = record { same_status = refl; same_bytes = refl }

  pub kept_trans : {r s u : Region chip} {b p : ℕ} → Kept r s b p → Kept s u b p → Kept r u b p
  kept_trans x y = record { same_status = y.same_status ∙ x.same_status; same_bytes = y.same_bytes ∙ x.same_bytes }

  pub complete_kept : {r s : Region chip} {b p : ℕ} {page : List ℕ} → Kept r s b p → Complete r b p page → Complete s b p page
  complete_kept e h =
      record {
        well = e.same_status ∙ h.well;
        data_as_asked = rw e.same_bytes h.data_as_asked;
        oob_as_asked = rw e.same_bytes h.oob_as_asked;
      }

  pub blank_kept : {r s : Region chip} {b p : ℕ} → Kept r s b p → Blank r b p → Blank s b p
  blank_kept e h = record { well = e.same_status ∙ h.well; all_ff = e.same_bytes ∙ h.all_ff }

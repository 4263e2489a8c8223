-- Every table can be settled: from a region whose pages are all unreadable the pages of a primary are put into one block, and those of a
-- mirror into another (`Putting`).
-- Assumes nothing.
use mathlib.Core.Bool.{true, false}
use mathlib.Core.Logic.{inl, inr, ◌≢◌}
use mathlib.Core.Path.{◌≡◌, ap}
use Prim.Native.Nat.{ℕ, zero, suc, ◌+◌, ◌*◌, ◌<◌, ◌≤◌}
use native.Mathlib.Nat.{mul-le-mul_right}
use native.Mathlib.Omega.{arith}
use lib.Dec.{lit<}
use lib.ListN.{length, take, drop, replicate, length-replicate, get_or-replicate}
use Rattle.chip.specs.Large.{bitmap_bytes, pages_of, region_pages, region_bytes}
use Rattle.chip.specs.declared.LargeChip.{LargeChip}
use Rattle.bbt.specs.declared.Kind.{Kind}
use Rattle.bbt.specs.Copies.{Table, good}
use Rattle.bbt.specs.Images.{page_image}
use Rattle.bbt.specs.Plans.{reading, holds}
use Rattle.bbt.specs.PowerCuts.{settled_at}
use Rattle.bbt.specs.Regions.{Region, view, Unreadable}
use Rattle.bbt.specs.Starts.{AnyTable, StartsAnywhere}
use Rattle.bbt.proofs.AllBytes.{below_replicate, TableOfBytes, image_bytes}
use Rattle.bbt.proofs.Blocks.{not_good, good_not_twin}
use Rattle.bbt.proofs.Forms.{Sole, Missing, Frame, sole_kept, missing_kept, sole_new, missing_clear, whole_copy}
use Rattle.bbt.proofs.LeftPages.{Judged, judge, Twin, twin_sym, primary_kind, mirror_kind, Stands}
use Rattle.bbt.proofs.Outcomes.{zeroed_foreign, kept_refl, kept_trans, complete_kept}
use Rattle.bbt.proofs.Planning.{settled_reading}
use Rattle.bbt.proofs.Putting.{put_page}
use Rattle.bbt.proofs.Searches.{below_suc, find_none}

-- ---- a region whose pages are all unreadable
abbrev pub none_read : (chip : LargeChip) → Region chip
none_read chip = record {
  image = replicate (region_bytes chip) 0;
  status = replicate (region_pages chip) 1;
  image_length = length-replicate {A = ℕ} (region_bytes chip) 0;
  status_length = length-replicate {A = ℕ} (region_pages chip) 1;
  image_bytes = below_replicate (region_bytes chip) 0 256 (lit< tt);
  status_bits = below_replicate (region_pages chip) 1 2 (lit< tt);
}

none_reads : (chip : LargeChip) (b p : ℕ) → b < chip.region → p < pages_of chip → Unreadable (none_read chip) b p
none_reads chip b p hb hp =
    let x : suc b * pages_of chip ≤ chip.region * pages_of chip = mul-le-mul_right (pages_of chip) hb in
    record { fails = get_or-replicate (region_pages chip) (b * pages_of chip + p) 1 0 (omega arith) }

module _ {chip : LargeChip} (ok : Judged chip) where
  pub none_missing : {k j : Kind} → Twin k j → Missing (none_read chip) k
  none_missing {k} {j} o =
      record {
        not_found = find_none chip.region (good (pages_of chip) (view (none_read chip)) k)
            (λ b l. not_good (pages_of chip) ok.some_page (view (none_read chip)) b k j o 0 ok.some_page
            (zeroed_foreign k (inr (none_reads chip b 0 l ok.some_page))));
      }

  -- ---- the first n pages of a copy of t, put into block b
  record PutUpTo (r : Region chip) (k : Kind) (t : Table) (b n : ℕ) : Type 0 where
    s : Region chip
    stands : (p : ℕ) → p < n → Stands s b p k t
    others : Frame r s b

  put_pages : (r : Region chip) (k : Kind) (t : Table) (b : ℕ) → TableOfBytes t → b < chip.region → (n : ℕ) → n ≤ pages_of chip → PutUpTo r k t b n
  put_pages r k t b h hb zero hn =
      record { s = r; stands = λ p l. absurd (omega arith); others = λ c q hc hq ne. kept_refl r c q }
  put_pages r k t b h hb (suc n) hn =
      let a = put_pages r k t b h hb n (omega arith) in
      let w = put_page a.s b n (page_image k t n) 0 hb (omega arith) (image_bytes k t n h) (lit< tt) in
      let here : Stands w.s b n k t =
      record { well = w.here_status; data_as_asked = ap (take 2048) w.here_bytes; oob_as_asked = ap (drop 2062) w.here_bytes } in
      record {
        s = w.s;
        stands = λ p l. elim (below_suc l) [
          | inl e ↦ rw e here
          | inr m ↦ complete_kept (w.others b p hb (omega arith) (λ z. omega (arith, z.1))) (a.stands p m)
        ];
        others = λ c q hc hq ne. kept_trans (a.others c q hc hq ne) (w.others c q hc hq (λ z. ne z.0));
      }

  -- ---- a copy put where there is none of its kind; the other kind's stays
  module _ (r : Region chip) {k j : Kind} (o : Twin k j) (t : Table) (b : ℕ) (bytes : TableOfBytes t) (len : length t.bitmap ≡ bitmap_bytes chip)
      (hb : b < chip.region) where
    put : PutUpTo r k t b (pages_of chip)
    put = put_pages r k t b bytes hb (pages_of chip) (omega arith)

    put_good : good (pages_of chip) (view put.s) k b ≡ true
    put_good = (whole_copy ok t o len put.stands).0

    put_no_twin : good (pages_of chip) (view put.s) j b ≡ false
    put_no_twin = good_not_twin (pages_of chip) ok.some_page (view put.s) b k j (twin_sym o) put_good

    put_sole : Missing r k → Sole put.s k b t
    put_sole h = sole_new ok r put.s b put.others hb (missing_clear ok h b) put_good (whole_copy ok t o len put.stands).1

    put_missing : Missing r j → Missing put.s j
    put_missing h = missing_kept ok r put.s b put.others (missing_clear ok h b) (λ _. put_no_twin)

    put_other : {g : ℕ} {u : Table} → g ≢ b → Sole r j g u → Sole put.s j g u
    put_other ne h = sole_kept ok r put.s b put.others h ne (λ _. put_no_twin)

  settle : (t : Table) → AnyTable chip t → (p m : ℕ) → p < chip.region → m < chip.region → p ≢ m → (r : Region chip) × (reading chip (view r) ≡ holds p m t)
  settle t h p m hp hm ne =
      let bytes : TableOfBytes t = record { version_below = h.version_byte; bitmap-bytes = h.bitmap-bytes.below_256 } in
      let len = h.bitmap-bytes.as_many in
      let r = none_read chip in
      let x = put r primary_kind t p bytes len hp in
      let first = put_sole r primary_kind t p bytes len hp (none_missing primary_kind) in
      let lacks = put_missing r primary_kind t p bytes len hp (none_missing mirror_kind) in
      let y = put x.s mirror_kind t m bytes len hm in
      (y.s, settled_reading (put_other x.s mirror_kind t m bytes len hm ne first) (put_sole x.s mirror_kind t m bytes len hm lacks))

pub starts_anywhere : StartsAnywhere
starts_anywhere n size chip e = record {
  there = settle ok;
  starts = λ r t h. settled_at h;
}
  where
    ok : Judged chip
    ok = judge n size chip e

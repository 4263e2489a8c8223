-- The first pair of tables. Each step of the recipe keeps what `Left` says, so what is found wherever it stops is read off it; from a copy alone
-- histories begin (`OneCopy`).
-- Assumes nothing.
use mathlib.Core.Bool.{false, true≢false}
use mathlib.Core.List.{List, ◌∷◌}
use mathlib.Core.Path.{◌≡◌, refl, sym, ◌∙◌, subst}
use Prim.Native.Nat.{ℕ, ◌<◌}
use native.Mathlib.Omega.{arith}
use lib.Dec.{lit<}
use lib.ListN.{length, replicate, length-replicate}
use Rattle.bbt.specs.Copies.{Table, good, reads_bad}
use Rattle.bbt.specs.Pairs.{case_of, pair_case}
use Rattle.bbt.specs.Plans.{Step, copy_steps}
use Rattle.bbt.specs.Possible.{Left as Outcome, DoneAllows, CutAllows, AreLeft}
use Rattle.bbt.specs.Starts.{AnyTable}
use Rattle.bbt.specs.PowerCuts.{ImageOf, Harmless}
use Rattle.bbt.specs.Regions.{Region, view, Blank}
use Rattle.bbt.specs.declared.Kind.TheVariants.{Primary}
use Rattle.bbt.proofs.Forms.{whole_copy}
use Rattle.bbt.proofs.LeftPages.{Judged, judge, primary_kind, mirror_kind}
use Rattle.bbt.proofs.Outcomes.{zeroed_bad, blank_fit}
use Rattle.bbt.proofs.Placing.{did, broke}
use Rattle.bbt.proofs.Possible.{Takes, Stepped, done_takes, cut_takes, leave_step, left_done as as-done, left_cut as as-cut}
use Rattle.bbt.proofs.Putting.{put_page}
use Rattle.bbt.proofs.Starts.{none_read, none_missing}
use Rattle.bbt.proofs.AllBytes.{StepOfBytes, bytes_replicate}
use Rattle.bbt.proofs.PowerCuts.{in_region}
use Rattle.bbt.proofs.Searches.{nowhere_find}
use Rattle.chip.specs.Large.{bitmap_bytes, pages_of}
use Rattle.chip.specs.declared.LargeChip.{LargeChip}
use Rattle.bringup.specs.FirstPair.{page_for, Begins, Writing, begun, one_done, Stops, between, in_step, Found, none_yet, primary_alone, BringsUp, FirstPair}
use Rattle.bringup.proofs.Marks.{unmarked}
use Rattle.bringup.proofs.OneCopy.{from_one_copy}
use Rattle.bringup.proofs.Pages.{primary_page}
use Rattle.bringup.proofs.Seven.{seven_none, none_tables}
use Rattle.bringup.proofs.Writing.{Holds, holds_none, holds_one, Left, to_erase, to_write, writes_next, left_done, left_cut, left_holds, left_whole, zeroed_none, zeros_cut, blank_none}

module _ {chip : LargeChip} (ok : Judged chip) where
  -- ---- an attempt
  module _ (r : Region chip) (b : ℕ) (t : Table) (h : Begins r b t) where
    hb : b < chip.region
    hb = h.fit.in_region

    full : length t.bitmap ≡ bitmap_bytes chip
    full = h.any_table.bitmap-bytes.as_many

    step-image : {s : Region chip} {e : Step} {es : List Step} → Left s b t (e ∷ es) → Harmless s e × ImageOf e (page_for chip e)
    step-image (to_erase w n fit) = ((in_region ok b hb, fit), refl)
    step-image {s} {e} (to_write n q c w l) =
        let z = writes_next n q b Primary t w in
        let lo : q < pages_of chip = omega (arith, c, z.1) in
        subst (λ (x : Step). Harmless s x × ImageOf x (page_for chip x)) (sym z.2) ((in_region ok b hb, lo), primary_page ok t h.any_table q lo)

    left : {s : Region chip} {es : List Step} → Writing r b t s es → Left s b t es
    unfolding copy_steps
    left begun = to_erase refl (seven_none ok r h.seven) h.fit.not_bad
    left (one_done {s = s} {e = e} u w f d) = let x = left w in left_done ok hb full x f (did u (page_for chip e) e (step-image x).1 d)

    -- ---- what is found
    found : {s : Region chip} → Holds s b t → Found s b t
    unfolding pair_case case_of
    found {s} (holds_none n) =
        none_yet (λ w. true≢false (sym (whole_copy ok t primary_kind full w).0 ∙ nowhere_find chip.region (good (pages_of chip) (view s) Primary) n.no_primary.not_found b hb))
        (none_tables ok n)
    found (holds_one w x y) = primary_alone w (record { case = rw (x.found, y.not_found); content = x.content })

    stop : {s : Region chip} → Stops r b t s → Holds s b t × (reads_bad (view s) b ≡ false)
    stop (between w) = left_holds ok hb full (left w)
    stop (in_step {s = s} {e = e} u w f d) = let x = left w in left_cut ok hb full x f (broke s u (page_for chip e) e (step-image x).1 d)

    -- ---- nothing is left out
    step-bytes : {s : Region chip} {e : Step} {es : List Step} → Left s b t (e ∷ es) → StepOfBytes e
    step-bytes (to_erase w n fit) = tt
    step-bytes (to_write n q c w l) =
        let z = writes_next n q b Primary t w in
        subst StepOfBytes (sym z.2) (record { version_below = h.any_table.version_byte; bitmap-bytes = h.any_table.bitmap-bytes.below_256 })

    module _ {s : Region chip} {e : Step} {es : List Step} (w : Writing r b t s (e ∷ es)) (f : ℕ → Outcome) where
      to_left : ((p : ℕ) → Takes (page_for chip e) (f p)) → Stepped (page_for chip e) f e s
      to_left can = leave_step (page_for chip e) f e s ok (step-image (left w)).0 can

      can_be_done : ((p : ℕ) → DoneAllows e (f p)) → (u : Region chip) × AreLeft (page_for chip e) f e s u × Writing r b t u es
      can_be_done a =
          let x = left w in
          let z = to_left (λ p. done_takes (page_for chip e) e (f p) (step-image x).1 (step-bytes x) (a p)) in
          (z.s, z.is_left, one_done z.s w z.others (as-done (page_for chip e) f e s z.s a z.is_left))

      can_be_cut : ((p : ℕ) → CutAllows e p (f p)) → (u : Region chip) × AreLeft (page_for chip e) f e s u × Stops r b t u
      can_be_cut a =
          let x = left w in
          let z = to_left (λ p. cut_takes (page_for chip e) e p (f p) (step-image x).1 (step-bytes x) (a p)) in
          (z.s, z.is_left, in_step z.s w z.others (as-cut (page_for chip e) f e s z.s a z.is_left))

    brings_up : BringsUp r b t
    brings_up = record {
      harmless = λ w. step-image (left w);
      ends = λ w. left_whole ok hb full (left w);
      stops = λ z. let x = stop z in (found x.0, record { in_region = hb; not_bad = x.1 });
      zeros_done = λ {s} {u} z f d. (none_tables ok (zeroed_none ok hb full (stop z).0 f d), zeroed_bad u b d);
      zeros_cut = λ z f d. found (zeros_cut ok hb full (stop z).0 f d);
      can_be_done = λ w f a. can_be_done w f a;
      can_be_cut = λ w f a. can_be_cut w f a;
    }

  -- ---- one blank page in a region of which no other page reads
  begins_anywhere : (b : ℕ) (t : Table) → b < chip.region → AnyTable chip t → (r : Region chip) × Begins r b t
  begins_anywhere b t hb any =
      let w = put_page (none_read chip) b 0 (replicate 2112 255) 0 hb ok.some_page (record { as_many = length-replicate {A = ℕ} 2112 255; below_256 = bytes_replicate 2112 }) (lit< tt) in
      let z : Blank w.s b 0 = record { well = w.here_status; all_ff = w.here_bytes } in
      let n = blank_none ok b (none_missing ok primary_kind) (none_missing ok mirror_kind) (λ d p hd hp ne. w.others d p hd hp (λ e. ne e.0)) z in
      (w.s, record { seven = (none_tables ok n).no_recovery; fit = record { in_region = hb; not_bad = blank_fit z }; any_table = any })

pub first_pair : FirstPair
first_pair n size chip e = record {
  unmarked_fits = λ r b hb ne. record { in_region = hb; not_bad = unmarked r b ne };
  begins_anywhere = begins_anywhere ok;
  brings_up = brings_up ok;
  from_one_copy = from_one_copy ok;
}
  where
    ok : Judged chip
    ok = judge n size chip e

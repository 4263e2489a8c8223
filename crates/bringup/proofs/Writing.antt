-- The first primary being written, while no other block holds a good copy (`Bare`): so no copy is found until the block's last page is complete, and
-- then it is the only one (`Holds`).
-- Assumes nothing.
use mathlib.Core.Bool.{false}
use mathlib.Core.List.{List, [], ◌∷◌}
use mathlib.Core.Logic.{◌⊎◌, inl, inr, ◌≢◌}
use mathlib.Core.Path.{◌≡◌, refl}
use Prim.Native.Nat.{ℕ, zero, suc, ◌+◌, ◌<◌, ◌≤◌}
use native.Mathlib.Decide.{ℕ_discrete, dec_lt}
use native.Mathlib.Omega.{arith}
use lib.ListN.{length}
use Rattle.bbt.specs.Copies.{Table, reads_bad}
use Rattle.bbt.specs.Histories.{OthersKept}
use Rattle.bbt.specs.Plans.{Step, erase, write, zeros, writes}
use Rattle.bbt.specs.Regions.{Region, view, Blank, Zeroed, Unreadable, Lost, Kept}
use Rattle.bbt.specs.declared.Kind.{Kind}
use Rattle.bbt.specs.declared.Kind.TheVariants.{Primary, Mirror}
use Rattle.bbt.proofs.Blocks.{Foreign, not_good}
use Rattle.bbt.proofs.Forms.{Sole, Missing, Clear, Frame, Whole, clear_frame, missing_kept, missing_clear, missing_same, sole_new, sole_same, sole_clear, whole_copy}
use Rattle.bbt.proofs.LeftPages.{Judged, primary_kind, mirror_kind, Stands}
use Rattle.bbt.proofs.Outcomes.{blank_foreign, lost_foreign, zeroed_foreign, stands_foreign, blank_fit, lost_fit, stands_fit, kept_refl, complete_kept, blank_kept}
use Rattle.bbt.proofs.Placing.{Did, Broke, erase_frame, zeros_frame, all_same, erase_fit}
use Rattle.bbt.proofs.Searches.{all_or_some, below_suc, no_confusion}
use Rattle.chip.specs.Large.{bitmap_bytes, pages_of}
use Rattle.chip.specs.declared.LargeChip.{LargeChip}

module _ {chip : LargeChip} where
  -- no good copy of either kind but perhaps at b
  pub record Bare (s : Region chip) (b : ℕ) : Type 0 where
    pub primaries : Clear s Primary b
    pub mirrors : Clear s Mirror b

  -- no good copy at all
  pub record None (s : Region chip) : Type 0 where
    pub no_primary : Missing s Primary
    pub no_mirror : Missing s Mirror

  -- q pages are written, the others are blank
  pub record Filled (s : Region chip) (b : ℕ) (t : Table) (q : ℕ) : Type 0 where
    pub bare : Bare s b
    pub written : (i : ℕ) → i < q → Stands s b i Primary t
    pub blank : (i : ℕ) → q ≤ i → i < pages_of chip → Blank s b i

  -- none; or the primary, whole, and alone
  pub data Holds (s : Region chip) (b : ℕ) (t : Table) : Type 0 where
    holds_none : None s → Holds s b t
    holds_one : Whole s Primary b t → Sole s Primary b t → Missing s Mirror → Holds s b t

  -- the steps left
  pub data Left (s : Region chip) (b : ℕ) (t : Table) : List Step → Type 0 where
    to_erase : {es : List Step} → es ≡ writes (pages_of chip) 0 b Primary t [] → None s → reads_bad (view s) b ≡ false → Left s b t (erase b ∷ es)
    to_write : {es : List Step} (n q : ℕ) → n + q ≡ pages_of chip → es ≡ writes n q b Primary t [] → Filled s b t q → Left s b t es

  -- a region as it is
  same_frame : (s : Region chip) (b : ℕ) → Frame s s b
  same_frame s b d p hd hp ne = kept_refl s d p

-- a page is left to write
pub writes_next : (n q b : ℕ) (k : Kind) (t : Table) {e : Step} {es : List Step} → e ∷ es ≡ writes n q b k t []
    → (m : ℕ) × (n ≡ suc m) × (e ≡ write b q k t) × (es ≡ writes m (suc q) b k t [])
unfolding writes
writes_next zero q b k t h = absurd (no_confusion (cc))
writes_next (suc m) q b k t h = (m, refl, cc, cc)

pub writes_end : (n q b : ℕ) (k : Kind) (t : Table) → [] ≡ writes n q b k t [] → n ≡ 0
unfolding writes
writes_end zero q b k t h = refl
writes_end (suc m) q b k t h = absurd (no_confusion (cc))

module _ {chip : LargeChip} (ok : Judged chip) where
  none_bare : {s : Region chip} (b : ℕ) → None s → Bare s b
  none_bare b h = record { primaries = missing_clear ok h.no_primary b; mirrors = missing_clear ok h.no_mirror b }

  holds_bare : {s : Region chip} {b : ℕ} {t : Table} → Holds s b t → Bare s b
  holds_bare {b = b} (holds_none h) = none_bare b h
  holds_bare {b = b} (holds_one w x y) = record { primaries = sole_clear ok x; mirrors = missing_clear ok y b }

  module _ {r s : Region chip} {b : ℕ} (f : Frame r s b) (h : Bare r b) where
    bare_kept : Bare s b
    bare_kept = record {
      primaries = record { elsewhere = clear_frame ok r s b f h.primaries };
      mirrors = record { elsewhere = clear_frame ok r s b f h.mirrors };
    }

    -- one page of block b is no primary's, and one no mirror's
    none_left : (p : ℕ) → p < pages_of chip → Foreign Primary (view s b p) → (m : ℕ) → m < pages_of chip → Foreign Mirror (view s b m) → None s
    none_left p hp x m hm y =
        record {
          no_primary = missing_kept ok r s b f h.primaries (λ _. not_good (pages_of chip) ok.some_page (view s) b Primary Mirror primary_kind p hp x);
          no_mirror = missing_kept ok r s b f h.mirrors (λ _. not_good (pages_of chip) ok.some_page (view s) b Mirror Primary mirror_kind m hm y);
        }

    none_at : (p : ℕ) → p < pages_of chip → ((k : Kind) → Foreign k (view s b p)) → None s
    none_at p hp x = none_left p hp (x Primary) p hp (x Mirror)

  -- a block with a blank first page
  pub blank_none : {r s : Region chip} (b : ℕ) → Missing r Primary → Missing r Mirror → Frame r s b → Blank s b 0 → None s
  blank_none b p m f z = none_at f (none_bare b (record { no_primary = p; no_mirror = m })) 0 ok.some_page (λ k. blank_foreign k z)

  none_same : {r s : Region chip} → Frame r s chip.region → None r → None s
  none_same {r} {s} f h = record { no_primary = missing_same ok r s f h.no_primary; no_mirror = missing_same ok r s f h.no_mirror }

  holds_same : {r s : Region chip} {b : ℕ} {t : Table} → b < chip.region → Frame r s chip.region → Holds r b t → Holds s b t
  holds_same hb f (holds_none h) = holds_none (none_same f h)
  holds_same {r} {s} {b} hb f (holds_one w x y) =
      holds_one (λ p hp. complete_kept (f b p hb hp (λ e. omega arith)) (w p hp)) (sole_same ok r s f x) (missing_same ok r s f y)

  module _ {b : ℕ} {t : Table} (hb : b < chip.region) (full : length t.bitmap ≡ bitmap_bytes chip) where
    -- ---- pages written so far
    module _ {s : Region chip} {q : ℕ} (l : Filled s b t q) where
      -- the first page is no mirror's, and does not make its block readable as bad
      filled_first : Foreign Mirror (view s b 0) × (reads_bad (view s) b ≡ false)
      filled_first = go (ℕ_discrete q 0)
        where
          go : Dec (q ≡ 0) → Foreign Mirror (view s b 0) × (reads_bad (view s) b ≡ false)
          go (yes e) = let z : Blank s b 0 = l.blank 0 (omega arith) ok.some_page in (blank_foreign Mirror z, blank_fit z)
          go (no n) = let z : Stands s b 0 Primary t = l.written 0 (omega arith) in (stands_foreign t primary_kind full z, stands_fit t primary_kind full z)

      pub filled_holds : Holds s b t
      filled_holds = go (dec_lt q (pages_of chip))
        where
          go : Dec (q < pages_of chip) → Holds s b t
          go (yes h) = holds_none (none_left (same_frame s b) l.bare q h (blank_foreign Primary (l.blank q (omega arith) h)) 0 ok.some_page filled_first.0)
          go (no n) =
              let all : Whole s Primary b t = λ p hp. l.written p (omega arith) in
              let w = whole_copy ok t primary_kind full all in
              holds_one all (sole_new ok s s b (same_frame s b) hb l.bare.primaries w.0 w.1)
              (missing_kept ok s s b (same_frame s b) l.bare.mirrors
              (λ _. not_good (pages_of chip) ok.some_page (view s) b Mirror Primary mirror_kind 0 ok.some_page filled_first.0))

    -- ---- a page write
    module _ {r s : Region chip} {q : ℕ} (l : Filled r b t q) (hq : q < pages_of chip) (f : OthersKept (write b q Primary t) r s) where
      frame : Frame r s b
      frame d p hd hp ne = f d p hd hp (λ t. ne t.0)

      kept : (i : ℕ) → i < pages_of chip → i ≢ q → Kept r s b i
      kept i hi ne = f b i hb hi (λ t. ne t.1)

      still : (i : ℕ) → i < q → Stands s b i Primary t
      still i h = complete_kept (kept i (omega arith) (omega arith)) (l.written i h)

      later : (i : ℕ) → q < i → i < pages_of chip → Blank s b i
      later i lo hi = blank_kept (kept i hi (omega arith)) (l.blank i (omega arith) hi)

      fill_next : Stands s b q Primary t → Filled s b t (suc q)
      fill_next h = record { bare = bare_kept frame l.bare; written = λ i hi. at i (below_suc hi); blank = λ i lo hi. later i (omega arith) hi }
        where
          at : (i : ℕ) → (i ≡ q) ⊎ (i < q) → Stands s b i Primary t
          at i (inl e) = rw e h
          at i (inr lo) = still i lo

      fill_same : Blank s b q → Filled s b t q
      fill_same h = record { bare = bare_kept frame l.bare; written = still; blank = λ i lo hi. at i lo hi (ℕ_discrete i q) }
        where
          at : (i : ℕ) → q ≤ i → i < pages_of chip → Dec (i ≡ q) → Blank s b i
          at i lo hi (yes e) = rw e h
          at i lo hi (no n) = later i (omega arith) hi

      -- page q is unreadable: of no copy, and the first page is it or is written
      lost_first : Lost s b q → Foreign Mirror (view s b 0) × (reads_bad (view s) b ≡ false)
      lost_first h = go (ℕ_discrete q 0)
        where
          go : Dec (q ≡ 0) → Foreign Mirror (view s b 0) × (reads_bad (view s) b ≡ false)
          go (yes e) = let z : Lost s b 0 = rw e at h in (lost_foreign Mirror z, lost_fit z)
          go (no n) = let z : Stands s b 0 Primary t = still 0 (omega arith) in (stands_foreign t primary_kind full z, stands_fit t primary_kind full z)

      pub write_cut : Broke (write b q Primary t) r s → Holds s b t × (reads_bad (view s) b ≡ false)
      write_cut (inl h) = let z = fill_same h in (filled_holds z, (filled_first z).1)
      write_cut (inr (inl h)) = let z = fill_next h in (filled_holds z, (filled_first z).1)
      write_cut (inr (inr h)) =
          let z = lost_first h in
          (holds_none (none_left frame l.bare q hq (lost_foreign Primary h) 0 ok.some_page z.0), z.1)

    -- ---- an erase
    module _ {r s : Region chip} (h : None r) (fit : reads_bad (view r) b ≡ false) (f : OthersKept (erase b) r s) where
      pub erase_done : Did (erase b) s → Filled s b t 0
      erase_done d = record { bare = bare_kept (erase_frame f) (none_bare b h); written = λ i lo. absurd (omega arith); blank = λ i lo hi. d i hi }

      pub erase_cut : Broke (erase b) r s → Holds s b t × (reads_bad (view s) b ≡ false)
      erase_cut d = (holds_none (go (all_or_some (pages_of chip) (λ p. Kept r s b p) (λ p. Blank s b p ⊎ Lost s b p) d)), erase_fit ok d fit)
        where
          off : (p : ℕ) → Blank s b p ⊎ Lost s b p → (k : Kind) → Foreign k (view s b p)
          off p (inl z) k = blank_foreign k z
          off p (inr z) k = lost_foreign k z

          go : ((p : ℕ) → p < pages_of chip → Kept r s b p) ⊎ ((p : ℕ) × (p < pages_of chip) × (Blank s b p ⊎ Lost s b p)) → None s
          go (inl z) = none_same (all_same ok (erase_frame f) z) h
          go (inr z) = none_at (erase_frame f) (none_bare b h) z.0 z.1 (off z.0 z.2)

    -- ---- zeros
    module _ {r s : Region chip} (h : Holds r b t) (f : OthersKept (zeros b) r s) where
      none_zeroed : Zeroed s b 0 ⊎ Unreadable s b 0 → None s
      none_zeroed d = none_at (zeros_frame f) (holds_bare h) 0 ok.some_page (λ k. zeroed_foreign k d)

      pub zeroed_none : Zeroed s b 0 → None s
      zeroed_none d = none_zeroed (inl d)

      pub zeros_cut : Broke (zeros b) r s → Holds s b t
      zeros_cut (inr d) = holds_none (none_zeroed d)
      zeros_cut (inl d) = holds_same hb (all_same ok (zeros_frame f) (λ p hp. at p hp (ℕ_discrete p 0))) h
        where
          at : (p : ℕ) → p < pages_of chip → Dec (p ≡ 0) → Kept r s b p
          at p hp (yes e) = rw e d
          at p hp (no n) = f b p hb hp (λ z. n z.1)

    -- ---- any step
    pub left_done : {r s : Region chip} {e : Step} {es : List Step} → Left r b t (e ∷ es) → OthersKept e r s → Did e s → Left s b t es
    left_done (to_erase w h fit) f d = to_write (pages_of chip) 0 (omega arith) w (erase_done h fit f d)
    left_done {r} {s} {e} {es} (to_write n q c w l) f d = go (writes_next n q b Primary t w) f d
      where
        go : (m : ℕ) × (n ≡ suc m) × (e ≡ write b q Primary t) × (es ≡ writes m (suc q) b Primary t []) → OthersKept e r s → Did e s → Left s b t es
        go (m, x, y, z) f d = to_write m (suc q) (omega arith) z (fill_next l (omega arith) (rw y at f) (rw y at d))

    pub left_cut : {r s : Region chip} {e : Step} {es : List Step} → Left r b t (e ∷ es) → OthersKept e r s → Broke e r s → Holds s b t × (reads_bad (view s) b ≡ false)
    left_cut (to_erase w h fit) f d = erase_cut h fit f d
    left_cut {r} {s} {e} {es} (to_write n q c w l) f d = go (writes_next n q b Primary t w) f d
      where
        go : (m : ℕ) × (n ≡ suc m) × (e ≡ write b q Primary t) × (es ≡ writes m (suc q) b Primary t []) → OthersKept e r s → Broke e r s
            → Holds s b t × (reads_bad (view s) b ≡ false)
        go (m, x, y, z) f d = write_cut l (omega arith) (rw y at f) (rw y at d)

    -- between steps
    pub left_holds : {s : Region chip} {es : List Step} → Left s b t es → Holds s b t × (reads_bad (view s) b ≡ false)
    left_holds (to_erase w h fit) = (holds_none h, fit)
    left_holds (to_write n q c w l) = (filled_holds l, (filled_first l).1)

    -- with no step left
    pub left_whole : {s : Region chip} → Left s b t [] → Whole s Primary b t
    left_whole (to_write n q c w l) p hp = let z = writes_end n q b Primary t w in l.written p (omega arith)

-- A copy being written: a failed block gets zeros, if one has failed, the copy's block is erased, then its pages are written one by one, while the
-- other kind's copy stands elsewhere. What a step of it, done, cut or failed, makes of the region, once for every kind, block and number of pages.
-- Assumes nothing.
use mathlib.Core.Bool.{false}
use mathlib.Core.List.{List, ◌∷◌}
use mathlib.Core.Logic.{◌⊎◌, inl, inr, ◌≢◌}
use mathlib.Core.Path.{◌≡◌, refl, sym, ◌∙◌}
use Prim.Native.Nat.{ℕ, zero, suc, ◌+◌, ◌<◌}
use native.Mathlib.Decide.{ℕ_discrete}
use native.Mathlib.Omega.{arith}
use lib.ListN.{length}
use Rattle.chip.specs.Large.{bitmap_bytes, pages_of}
use Rattle.chip.specs.declared.LargeChip.{LargeChip}
use Rattle.bbt.specs.declared.Kind.{Kind}
use Rattle.bbt.specs.Copies.{Table, reads_bad}
use Rattle.bbt.specs.Histories.{OthersKept, Done, Cut}
use Rattle.bbt.specs.Images.{Imaged, page-image, page_image}
use Rattle.bbt.specs.Plans.{Step, erase, write, zeros, writes, copy_steps}
use Rattle.bbt.specs.PowerCuts.{ImageOf}
use Rattle.bbt.specs.Regions.{Region, view, Blank, Zeroed, Unreadable, Lost, Kept}
use Rattle.bbt.proofs.Blocks.{Foreign, not_good}
use Rattle.bbt.proofs.Forms.{Sole, Clear, Room, Lacks, Fill, Whole, Frame, frame_bad, sole_kept, missing_kept, sole_new, missing_clear, sole_clear, whole_copy, sole_same, clear_same}
use Rattle.bbt.proofs.LeftPages.{Judged, Twin, twin_sym, Stands}
use Rattle.bbt.proofs.Outcomes.{blank_foreign, lost_foreign, zeroed_foreign, stands_foreign, blank_fit, lost_fit, stands_fit, kept_fit, complete_kept, blank_kept}
use Rattle.bbt.proofs.Searches.{all_or_some, below_suc}

module _ {chip : LargeChip} where
  -- ---- a step, done, or cut or failed, by what it writes
  abbrev pub Did : Step → Region chip → Type 0
  Did (erase b) s = (p : ℕ) → p < pages_of chip → Blank s b p
  Did (write b p k t) s = Stands s b p k t
  Did (zeros b) s = Zeroed s b 0

  abbrev pub Broke : Step → Region chip → Region chip → Type 0
  Broke (erase b) r s = (p : ℕ) → p < pages_of chip → Kept r s b p ⊎ (Blank s b p ⊎ Lost s b p)
  Broke (write b p k t) r s = Blank s b p ⊎ (Stands s b p k t ⊎ Lost s b p)
  Broke (zeros b) r s = Kept r s b 0 ⊎ (Zeroed s b 0 ⊎ Unreadable s b 0)

  -- the page image that was asked for is the step's
  pub did : (s : Region chip) (x : Imaged) (e : Step) → ImageOf e x → Done x e s → Did e s
  did s x (erase b) h d = d
  did s x (write b p k t) h d =
      let q : page-image d.page ≡ page-image (page_image k t p) = sym d.given ∙ h in
      let z : d.page ≡ page_image k t p = cc in
      rw z at d.complete
  did s x (zeros b) h d = d

  pub broke : (r s : Region chip) (x : Imaged) (e : Step) → ImageOf e x → Cut x e r s → Broke e r s
  broke r s x (erase b) h d = d
  broke r s x (write b p k t) h (inl d) = inl d
  broke r s x (write b p k t) h (inr (inl d)) = inr (inl (did s x (write b p k t) h d))
  broke r s x (write b p k t) h (inr (inr d)) = inr (inr d)
  broke r s x (zeros b) h d = d

  pub erase_frame : {r s : Region chip} {b : ℕ} → OthersKept (erase b) r s → Frame r s b
  erase_frame f = λ d p hd hp ne. f d p hd hp ne

  pub zeros_frame : {r s : Region chip} {b : ℕ} → OthersKept (zeros b) r s → Frame r s b
  zeros_frame f = λ d p hd hp ne. f d p hd hp (λ t. ne t.0)

module _ {chip : LargeChip} where
  -- the steps left of placing a copy of x, kind k, at block b, and after them the rest; kind j's copy at g holds c
  pub data Placing (r : Region chip) (k j : Kind) (b g : ℕ) (x c : Table) (rest : List Step) : List Step → Type 0 where
    place_start : {es : List Step} → es ≡ writes (pages_of chip) 0 b k x rest → Sole r j g c → Clear r k b
        → reads_bad (view r) b ≡ false → b < chip.region → g ≢ b → Placing r k j b g x c rest (erase b ∷ es)
    place_fill : {es : List Step} (n q : ℕ) → suc n + q ≡ pages_of chip → es ≡ writes n (suc q) b k x rest → Fill r k j b g x c q
        → Placing r k j b g x c rest (write b q k x ∷ es)
    -- block z has failed, and zeros are still to come
    place_retire : {z : ℕ} {es : List Step} → es ≡ copy_steps (pages_of chip) b k x rest → Sole r j g c → Clear r k z → z < chip.region → g ≢ z → b ≢ z
        → reads_bad (view r) b ≡ false → b < chip.region → g ≢ b → Placing r k j b g x c rest (zeros z ∷ es)

  -- what a step of it, done, leaves
  pub data Went (s : Region chip) (k j : Kind) (b g : ℕ) (x c : Table) (rest es : List Step) : Type 0 where
    more : Placing s k j b g x c rest es → Lacks s k j g c → Went s k j b g x c rest es
    placed : es ≡ rest → Sole s j g c → Sole s k b x → Whole s k b x → Went s k j b g x c rest es

  -- what a step of it, cut or failed, leaves
  pub data Remains (r s : Region chip) (k j : Kind) (b g : ℕ) (x c : Table) : Type 0 where
    unchanged : Frame r s chip.region → Remains r s k j b g x c
    lacks : Lacks s k j g c → Remains r s k j b g x c
    whole : Sole s j g c → Sole s k b x → Whole s k b x → Remains r s k j b g x c

module _ {chip : LargeChip} (ok : Judged chip) where
  -- block z's page p passes for no copy: the twin stays, and kind k is nowhere
  gone : {r s : Region chip} {k j : Kind} {z g : ℕ} {c : Table} → Frame r s z → Twin k j → Sole r j g c → Clear r k z → g ≢ z
      → (p : ℕ) → p < pages_of chip → ((i : Kind) → Foreign i (view s z p)) → Room s g → Lacks s k j g c
  gone {r} {s} {k} {j} {z} f o t w ne p hp h room =
      record {
        twin = sole_kept ok r s z f t ne (λ _. not_good (pages_of chip) ok.some_page (view s) z j k (twin_sym o) p hp (h j));
        lacking = missing_kept ok r s z f w (λ _. not_good (pages_of chip) ok.some_page (view s) z k j o p hp (h k));
        room = room;
      }

  -- pages of a block, all as they were: nothing changed
  pub all_same : {r s : Region chip} {b : ℕ} → Frame r s b → ((p : ℕ) → p < pages_of chip → Kept r s b p) → Frame r s chip.region
  all_same {r} {s} {b} f h a p ha hp _ = go (ℕ_discrete a b)
    where
      go : Dec (a ≡ b) → Kept r s a p
      go (yes e) = rw e (h p hp)
      go (no n) = f a p ha hp n

  -- an erase -----------------------------------------------------------------------------------------------------------------
  -- block b still does not read as bad
  pub erase_fit : {r s : Region chip} {b : ℕ} → Broke (erase b) r s → reads_bad (view r) b ≡ false → reads_bad (view s) b ≡ false
  erase_fit {r} {s} {b} d e = go (d 0 ok.some_page)
    where
      go : Kept r s b 0 ⊎ (Blank s b 0 ⊎ Lost s b 0) → reads_bad (view s) b ≡ false
      go (inl h) = kept_fit h e
      go (inr (inl h)) = blank_fit h
      go (inr (inr h)) = lost_fit h

  blank_room : {s : Region chip} {b g : ℕ} → b < chip.region → g ≢ b → reads_bad (view s) b ≡ false → Room s g
  blank_room {b = b} l n e = record { spot = b; spot_in = l; spot_off = λ q. n (sym q); spot_fit = e }

  erased : {r s : Region chip} {k j : Kind} {b g : ℕ} {c : Table} (x : Table) → OthersKept (erase b) r s → Did (erase b) s
      → Twin k j → Sole r j g c → Clear r k b → b < chip.region → g ≢ b → length x.bitmap ≡ bitmap_bytes chip → Fill s k j b g x c 0
  erased {r} {s} {k} {j} {b} {g} x f d o t w hb ne len =
      let l = gone (erase_frame f) o t w ne 0 ok.some_page (λ i. blank_foreign i (d 0 ok.some_page)) (blank_room hb ne (blank_fit (d 0 ok.some_page))) in
      record {
        kinds = o;
        twin = l.twin;
        lacking = l.lacking;
        in_region = hb;
        off_twin = ne;
        full = len;
        written = λ i l. absurd (omega arith);
        blank = λ i l h. d i h;
      }

  cut_erase : {r s : Region chip} {k j : Kind} {b g : ℕ} {x c : Table} → OthersKept (erase b) r s → Broke (erase b) r s
      → Twin k j → Sole r j g c → Clear r k b → reads_bad (view r) b ≡ false → b < chip.region → g ≢ b → Remains r s k j b g x c
  cut_erase {r} {s} {k} {j} {b} {g} {x} {c} f d o t w e hb ne =
      go (all_or_some (pages_of chip) (λ p. Kept r s b p) (λ p. Blank s b p ⊎ Lost s b p) d)
    where
      off : (p : ℕ) → Blank s b p ⊎ Lost s b p → (i : Kind) → Foreign i (view s b p)
      off p (inl z) i = blank_foreign i z
      off p (inr z) i = lost_foreign i z

      go : ((p : ℕ) → p < pages_of chip → Kept r s b p) ⊎ ((p : ℕ) × (p < pages_of chip) × (Blank s b p ⊎ Lost s b p)) → Remains r s k j b g x c
      go (inl h) = unchanged (all_same (erase_frame f) h)
      go (inr h) = lacks (gone (erase_frame f) o t w ne h.0 h.1 (off h.0 h.2) (blank_room hb ne (erase_fit d e)))

  -- a page write -------------------------------------------------------------------------------------------------------------
  module _ (r : Region chip) (k j : Kind) (b g : ℕ) (x c : Table) (q : ℕ) (l : Fill r k j b g x c q) where
    -- the block being written does not read as bad
    fill_fit : reads_bad (view r) b ≡ false
    fill_fit = go (ℕ_discrete q 0)
      where
        go : Dec (q ≡ 0) → reads_bad (view r) b ≡ false
        go (yes e) = blank_fit (l.blank 0 (omega arith) ok.some_page)
        go (no n) = stands_fit x l.kinds l.full (l.written 0 (omega arith))

    pub fill_lacks : Lacks r k j g c
    fill_lacks = record { twin = l.twin; lacking = l.lacking; room = blank_room l.in_region l.off_twin fill_fit }

  module _ (r s : Region chip) (k j : Kind) (b g : ℕ) (x c : Table) (q : ℕ) (l : Fill r k j b g x c q) (hq : q < pages_of chip)
      (f : OthersKept (write b q k x) r s) where
    pub write_frame : Frame r s b
    write_frame d p hd hp ne = f d p hd hp (λ t. ne t.0)

    kept : (i : ℕ) → i < pages_of chip → i ≢ q → Kept r s b i
    kept i hi ne = f b i l.in_region hi (λ t. ne t.1)

    still : (i : ℕ) → i < q → Stands s b i k x
    still i h = complete_kept (kept i (omega arith) (omega arith)) (l.written i h)

    -- the block's first page, whatever became of page q
    first : Broke (write b q k x) r s → Blank s b 0 ⊎ (Stands s b 0 k x ⊎ Lost s b 0)
    first d = go (ℕ_discrete q 0)
      where
        go : Dec (q ≡ 0) → Blank s b 0 ⊎ (Stands s b 0 k x ⊎ Lost s b 0)
        go (yes e) = rw e at d
        go (no n) = inr (inl (still 0 (omega arith)))

    write_fit : Broke (write b q k x) r s → reads_bad (view s) b ≡ false
    write_fit d = go (first d)
      where
        go : Blank s b 0 ⊎ (Stands s b 0 k x ⊎ Lost s b 0) → reads_bad (view s) b ≡ false
        go (inl h) = blank_fit h
        go (inr (inl h)) = stands_fit x l.kinds l.full h
        go (inr (inr h)) = lost_fit h

    twin_kept : Broke (write b q k x) r s → Sole s j g c
    twin_kept d =
        sole_kept ok r s b write_frame l.twin l.off_twin (λ _. not_good (pages_of chip) ok.some_page (view s) b j k (twin_sym l.kinds) 0 ok.some_page (go (first d)))
      where
        go : Blank s b 0 ⊎ (Stands s b 0 k x ⊎ Lost s b 0) → Foreign j (view s b 0)
        go (inl h) = blank_foreign j h
        go (inr (inl h)) = stands_foreign x l.kinds l.full h
        go (inr (inr h)) = lost_foreign j h

    lacks_page : (d : Broke (write b q k x) r s) (p : ℕ) → p < pages_of chip → Foreign k (view s b p) → Lacks s k j g c
    lacks_page d p hp h =
        record {
          twin = twin_kept d;
          lacking = missing_kept ok r s b write_frame (missing_clear ok l.lacking b) (λ _. not_good (pages_of chip) ok.some_page (view s) b k j l.kinds p hp h);
          room = blank_room l.in_region l.off_twin (write_fit d);
        }

    fill_more : suc q < pages_of chip → Stands s b q k x → Fill s k j b g x c (suc q)
    fill_more m h =
        let next : Blank s b (suc q) = blank_kept (kept (suc q) m (omega arith)) (l.blank (suc q) (omega arith) m) in
        let w = lacks_page (inr (inl h)) (suc q) m (blank_foreign k next) in
        record {
          kinds = l.kinds;
          twin = w.twin;
          lacking = w.lacking;
          in_region = l.in_region;
          off_twin = l.off_twin;
          full = l.full;
          written = λ i hi. at i (below_suc hi);
          blank = λ i lo hi. blank_kept (kept i hi (omega arith)) (l.blank i (omega arith) hi);
        }
      where
        at : (i : ℕ) → (i ≡ q) ⊎ (i < q) → Stands s b i k x
        at i (inl e) = rw e h
        at i (inr lo) = still i lo

    fill_all : suc q ≡ pages_of chip → Stands s b q k x → Whole s k b x
    fill_all m h p hp = at (below_suc (rw (← m) at hp))
      where
        at : (p ≡ q) ⊎ (p < q) → Stands s b p k x
        at (inl e) = rw e h
        at (inr lo) = still p lo

    fill_end : suc q ≡ pages_of chip → Stands s b q k x → Sole s k b x
    fill_end m h =
        let w = whole_copy ok x l.kinds l.full (fill_all m h) in
        sole_new ok r s b write_frame l.in_region (missing_clear ok l.lacking b) w.0 w.1

    write_done : {rest es : List Step} (n : ℕ) → suc n + q ≡ pages_of chip → es ≡ writes n (suc q) b k x rest → Stands s b q k x
        → Went s k j b g x c rest es
    unfolding writes
    write_done zero e w d = placed w (twin_kept (inr (inl d))) (fill_end (omega arith) d) (fill_all (omega arith) d)
    write_done {rest} (suc n) e w d =
        let z : Fill s k j b g x c (suc q) = fill_more (omega arith) d in
        rw w (more (place_fill n (suc q) (omega arith) refl z) (fill_lacks s k j b g x c (suc q) z))

    write_cut : (n : ℕ) → suc n + q ≡ pages_of chip → Broke (write b q k x) r s → Remains r s k j b g x c
    write_cut n e (inl d) = lacks (lacks_page (inl d) q hq (blank_foreign k d))
    write_cut n e (inr (inr d)) = lacks (lacks_page (inr (inr d)) q hq (lost_foreign k d))
    write_cut zero e (inr (inl d)) = whole (twin_kept (inr (inl d))) (fill_end (omega arith) d) (fill_all (omega arith) d)
    write_cut (suc n) e (inr (inl d)) = let z : Fill s k j b g x c (suc q) = fill_more (omega arith) d in lacks (fill_lacks s k j b g x c (suc q) z)

  -- any step -----------------------------------------------------------------------------------------------------------------
  module _ (r s : Region chip) {k j : Kind} {b g : ℕ} {x c : Table} {rest : List Step} (o : Twin k j) (full : length x.bitmap ≡ bitmap_bytes chip) where
    start_done : {es : List Step} (P : ℕ) → P ≡ pages_of chip → es ≡ writes P 0 b k x rest → Fill s k j b g x c 0 → Went s k j b g x c rest es
    unfolding writes
    start_done zero e w f = absurd (omega (arith, ok.some_page))
    start_done (suc n) e w f = rw w (more (place_fill n 0 (omega arith) refl f) (fill_lacks s k j b g x c 0 f))

    pub place_done : {e : Step} {es : List Step} → Placing r k j b g x c rest (e ∷ es) → OthersKept e r s → Did e s → Went s k j b g x c rest es
    unfolding copy_steps
    place_done (place_start w t cl ft hb ne) sp d = start_done (pages_of chip) refl w (erased x sp d o t cl hb ne full)
    place_done (place_fill n q e w l) sp d = write_done r s k j b g x c q l (omega arith) sp n e w d
    place_done (place_retire {z = z} w t cl hz nz nb ft hb ne) sp d =
        let fit : reads_bad (view s) b ≡ false = frame_bad ok r s z (zeros_frame sp) b hb nb ∙ ft in
        let l = gone (zeros_frame sp) o t cl nz 0 ok.some_page (λ i. zeroed_foreign i (inl d)) (blank_room hb ne fit) in
        rw w (more (place_start refl l.twin (missing_clear ok l.lacking b) fit hb ne) l)

    pub place_cut : {e : Step} {es : List Step} → Placing r k j b g x c rest (e ∷ es) → OthersKept e r s → Broke e r s → Remains r s k j b g x c
    place_cut (place_start w t cl ft hb ne) sp d = cut_erase sp d o t cl ft hb ne
    place_cut (place_fill n q e w l) sp d = write_cut r s k j b g x c q l (omega arith) sp n e d
    place_cut (place_retire {z = z} w t cl hz nz nb ft hb ne) sp (inl d) = unchanged (all_same (zeros_frame sp) (λ p hp. at p hp (ℕ_discrete p 0)))
      where
        at : (p : ℕ) → p < pages_of chip → Dec (p ≡ 0) → Kept r s z p
        at p hp (yes e) = rw e d
        at p hp (no n) = sp z p hz hp (λ t. n t.1)
    place_cut (place_retire {z = z} w t cl hz nz nb ft hb ne) sp (inr d) =
        lacks (gone (zeros_frame sp) o t cl nz 0 ok.some_page (λ i. zeroed_foreign i d)
        (blank_room hb ne (frame_bad ok r s z (zeros_frame sp) b hb nb ∙ ft)))

  module _ (r s : Region chip) {k j : Kind} {b g : ℕ} {x c : Table} where
    -- what is left keeps the other copy, and no other copy of its own kind
    pub remains_twin : Sole r j g c → Remains r s k j b g x c → Sole s j g c
    remains_twin t (unchanged f) = sole_same ok r s f t
    remains_twin t (lacks l) = l.twin
    remains_twin t (whole u v w) = u

    pub remains_clear : Clear r k b → Remains r s k j b g x c → Clear s k b
    remains_clear t (unchanged f) = clear_same ok r s f t
    remains_clear t (lacks l) = missing_clear ok l.lacking b
    remains_clear t (whole u v w) = sole_clear ok v

  module _ (r s : Region chip) {k j : Kind} {b g : ℕ} {x c : Table} {rest : List Step} where
    -- the block that the next step touches
    pub place_frame : {e : Step} {es : List Step} → Placing r k j b g x c rest (e ∷ es) → OthersKept e r s
        → (z : ℕ) × Frame r s z × (g ≢ z) × ((z ≡ b) ⊎ (e ≡ zeros z))
    place_frame (place_start w t cl ft hb ne) sp = (b, erase_frame sp, ne, inl refl)
    place_frame (place_fill n q e w l) sp = (b, write_frame r s k j b g x c q l (omega arith) sp, l.off_twin, inl refl)
    place_frame (place_retire {z = z} w t cl hz nz nb ft hb ne) sp = (z, zeros_frame sp, nz, inr refl)

  pub place_twin : {r : Region chip} {k j : Kind} {b g : ℕ} {x c : Table} {rest es : List Step} → Placing r k j b g x c rest es → Sole r j g c × (b < chip.region) × (g ≢ b)
  place_twin (place_start w t cl ft hb ne) = (t, hb, ne)
  place_twin (place_fill n q e w l) = (l.twin, l.in_region, l.off_twin)
  place_twin (place_retire w t cl hz nz nb ft hb ne) = (t, hb, ne)

-- What the region holds, while steps are done and cut: the forms of the invariant under demand 3, and that a form stays where the pages
-- it speaks of are kept. P and M are the one good primary and the one good mirror, c a table, "-" no good copy of that kind.
--
--     twins      P c    M c      the pair is settled
--     ahead      P c    M old    the primary's version is the mirror's plus 1
--     one_left   P c    -        one copy, and room for the other; or the mirror, and room for the primary
--
-- In each of them a recovery settles on c.
-- Assumes nothing.
use mathlib.Core.Bool.{true, false, true≢false}
use mathlib.Core.Logic.{◌≢◌}
use mathlib.Core.Path.{◌≡◌, sym, ap, ◌∙◌, subst}
use Prim.Native.Nat.{ℕ, ◌*◌, ◌<◌, ◌≤◌}
use native.Mathlib.Decide.{ℕ_discrete}
use native.Mathlib.Omega.{arith}
use lib.ListN.{length}
use Rattle.chip.specs.Large.{bitmap_bytes, pages_of}
use Rattle.chip.specs.declared.LargeChip.{LargeChip}
use Rattle.bbt.specs.declared.Kind.{Kind}
use Rattle.bbt.specs.declared.Kind.TheVariants.{Primary, Mirror}
use Rattle.bbt.specs.Copies.{Table, good, reads_bad, table, nowhere, only}
use Rattle.bbt.specs.Images.{chunk}
use Rattle.bbt.specs.Pages.{reads}
use Rattle.bbt.specs.Pairs.{copies}
use Rattle.bbt.specs.Plans.{next_version}
use Rattle.bbt.specs.Regions.{Region, view, Blank, Kept}
use Rattle.bbt.proofs.Blocks.{good_not_twin, good_not_bad, written_good, written_table}
use Rattle.bbt.proofs.LeftPages.{Judged, Twin, Stands, kept_seen, stands_seen, length_table}
use Rattle.bbt.proofs.Searches.{find_none, find_only, nowhere_find, only_find, Unique}
use Rattle.bbt.proofs.Views.{good_agrees, table_agrees, bad_agrees}

module _ {chip : LargeChip} where
  -- block b is the one good copy of kind k, and holds t
  pub record Sole (r : Region chip) (k : Kind) (b : ℕ) (t : Table) : Type 0 where
    pub found : copies chip (view r) k ≡ only b
    pub content : table (pages_of chip) (view r) b ≡ t

  pub record Missing (r : Region chip) (k : Kind) : Type 0 where
    pub not_found : copies chip (view r) k ≡ nowhere

  -- no good copy of kind k but perhaps at b
  pub record Clear (r : Region chip) (k : Kind) (b : ℕ) : Type 0 where
    pub elsewhere : (d : ℕ) → d < chip.region → d ≢ b → good (pages_of chip) (view r) k d ≡ false

  -- a block other than g that does not read as bad
  pub record Room (r : Region chip) (g : ℕ) : Type 0 where
    pub spot : ℕ
    pub spot_in : spot < chip.region
    pub spot_off : spot ≢ g
    pub spot_fit : reads_bad (view r) spot ≡ false

  -- one copy, of kind j at g, and a block for the other
  pub record Lacks (r : Region chip) (k j : Kind) (g : ℕ) (c : Table) : Type 0 where
    pub twin : Sole r j g c
    pub lacking : Missing r k
    pub room : Room r g

  -- the region holds the table c: a recovery would settle on it
  pub data Sound (r : Region chip) (c : Table) : Type 0 where
    twins : {p m : ℕ} → Sole r Primary p c → Sole r Mirror m c → Sound r c
    ahead : {p m : ℕ} {y : Table} → Sole r Primary p c → Sole r Mirror m y → c.version ≡ next_version y.version → Sound r c
    one_left : {k j : Kind} {g : ℕ} → Twin k j → Lacks r k j g c → Sound r c

  -- q pages of a copy of x are written to b, where kind j's copy at g holds c
  pub record Fill (r : Region chip) (k j : Kind) (b g : ℕ) (x c : Table) (q : ℕ) : Type 0 where
    pub kinds : Twin k j
    pub twin : Sole r j g c
    pub lacking : Missing r k
    pub in_region : b < chip.region
    pub off_twin : g ≢ b
    pub full : length x.bitmap ≡ bitmap_bytes chip
    pub written : (i : ℕ) → i < q → Stands r b i k x
    pub blank : (i : ℕ) → q ≤ i → i < pages_of chip → Blank r b i

  -- all pages of a copy
  abbrev pub Whole : Region chip → Kind → ℕ → Table → Type 0
  Whole r k b t = (p : ℕ) → p < pages_of chip → Stands r b p k t

  -- every page but those of block b is as it was
  abbrev pub Frame : Region chip → Region chip → ℕ → Type 0
  Frame r s b = (d p : ℕ) → d < chip.region → p < pages_of chip → d ≢ b → Kept r s d p

module _ {chip : LargeChip} (ok : Judged chip) where
  module _ (r s : Region chip) (b : ℕ) (f : Frame r s b) where
    frame_view : (d : ℕ) → d < chip.region → d ≢ b → (p : ℕ) → p < pages_of chip → view s d p ≡ view r d p
    frame_view d hd ne p hp = kept_seen r s d p (f d p hd hp ne)

    frame_good : (k : Kind) (d : ℕ) → d < chip.region → d ≢ b → good (pages_of chip) (view s) k d ≡ good (pages_of chip) (view r) k d
    frame_good k d hd ne = good_agrees (pages_of chip) ok.some_page (view s) (view r) d (frame_view d hd ne) k

    pub frame_bad : (d : ℕ) → d < chip.region → d ≢ b → reads_bad (view s) d ≡ reads_bad (view r) d
    frame_bad d hd ne = bad_agrees (pages_of chip) ok.some_page (view s) (view r) d (frame_view d hd ne)

    pub sole_kept : {k : Kind} {g : ℕ} {t : Table} → Sole r k g t → g ≢ b → (b < chip.region → good (pages_of chip) (view s) k b ≡ false) → Sole s k g t
    sole_kept {k} {g} {t} h ne nb =
        let u : Unique chip.region (good (pages_of chip) (view r) k) g = only_find chip.region (good (pages_of chip) (view r) k) g h.found in
        record {
          found = find_only chip.region (good (pages_of chip) (view s) k) g u.inside (frame_good k g u.inside ne ∙ u.passes)
              (λ d l off. at d l off (ℕ_discrete d b) u);
          content = table_agrees (pages_of chip) ok.some_page (view s) (view r) g (frame_view g u.inside ne) ∙ h.content;
        }
      where
        at : (d : ℕ) → d < chip.region → d ≢ g → Dec (d ≡ b) → Unique chip.region (good (pages_of chip) (view r) k) g → good (pages_of chip) (view s) k d ≡ false
        at d l off (yes e) u = rw e (nb (omega arith))
        at d l off (no n) u = frame_good k d l n ∙ u.no_other d l off

    pub clear_frame : {k : Kind} → Clear r k b → (d : ℕ) → d < chip.region → d ≢ b → good (pages_of chip) (view s) k d ≡ false
    clear_frame {k} h d l n = frame_good k d l n ∙ h.elsewhere d l n

    pub missing_kept : {k : Kind} → Clear r k b → (b < chip.region → good (pages_of chip) (view s) k b ≡ false) → Missing s k
    missing_kept {k} h nb = record { not_found = find_none chip.region (good (pages_of chip) (view s) k) (λ d l. at d l (ℕ_discrete d b)) }
      where
        at : (d : ℕ) → d < chip.region → Dec (d ≡ b) → good (pages_of chip) (view s) k d ≡ false
        at d l (yes e) = rw e (nb (omega arith))
        at d l (no n) = clear_frame h d l n

    pub sole_new : {k : Kind} {t : Table} → b < chip.region → Clear r k b → good (pages_of chip) (view s) k b ≡ true → table (pages_of chip) (view s) b ≡ t → Sole s k b t
    sole_new {k} hb h e w = record { found = find_only chip.region (good (pages_of chip) (view s) k) b hb e (clear_frame h); content = w }

    pub room_kept : {g : ℕ} (w : Room r g) → w.spot ≢ b → Room s g
    room_kept w n = record { spot = w.spot; spot_in = w.spot_in; spot_off = w.spot_off; spot_fit = frame_bad w.spot w.spot_in n ∙ w.spot_fit }

  pub missing_clear : {r : Region chip} {k : Kind} → Missing r k → (b : ℕ) → Clear r k b
  missing_clear {r} {k} h b = record { elsewhere = λ d l n. nowhere_find chip.region (good (pages_of chip) (view r) k) h.not_found d l }

  pub sole_clear : {r : Region chip} {k : Kind} {b : ℕ} {t : Table} → Sole r k b t → Clear r k b
  sole_clear {r} {k} {b} h = record { elsewhere = (only_find chip.region (good (pages_of chip) (view r) k) b h.found).no_other }

  pub sole_in : {r : Region chip} {k : Kind} {b : ℕ} {t : Table} → Sole r k b t → b < chip.region
  sole_in {r} {k} {b} h = (only_find chip.region (good (pages_of chip) (view r) k) b h.found).inside

  pub sole_good : {r : Region chip} {k : Kind} {b : ℕ} {t : Table} → Sole r k b t → good (pages_of chip) (view r) k b ≡ true
  sole_good {r} {k} {b} h = (only_find chip.region (good (pages_of chip) (view r) k) b h.found).passes

  pub sole_fit : {r : Region chip} {k : Kind} {b : ℕ} {t : Table} → Sole r k b t → reads_bad (view r) b ≡ false
  sole_fit {r} {k} {b} h = good_not_bad (pages_of chip) ok.some_page (view r) b k (sole_good h)

  pub sole_length : {r : Region chip} {k : Kind} {b : ℕ} {t : Table} → Sole r k b t → length t.bitmap ≡ bitmap_bytes chip
  sole_length {r} {k} {b} {t} h =
      subst (λ (t : Table). length t.bitmap ≡ bitmap_bytes chip) h.content (length_table r b k (sole_in h) (sole_good h))

  pub sole_apart : {r : Region chip} {k j : Kind} {b g : ℕ} {t u : Table} → Twin j k → Sole r k b t → Sole r j g u → g ≢ b
  sole_apart {r} {k} {j} {b} {g} o h i e =
      let x : good (pages_of chip) (view r) j b ≡ false = good_not_twin (pages_of chip) ok.some_page (view r) b k j o (sole_good h) in
      true≢false (sym (sole_good i) ∙ (ap (good (pages_of chip) (view r) j) e ∙ x))

  -- a block with all pages of a copy is a good one, and holds the table
  pub whole_copy : {r : Region chip} {k j : Kind} {b : ℕ} (t : Table) → Twin k j → length t.bitmap ≡ bitmap_bytes chip → Whole r k b t
      → (good (pages_of chip) (view r) k b ≡ true) × (table (pages_of chip) (view r) b ≡ t)
  whole_copy {r} {k} {j} {b} t o len h =
      let cover : length t.bitmap ≤ 2048 * pages_of chip = omega arith in
      let pages : (p : ℕ) → p < pages_of chip → view r b p ≡ reads k t.version (chunk p t.bitmap) = λ p l. stands_seen r b p k j t o len (h p l) in (
        written_good (pages_of chip) ok.some_page (view r) b k j o t cover pages,
        written_table (pages_of chip) ok.some_page (view r) b k j o t cover pages,
      )

  -- with nothing changed: the frame of a block outside the region
  module _ (r s : Region chip) (f : Frame r s chip.region) where
    pub sole_same : {k : Kind} {g : ℕ} {t : Table} → Sole r k g t → Sole s k g t
    sole_same h = sole_kept r s chip.region f h (λ e. omega (arith, sole_in h)) (λ l. absurd (omega arith))

    pub clear_same : {k : Kind} {b : ℕ} → Clear r k b → Clear s k b
    clear_same {k} h = record { elsewhere = λ d l n. frame_good r s chip.region f k d l (λ e. omega arith) ∙ h.elsewhere d l n }

    pub missing_same : {k : Kind} → Missing r k → Missing s k
    missing_same h = missing_kept r s chip.region f (missing_clear h chip.region) (λ l. absurd (omega arith))

    pub lacks_same : {k j : Kind} {g : ℕ} {c : Table} → Lacks r k j g c → Lacks s k j g c
    lacks_same h = record {
      twin = sole_same h.twin;
      lacking = missing_same h.lacking;
      room = room_kept r s chip.region f h.room (λ e. omega (arith, h.room.spot_in));
    }

    pub sound_same : {c : Table} → Sound r c → Sound s c
    sound_same (twins p m) = twins (sole_same p) (sole_same m)
    sound_same (ahead p m v) = ahead (sole_same p) (sole_same m) v
    sound_same (one_left o h) = one_left o (lacks_same h)

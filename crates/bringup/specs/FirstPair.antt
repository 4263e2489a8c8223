-- A chip's first pair of tables, which no plan makes. In a region with no good copy a block that is not readable as bad is erased, and the P pages
-- of a primary are written to it, in rising order, as `table_page` gives them. The mirror is then written by a recovery. Power may be cut and steps
-- may fail anywhere, by the same rules as in the histories.
use Rattle.std.specs.Prelude.{true, false, List, [], ◌∷◌, ◌≢◌, ◌≡◌, ℕ, ◌<◌, get_or, Ok}
use Rattle.bbt.specs.CarriedOut.{Carried}
use Rattle.bbt.specs.Copies.{Table, table, reads_bad}
use Rattle.bbt.specs.Histories.{OthersKept, Done, Cut, one_table, snapshot, answer, empty, World, world, History}
use Rattle.bbt.specs.Images.{Imaged, no_image, page_image}
use Rattle.bbt.specs.Pairs.{alone, pair_case}
use Rattle.bbt.specs.Plans.{Step, erase, write, zeros, Plan, fresh, single, copy_steps, steps_of, refuse, plan, for_recovery, reading, refused, other_kind}
use Rattle.bbt.specs.Possible.{Left, DoneAllows, CutAllows, AreLeft}
use Rattle.bbt.specs.PowerCuts.{NotGoodKept, ImageOf, Settled, Harmless, Promise, region_of}
use Rattle.bbt.specs.Regions.{Region, view, bytes_at, Complete}
use Rattle.bbt.specs.Starts.{AnyTable}
use Rattle.bbt.specs.declared.Kind.{Kind}
use Rattle.bbt.specs.declared.Kind.TheVariants.{Primary, Mirror, Neither}
use Rattle.chip.specs.Large.{chip_of, pages_of}
use Rattle.chip.specs.declared.LargeChip.{LargeChip}
use Rattle.chip.specs.declared.Refusal.TheVariants.{Range, NoCopy, NoTarget}
use Rattle.bringup.specs.TablePages.{table_page}

-- ---- the recipe
-- the steps of the first primary: its block erased, its P pages written
abbrev pub first_steps : LargeChip → ℕ → Table → List Step
first_steps chip b t = copy_steps (pages_of chip) b Primary t []

-- a copy's kind as it is asked for
abbrev pub kind_number : Kind → ℕ
kind_number Primary = 1
kind_number Mirror = 2
kind_number Neither = 0

-- the page image that is asked for a step
abbrev pub page_for : LargeChip → Step → Imaged
page_for chip (erase b) = no_image Range
page_for chip (write b p k t) = table_page chip.blocks chip.region t.bitmap (kind_number k) t.version p
page_for chip (zeros b) = no_image Range

module _ {chip : LargeChip} where
  -- no good copy: refusal 7, on reading and on planning
  pub record NoTables (r : Region chip) : Type 0 where
    pub no_reading : reading chip (view r) ≡ refused NoCopy
    pub no_recovery : answer for_recovery (snapshot r) ≡ refuse NoCopy

  -- a block for the primary: of the region, and not readable as bad
  pub record Fit (r : Region chip) (b : ℕ) : Type 0 where
    pub in_region : b < chip.region
    pub not_bad : reads_bad (view r) b ≡ false

  -- the recipe begins: a recovery is refused with 7, and a block and any table are chosen
  pub record Begins (r : Region chip) (b : ℕ) (t : Table) : Type 0 where
    pub seven : answer for_recovery (snapshot r) ≡ refuse NoCopy
    pub fit : Fit r b
    pub any_table : AnyTable chip t

  module _ (r : Region chip) (b : ℕ) (t : Table) where
    -- it goes on: the region, and the steps left
    pub data Writing : Region chip → List Step → Type 0 where
      begun : Writing r (first_steps chip b t)
      one_done : {s : Region chip} {e : Step} {es : List Step} (u : Region chip) → Writing s (e ∷ es) → OthersKept e s u → Done (page_for chip e) e u → Writing u es

    -- it stops: between steps, or after the last; or a step is cut or fails
    pub data Stops : Region chip → Type 0 where
      between : {s : Region chip} {es : List Step} → Writing s es → Stops s
      in_step : {s : Region chip} {e : Step} {es : List Step} (u : Region chip) → Writing s (e ∷ es) → OthersKept e s u → Cut (page_for chip e) e s u → Stops u

  -- ---- what is found
  -- every page of the primary is complete
  abbrev pub Stands : Region chip → ℕ → Table → Type 0
  Stands s b t = (p : ℕ) → p < pages_of chip → Complete s b p (page_image Primary t p)

  -- one good copy, of kind k in block b, and none of the other kind
  pub record OneCopy (s : Region chip) (k : Kind) (b : ℕ) (t : Table) : Type 0 where
    pub case : pair_case chip (view s) ≡ alone k b
    pub content : table (pages_of chip) (view s) b ≡ t

  -- no copy before the primary's last page is complete; the primary alone from there on
  pub data Found (s : Region chip) (b : ℕ) (t : Table) : Type 0 where
    none_yet : ¬ Stands s b t → NoTables s → Found s b t
    primary_alone : Stands s b t → OneCopy s Primary b t → Found s b t

  -- what a recovery then answers: the other kind is written to another block of the region, one not readable as bad; or 11, where every other is
  pub data Recovery (s : Region chip) (k : Kind) (b : ℕ) (t : Table) : Type 0 where
    written : (m : ℕ) → answer for_recovery (snapshot s) ≡ plan (fresh (single (other_kind k) m b t)) → m < chip.region → m ≢ b → reads_bad (view s) m ≡ false
        → Recovery s k b t
    no_target : answer for_recovery (snapshot s) ≡ refuse NoTarget → ((c : ℕ) → c < chip.region → c ≢ b → reads_bad (view s) c ≡ true) → Recovery s k b t

-- ---- the claims
-- of the recipe
pub record BringsUp {chip : LargeChip} (r : Region chip) (b : ℕ) (t : Table) : Type 0 where
  -- no step leaves the region or erases a block readable as bad, and every page that is asked for is given
  pub harmless : {s : Region chip} {e : Step} {es : List Step} → Writing r b t s (e ∷ es) → Harmless s e × ImageOf e (page_for chip e)
  -- carried out, the primary stands
  pub ends : {s : Region chip} → Writing r b t s [] → Stands s b t
  -- wherever it stops; the block is not readable as bad, so with no copy found the recipe may begin there again
  pub stops : {s : Region chip} → Stops r b t s → Found s b t × Fit s b
  -- zeros to the block, after a failed step: done, the block is readable as bad and no copy is found; cut or failed, none is found or the primary
  pub zeros_done : {s u : Region chip} → Stops r b t s → OthersKept (zeros b) s u → Done (page_for chip (zeros b)) (zeros b) u → NoTables u × (reads_bad (view u) b ≡ true)
  pub zeros_cut : {s u : Region chip} → Stops r b t s → OthersKept (zeros b) s u → Cut (page_for chip (zeros b)) (zeros b) s u → Found u b t
  -- nothing is left out: the next step can be done, cut and fail with every outcome that it allows
  pub can_be_done : {s : Region chip} {e : Step} {es : List Step} → Writing r b t s (e ∷ es) → (left : ℕ → Left) → ((p : ℕ) → DoneAllows e (left p))
      → (u : Region chip) × AreLeft (page_for chip e) left e s u × Writing r b t u es
  pub can_be_cut : {s : Region chip} {e : Step} {es : List Step} → Writing r b t s (e ∷ es) → (left : ℕ → Left) → ((p : ℕ) → CutAllows e p (left p))
      → (u : Region chip) × AreLeft (page_for chip e) left e s u × Stops r b t u

-- of a copy alone: what demand 3 promises of a settled pair
pub record FromOneCopy {chip : LargeChip} (s : Region chip) (k : Kind) (b : ℕ) (t : Table) : Type 0 where
  pub recovery : Recovery s k b t
  -- a recovery that is planned, carried out uncut, ends settled with this bitmap and version
  pub settles : {u : Region chip} (q z : Plan) → answer for_recovery (snapshot s) ≡ plan q
      → Carried for_recovery (snapshot s) q 0 (steps_of (pages_of chip) q) s u z → Settled u t
  -- after every list of events
  pub promise : {v : World chip} (q : Plan) → answer for_recovery (snapshot s) ≡ plan q → History (world s empty (one_table t)) v → Promise v
  pub not_good_kept : {v : World chip} (q : Plan) → answer for_recovery (snapshot s) ≡ plan q → History (world s empty (one_table t)) v
      → (t' : Table) → Settled (region_of v) t' → NotGoodKept chip t t'

pub record FirstTables (chip : LargeChip) : Type 0 where
  -- a block whose mark, OOB byte 0 of its first page, is not 0 is one for the primary
  pub unmarked_fits : (r : Region chip) (b : ℕ) → b < chip.region → get_or (bytes_at r b 0) 2048 0 ≢ 0 → Fit r b
  -- for every block of the region and every table there is a region to begin with
  pub begins_anywhere : (b : ℕ) (t : Table) → b < chip.region → AnyTable chip t → (r : Region chip) × Begins r b t
  pub brings_up : (r : Region chip) (b : ℕ) (t : Table) → Begins r b t → BringsUp r b t
  pub from_one_copy : (s : Region chip) (k : Kind) (b : ℕ) (t : Table) → OneCopy s k b t → FromOneCopy s k b t

abbrev pub FirstPair : Type 0
FirstPair = (n size : ℕ) (chip : LargeChip) → chip_of n size ≡ Ok chip → FirstTables chip

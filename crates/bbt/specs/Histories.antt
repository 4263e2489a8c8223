-- Document 01, "Histories": what a step leaves, done, cut or failed; the last update; the plan in hand; worlds, events, and lists of events.
-- Plans and page images are those that the library gives (`planned`, `imaged`), from the region as it was when the first plan was made, and the
-- numbers of the steps that have failed since.
use Rattle.std.specs.Prelude.{Bool, true, false, List, [], ◌∷◌, ◌++◌, ◌⊎◌, ◌≡◌, ℕ, suc, ◌<◌}
use Rattle.chip.specs.Large.{pages_of}
use Rattle.chip.specs.declared.LargeChip.{LargeChip}
use Rattle.chip.specs.declared.Refusal.{Refusal}
use Rattle.bbt.specs.declared.Kind.TheVariants.{Primary}
use Rattle.bbt.specs.Copies.{Table}
use Rattle.bbt.specs.Images.{Imaged, page-image, page_image}
use Rattle.bbt.specs.Lent.{planned, imaged}
use Rattle.bbt.specs.Plans.{Step, erase, write, zeros, Job, idle, single, double, Plan, steps_of, Answer, refuse, plan, reading, holds, updated, Call, for_update, for_recovery}
use Rattle.bbt.specs.Regions.{Region, view, Blank, Complete, Zeroed, Unreadable, Lost, Kept}

-- ---- steps
-- the pages that a step is about: all of its block, or one
abbrev pub Touches : Step → ℕ → ℕ → Type 0
Touches (erase b) c q = c ≡ b
Touches (write b p k t) c q = (c ≡ b) × (q ≡ p)
Touches (zeros b) c q = (c ≡ b) × (q ≡ 0)

module _ {chip : LargeChip} where
  -- a page written: the page image that was asked for, complete
  pub record Written (s : Region chip) (b p : ℕ) (asked : Imaged) : Type 0 where
    pub page : List ℕ
    pub given : asked ≡ page-image page
    pub complete : Complete s b p page

  -- the step, done, leaves all P pages blank, its page complete, or zeros in those 64 bytes
  abbrev pub Done : Imaged → Step → Region chip → Type 0
  Done asked (erase b) s = (p : ℕ) → p < pages_of chip → Blank s b p
  Done asked (write b p k t) s = Written s b p asked
  Done asked (zeros b) s = Zeroed s b 0

  -- cut or failed, an erase leaves each of the P pages as it was, blank or unreadable; a write its page blank, complete or unreadable; zeros
  -- leave the page as it was, with those bytes 0, or unreadable
  abbrev pub Cut : Imaged → Step → Region chip → Region chip → Type 0
  Cut asked (erase b) r s = (p : ℕ) → p < pages_of chip → Kept r s b p ⊎ (Blank s b p ⊎ Lost s b p)
  Cut asked (write b p k t) r s = Blank s b p ⊎ (Written s b p asked ⊎ Lost s b p)
  Cut asked (zeros b) r s = Kept r s b 0 ⊎ (Zeroed s b 0 ⊎ Unreadable s b 0)

  -- other pages keep status and bytes
  abbrev pub OthersKept : Step → Region chip → Region chip → Type 0
  OthersKept e r s = (b p : ℕ) → b < chip.region → p < pages_of chip → ¬ Touches e b p → Kept r s b p

-- ---- the last update not refused
pub data Last : Type 0 where
  -- none yet, or an empty plan: old and new are one table, and there is no new primary
  one_table : Table → Last
  -- its plan is in hand: old and new
  pending : Table → Table → Last
  -- its plan ended, was cut or replaced: old, new, and whether a new primary stood complete then
  closed : Table → Table → Bool → Last

-- as its plan is made; an update's plan is empty or of both copies
unfoldable pub as_planned : Table → Table → Job → Last
as_planned o n (idle v) = one_table o
as_planned o n (single k b g t) = pending o n
as_planned o n (double p m t) = pending o n

module _ {chip : LargeChip} where
  -- a new primary stands, in a block of the region, with all its pages complete, as asked
  pub record NewPrimary (r : Region chip) (n : Table) : Type 0 where
    pub block : ℕ
    pub in_region : block < chip.region
    pub whole : (p : ℕ) → p < pages_of chip → Complete r block p (page_image Primary n p)

  -- as its plan goes out of hand, at region r
  pub data Closes (r : Region chip) : Last → Last → Type 0 where
    as_one : {t : Table} → Closes r (one_table t) (one_table t)
    as_closed : {o n : Table} {w : Bool} → Closes r (closed o n w) (closed o n w)
    was_complete : {o n : Table} → NewPrimary r n → Closes r (pending o n) (closed o n true)
    was_not : {o n : Table} → ¬ NewPrimary r n → Closes r (pending o n) (closed o n false)

  -- after a step: the plan has ended where no step is left
  abbrev pub AfterStep : Region chip → List Step → Last → Last → Type 0
  AfterStep r [] l l' = Closes r l l'
  AfterStep r (e ∷ es) l l' = l' ≡ l

-- ---- the plan in hand
-- what planning and page images are lent: the region that the first plan was made from, and the failed steps' numbers, oldest first
pub record Snapshot (chip : LargeChip) : Type 0 where
  pub from : Region chip
  pub failed : List ℕ

-- nothing; or what was asked for, of which snapshot, the number of the next step, and the steps left
pub data Hand (chip : LargeChip) : Type 0 where
  empty : Hand chip
  holding : Call → Snapshot chip → ℕ → List Step → Hand chip

-- ---- worlds, events, histories
pub data World (chip : LargeChip) : Type 0 where
  world : Region chip → Hand chip → Last → World chip

module _ {chip : LargeChip} where
  abbrev pub snapshot : Region chip → Snapshot chip
  snapshot r = record { from = r; failed = [] }

  -- the same once step i has failed too
  abbrev pub with_failed : Snapshot chip → ℕ → Snapshot chip
  with_failed a i = record { from = a.from; failed = a.failed ++ (i ∷ []) }

  -- the library's plan, and its page image of step i
  abbrev pub answer : Call → Snapshot chip → Answer
  answer call a = planned chip.blocks chip.region call a.from.image a.from.status a.failed

  abbrev pub asked : Call → Snapshot chip → ℕ → Imaged
  asked call a i = imaged chip.blocks chip.region call a.from.image a.from.status a.failed i

  -- an event at region r, with a plan in hand, after the last update l
  pub data Event (r : Region chip) (l : Last) : Hand chip → World chip → Type 0 where
    -- a refusal changes nothing
    plan_refused : {h : Hand chip} (call : Call) (x : Refusal) → answer call (snapshot r) ≡ refuse x → Event r l h (world r h l)
    -- a plan replaces the one in hand
    update_planned : {h : Hand chip} (wanted : List ℕ) (p m : ℕ) (o : Table) (q : Plan)
        → answer (for_update wanted) (snapshot r) ≡ plan q → reading chip (view r) ≡ holds p m o
        → Event r l h (world r (holding (for_update wanted) (snapshot r) 0 (steps_of (pages_of chip) q)) (as_planned o (updated o wanted) q.job))
    recovery_planned : {h : Hand chip} (q : Plan) (l' : Last) → answer for_recovery (snapshot r) ≡ plan q → Closes r l l'
        → Event r l h (world r (holding for_recovery (snapshot r) 0 (steps_of (pages_of chip) q)) l')
    -- the next step runs to its end
    step_done : {c : Call} {a : Snapshot chip} {i : ℕ} {e : Step} {es : List Step} (s : Region chip) (l' : Last)
        → OthersKept e r s → Done (asked c a i) e s → AfterStep s es l l'
        → Event r l (holding c a i (e ∷ es)) (world s (holding c a (suc i) es) l')
    -- power is cut in the next step, or between steps: a cut ends the plan
    step_cut : {c : Call} {a : Snapshot chip} {i : ℕ} {e : Step} {es : List Step} (s : Region chip) (l' : Last)
        → OthersKept e r s → Cut (asked c a i) e r s → Closes s l l'
        → Event r l (holding c a i (e ∷ es)) (world s empty l')
    cut_between : {h : Hand chip} (l' : Last) → Closes r l l' → Event r l h (world r empty l')
    -- the next step fails: it is no cut, and the plan goes on as it is planned anew, from its step 0
    step_failed : {c : Call} {a : Snapshot chip} {i : ℕ} {e : Step} {es : List Step} (s : Region chip) (q : Plan)
        → OthersKept e r s → Cut (asked c a i) e r s → answer c (with_failed a i) ≡ plan q
        → Event r l (holding c a i (e ∷ es)) (world s (holding c (with_failed a i) 0 (steps_of (pages_of chip) q)) l)
    -- planning anew is refused: the plan is given up, as by a cut
    step_given_up : {c : Call} {a : Snapshot chip} {i : ℕ} {e : Step} {es : List Step} (s : Region chip) (l' : Last) (x : Refusal)
        → OthersKept e r s → Cut (asked c a i) e r s → answer c (with_failed a i) ≡ refuse x → Closes s l l'
        → Event r l (holding c a i (e ∷ es)) (world s empty l')
    -- a step with no step left, or with no plan, changes nothing
    no_step_left : {c : Call} {a : Snapshot chip} {i : ℕ} → Event r l (holding c a i []) (world r (holding c a i []) l)
    no_plan : Event r l empty (world r empty l)

  pub data History : World chip → World chip → Type 0 where
    start : {w : World chip} → History w w
    next : {w u : World chip} {r : Region chip} {h : Hand chip} {l : Last} → History w (world r h l) → Event r l h u → History w u

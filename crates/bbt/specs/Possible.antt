-- The histories of demand 3 leave nothing out: at every moment the next step can be done, and can be cut or fail with every outcome that document
-- 01 allows, with any bytes where it allows any; a failed step's plan is made anew or given up; every plan that the library gives can be taken in hand, and a refused one changes nothing; power
-- can always be cut; a step or cut with no step left changes no page; the last update can always be closed; and an accepted update was planned
-- from a settled pair.
use Rattle.std.specs.Prelude.{List, [], ◌∷◌, ◌⊎◌, ◌≡◌, ℕ, suc, ◌<◌, length, take, drop, get_or, Ok}
use Rattle.chip.specs.Large.{chip_of, pages_of}
use Rattle.chip.specs.declared.LargeChip.{LargeChip}
use Rattle.chip.specs.declared.Refusal.{Refusal}
use Rattle.bbt.specs.Copies.{Table}
use Rattle.bbt.specs.Histories.{Written, Last, Closes, Snapshot, Hand, snapshot, with_failed, answer, asked, holding, empty, World, world, Event, plan_refused, update_planned, recovery_planned, step_done, step_cut, cut_between, step_failed, step_given_up, no_step_left, no_plan, History}
use Rattle.bbt.specs.Images.{Imaged}
use Rattle.bbt.specs.Plans.{Step, erase, write, zeros, Plan, steps_of, refuse, plan, Call, for_update, for_recovery, reading, holds}
use Rattle.bbt.specs.PowerCuts.{Start, region_of}
use Rattle.bbt.specs.Regions.{Region, view, status_at, bytes_at, NotZeroed, Blank, Zeroed, Unreadable, Kept}

-- any n bytes
pub record Bytes (n : ℕ) (l : List ℕ) : Type 0 where
  pub as_many : length l ≡ n
  pub below_256 : (i : ℕ) → get_or l i 0 < 256

-- what a page is left as: as it was, blank, complete with these bytes in OOB 0-13, unreadable with these bytes, or with zeros in its OOB bytes,
-- this status byte and these data bytes
pub data Left : Type 0 where
  as_it_was : Left
  left_blank : Left
  left_complete : List ℕ → Left
  left_unreadable : List ℕ → Left
  left_zeroed : ℕ → List ℕ → Left

-- a page p that an erase or a page write leaves unreadable: any bytes, but not zeros in all OOB bytes of a first page
abbrev pub AnyLost : ℕ → List ℕ → Type 0
AnyLost p l = Bytes 2112 l × (p ≡ 0 → NotZeroed l)

-- a page with zeros: any status byte and any data bytes
abbrev pub AnyZeroed : ℕ → List ℕ → Type 0
AnyZeroed s d = (s < 2) × Bytes 2048 d

-- what a step that is cut or fails may leave its page p as
abbrev pub CutAllows : Step → ℕ → Left → Type 0
CutAllows (erase b) p as_it_was = Unit {0}
CutAllows (erase b) p left_blank = Unit {0}
CutAllows (erase b) p (left_complete x) = ⊥
CutAllows (erase b) p (left_unreadable l) = AnyLost p l
CutAllows (erase b) p (left_zeroed s d) = ⊥
CutAllows (write b q k t) p as_it_was = ⊥
CutAllows (write b q k t) p left_blank = Unit {0}
CutAllows (write b q k t) p (left_complete x) = Bytes 14 x
CutAllows (write b q k t) p (left_unreadable l) = AnyLost p l
CutAllows (write b q k t) p (left_zeroed s d) = ⊥
CutAllows (zeros b) p as_it_was = Unit {0}
CutAllows (zeros b) p left_blank = ⊥
CutAllows (zeros b) p (left_complete x) = ⊥
CutAllows (zeros b) p (left_unreadable l) = Bytes 2112 l
CutAllows (zeros b) p (left_zeroed s d) = AnyZeroed s d

-- what a step, done, leaves its pages as
abbrev pub DoneAllows : Step → Left → Type 0
DoneAllows (erase b) f = f ≡ left_blank
DoneAllows (write b p k t) f = (x : List ℕ) × Bytes 14 x × (f ≡ left_complete x)
DoneAllows (zeros b) f = (s : ℕ) × (d : List ℕ) × AnyZeroed s d × (f ≡ left_zeroed s d)

-- what an event is: a plan is asked for, the next step runs to its end or fails, or power is cut
pub data Sort : Type 0 where
  planning : Call → Sort
  stepping : Sort
  failing : Sort
  cutting : Sort

module _ {chip : LargeChip} where
  abbrev pub sort_of : {r : Region chip} {l : Last} {h : Hand chip} {w : World chip} → Event r l h w → Sort
  sort_of (plan_refused call x e) = planning call
  sort_of (update_planned wanted p m o q e s) = planning (for_update wanted)
  sort_of (recovery_planned q l' e cl) = planning for_recovery
  sort_of (step_done s l' k d en) = stepping
  sort_of (step_cut s l' k d cl) = cutting
  sort_of (cut_between l' cl) = cutting
  sort_of (step_failed s q k d a) = failing
  sort_of (step_given_up s l' x k d a cl) = failing
  sort_of no_step_left = stepping
  sort_of no_plan = stepping

  -- an event of that sort can lead there
  abbrev pub Can : Region chip → Last → Hand chip → Sort → World chip → Type 0
  Can r l h k w = (e : Event r l h w) × (sort_of e ≡ k)

  -- and nowhere else
  abbrev pub Must : Region chip → Last → Hand chip → Sort → World chip → Type 0
  Must r l h k w = Can r l h k w × ((v : World chip) → Can r l h k v → v ≡ w)

  -- page p of block b is left so, from region r to region s; a page written is that of the image asked for
  abbrev pub IsLeft : Imaged → Left → Region chip → Region chip → ℕ → ℕ → Type 0
  IsLeft x as_it_was r s b p = Kept r s b p
  IsLeft x left_blank r s b p = Blank s b p
  IsLeft x (left_complete oob) r s b p = Written s b p x × (take 14 (drop 2048 (bytes_at s b p)) ≡ oob)
  IsLeft x (left_unreadable l) r s b p = Unreadable s b p × (bytes_at s b p ≡ l)
  IsLeft x (left_zeroed st d) r s b p = Zeroed s b p × (status_at s b p ≡ st) × (take 2048 (bytes_at s b p) ≡ d)

  -- the pages of a step are left so
  abbrev pub AreLeft : Imaged → (ℕ → Left) → Step → Region chip → Region chip → Type 0
  AreLeft x left (erase b) r s = (p : ℕ) → p < pages_of chip → IsLeft x (left p) r s b p
  AreLeft x left (write b p k t) r s = IsLeft x (left p) r s b p
  AreLeft x left (zeros b) r s = IsLeft x (left 0) r s b 0

  -- a failed step leads to the plan made anew, in hand at its step 0, or to no plan where planning anew is refused
  abbrev pub CanFail : Region chip → Last → Call → Snapshot chip → ℕ → Step → List Step → Region chip → Type 0
  CanFail r l c a i e es s =
      ((q : Plan) × (answer c (with_failed a i) ≡ plan q)
      × Can r l (holding c a i (e ∷ es)) failing (world s (holding c (with_failed a i) 0 (steps_of (pages_of chip) q)) l))
      ⊎ ((x : Refusal) × (l' : Last) × (answer c (with_failed a i) ≡ refuse x) × Can r l (holding c a i (e ∷ es)) failing (world s empty l'))

  -- the next step e, number i of the plan in hand
  pub record CanHappen (r : Region chip) (l : Last) (c : Call) (a : Snapshot chip) (i : ℕ) (e : Step) (es : List Step) : Type 0 where
    pub done : (left : ℕ → Left) → ((p : ℕ) → DoneAllows e (left p))
        → (s : Region chip) × (l' : Last) × AreLeft (asked c a i) left e r s × Can r l (holding c a i (e ∷ es)) stepping (world s (holding c a (suc i) es) l')
    pub cut : (left : ℕ → Left) → ((p : ℕ) → CutAllows e p (left p))
        → (s : Region chip) × (l' : Last) × AreLeft (asked c a i) left e r s × Can r l (holding c a i (e ∷ es)) cutting (world s empty l')
    pub fail : (left : ℕ → Left) → ((p : ℕ) → CutAllows e p (left p))
        → (s : Region chip) × AreLeft (asked c a i) left e r s × CanFail r l c a i e es s

  -- no step is left in hand, or there is no plan
  abbrev pub NoStep : Hand chip → Type 0
  NoStep empty = Unit {0}
  NoStep (holding c a i []) = Unit {0}
  NoStep (holding c a i (e ∷ es)) = ⊥

pub record Possible (chip : LargeChip) : Type 0 where
  -- the next step, done, cut and failed
  pub steps : {w : World chip} {r : Region chip} {l : Last} {c : Call} {a : Snapshot chip} {i : ℕ} {e : Step} {es : List Step} → Start w
      → History w (world r (holding c a i (e ∷ es)) l) → CanHappen r l c a i e es
  -- a plan replaces the one in hand
  pub plans : (r : Region chip) (h : Hand chip) (l : Last) (call : Call) (q : Plan) → answer call (snapshot r) ≡ plan q
      → (l' : Last) × Can r l h (planning call) (world r (holding call (snapshot r) 0 (steps_of (pages_of chip) q)) l')
  -- a refusal changes nothing
  pub refusals : (r : Region chip) (h : Hand chip) (l : Last) (call : Call) (x : Refusal) → answer call (snapshot r) ≡ refuse x
      → Must r l h (planning call) (world r h l)
  -- a cut between steps, or with no step left, changes no page and ends the plan: the last update closes
  pub cuts : (r : Region chip) (h : Hand chip) (l l' : Last) → Closes r l l' → Can r l h cutting (world r empty l')
  -- a step with no step left changes nothing
  pub no_step : (r : Region chip) (h : Hand chip) (l : Last) → NoStep h → Must r l h stepping (world r h l)
  -- and whatever happens with no step left, changes no page
  pub no_page : (r : Region chip) (h : Hand chip) (l : Last) (w : World chip) → NoStep h → Event r l h w → region_of w ≡ r
  -- the last update can be closed
  pub closes : (r : Region chip) (l : Last) → (l' : Last) × Closes r l l'
  -- an accepted update was planned from a settled pair
  pub from_settled : (r : Region chip) (wanted : List ℕ) (q : Plan) → answer (for_update wanted) (snapshot r) ≡ plan q
      → (p : ℕ) × (m : ℕ) × (o : Table) × (reading chip (view r) ≡ holds p m o)

abbrev pub NothingLeftOut : Type 0
NothingLeftOut = (n size : ℕ) (chip : LargeChip) → chip_of n size ≡ Ok chip → Possible chip

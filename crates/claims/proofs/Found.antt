-- What a driver finds in its buffers is what the histories of demand 3 speak of: the parts of an answer, the four bytes of each step, the
-- page of a step, the table.
-- Assumes nothing.
use Rattle.std.specs.Prelude.{Some}
use mathlib.Core.Bool.{Bool, true, false, cond}
use mathlib.Core.List.{List, [], ◌∷◌, ◌++◌, append_assoc}
use mathlib.Core.Logic.{◌≢◌}
use mathlib.Core.Option.{Option, none, some}
use mathlib.Core.Path.{◌≡◌, refl, sym, ap, ◌∙◌, subst}
use Prim.Native.Nat.{ℕ, zero, suc, ◌+◌, ◌*◌, ◌%◌, ◌<◌, ◌≤◌}
use native.Mathlib.Omega.{arith}
use borrow.Author.Tests.{eq-eqb}
use lib.Dec.{eqb}
use lib.IntN.{pos, negsuc}
use lib.ListN.{length, drop, get_or, length-append, length-map, get_or-append}
use lib.Seq.{get_or-append-add}
use Rattle.bbt.proofs.LeftPages.{Judged, version_byte}
use Rattle.bbt.proofs.Planning.{sole_version, reading_settled, in_force, plan_is}
use Rattle.bbt.proofs.ToldSteps.{tells_steps}
use Rattle.bbt.specs.Copies.{Table, table}
use Rattle.bbt.specs.Entries.{updated_bytes}
use Rattle.bbt.specs.Failures.{other_block, moved, moved_to, block_fails, step_fails, failure, failures}
use Rattle.bbt.specs.Histories.{Snapshot, answer, asked}
use Rattle.bbt.specs.Lent.{call_lent}
use Rattle.bbt.specs.Pages.{View}
use Rattle.bbt.specs.Pairs.{same, Case, no_pair, alone, settled, merging, differing, pair_case}
use Rattle.bbt.specs.Plans.{Step, erase, write, zeros, Job, idle, single, double, Plan, fresh, steps_of, step_at, job_version, plan_version, next_version, Answer, refuse, plan, Reading, refused, holds, reading, read_case, updated, update_from, update, target, other_kind, recover_to, anded, recover_newer, recover_case, recovery, Call, for_update, for_recovery, plan_by_rules}
use Rattle.bbt.specs.Regions.{Region, view}
use Rattle.bbt.specs.Told.{chip_block, told_plan, told_answer, told_step, told_steps, nth_step}
use Rattle.bbt.specs.declared.Kind.TheVariants.{Mirror}
use Rattle.bbt.specs.declared.Step.{Step as ToldStep}
use Rattle.bbt.specs.declared.Step.TheVariants.{Erase, Write, Zero}
use Rattle.chip.proofs.Telling.{told_apart}
use Rattle.chip.specs.Large.{bitmap_bytes, pages_of}
use Rattle.chip.specs.declared.LargeChip.{LargeChip}
use Rattle.chip.specs.declared.Refusal.{Refusal}
use Rattle.chip.specs.declared.Refusal.TheVariants.{Length}
use Rattle.images.specs.Made.{image_answer_by, image_after_by}
use Rattle.packing.specs.Packing.{refusal_code, step_bytes, plan_bytes, steps_put}
use Rattle.plan.proofs.Bridge.{bridged}
use Rattle.reamsickle.proofs.Room.{plan_room}
use Rattle.reamsickle.specs.Boundary.{code_by}
use Rattle.reamsickle.specs.LargeBoundary.{table_code_by, table_code, plan_code_by, steps_put_by, plan_code, steps_after, image_code, room_of}
use Rattle.table.proofs.Bridge.{read_bridged}
use Rattle.table.specs.Tables.{told_reading, room_by}
use Rattle.claims.specs.Driver.{refusal_in, version_in, steps_in, DriverStep, erases, writes, zeroes, step_byte, step_block, driver_step, plan_told, steps_told, image_told, page_told, read_told, bitmap_told, table_told}

-- ---- a refusal's number is not 0
pub refusal_told : (x : Refusal) → refusal_in (refusal_code x) ≢ 0
refusal_told x e = omega (arith, told_apart.above x, told_apart.byte x)

-- ---- the four bytes of a step
-- there is a step at each place of a list
pub at_place : (ss : List ToldStep) (i : ℕ) → i < length ss → (s : ToldStep) × (nth_step ss i ≡ Some s)
unfolding nth_step
at_place [] i h = absurd (omega arith)
at_place (s ∷ ss) zero h = (s, refl)
at_place (s ∷ ss) (suc i) h = at_place ss i (omega arith)

four_long : (s : ToldStep) → length (step_bytes s) ≡ 4
four_long (Erase b) = refl
four_long (Write b p k) = refl
four_long (Zero b) = refl

pub step-byte : (ss : List ToldStep) (rest : List ℕ) (i k : ℕ) (e : ToldStep) → nth_step ss i ≡ Some e → k < 4
    → step_byte (plan_bytes ss ++ rest) i k ≡ get_or (step_bytes e) k 0
unfolding plan_bytes nth_step
step-byte [] rest i k e h hk = absurd (cc)
step-byte (s ∷ ss) rest zero k e h hk =
    ap (λ (n : ℕ). get_or ((step_bytes s ++ plan_bytes ss) ++ rest) n 0) (omega arith)
    ∙ get_or-append (step_bytes s ++ plan_bytes ss) rest 0 k (omega (arith, length-append (step_bytes s) (plan_bytes ss), four_long s))
    ∙ get_or-append (step_bytes s) (plan_bytes ss) 0 k (omega (arith, four_long s))
    ∙ ap (λ (x : ToldStep). get_or (step_bytes x) k 0) (let same : s ≡ e = cc in same)
step-byte (s ∷ ss) rest (suc i) k e h hk =
    ap (λ (l : List ℕ). get_or l (4 * suc i + k) 0) (append_assoc (step_bytes s) (plan_bytes ss) rest)
    ∙ ap (λ (n : ℕ). get_or (step_bytes s ++ (plan_bytes ss ++ rest)) n 0) (omega (arith, four_long s))
    ∙ get_or-append-add (step_bytes s) (plan_bytes ss ++ rest) (4 * i + k) 0
    ∙ step-byte ss rest i k e h hk

-- the block of a step
abbrev pub block_of : Step → ℕ
block_of (erase b) = b
block_of (write b p k t) = b
block_of (zeros b) = b

-- a step as a driver sees it
abbrev pub seen_step : LargeChip → Step → DriverStep
seen_step chip (erase b) = erases (chip_block chip b).0
seen_step chip (write b p k t) = writes (chip_block chip b).0 p
seen_step chip (zeros b) = zeroes (chip_block chip b).0

module _ (ss : List ToldStep) (room : List ℕ) (i : ℕ) (chip : LargeChip) where
  byte_told : (e : Step) (k : ℕ) → nth_step ss i ≡ Some (told_step chip e) → k < 4 → step_byte (steps_put ss room) i k ≡ get_or (step_bytes (told_step chip e)) k 0
  unfolding steps_put
  byte_told e k at hk = step-byte ss (drop (4 * length ss) room) i k (told_step chip e) at hk

  pub step_block_lem : (e : Step) → nth_step ss i ≡ Some (told_step chip e) → (chip_block chip (block_of e)).0 < 65536
      → step_block (steps_put ss room) i ≡ (chip_block chip (block_of e)).0
  step_block_lem (erase b) at small =
      let one = byte_told (erase b) 1 at (omega arith) in
      let two = byte_told (erase b) 2 at (omega arith) in
      omega arith
  step_block_lem (write b p k t) at small =
      let one = byte_told (write b p k t) 1 at (omega arith) in
      let two = byte_told (write b p k t) 2 at (omega arith) in
      omega arith
  step_block_lem (zeros b) at small =
      let one = byte_told (zeros b) 1 at (omega arith) in
      let two = byte_told (zeros b) 2 at (omega arith) in
      omega arith

  pub step_seen : (e : Step) → nth_step ss i ≡ Some (told_step chip e) → (chip_block chip (block_of e)).0 < 65536 → driver_step (steps_put ss room) i ≡ seen_step chip e
  unfolding driver_step
  step_seen (erase b) at small = rw (byte_told (erase b) 0 at (omega arith)) (ap erases (step_block_lem (erase b) at small))
  step_seen (write b p k t) at small =
      rw (byte_told (write b p k t) 0 at (omega arith), byte_told (write b p k t) 3 at (omega arith))
      (ap (λ (c : ℕ). writes c p) (step_block_lem (write b p k t) at small))
  step_seen (zeros b) at small = rw (byte_told (zeros b) 0 at (omega arith)) (ap zeroes (step_block_lem (zeros b) at small))

pub as_many : (chip : LargeChip) (q : Plan) → length (told_steps (told_plan chip q)) ≡ length (steps_of (pages_of chip) q)
as_many chip q = ap length (tells_steps chip q) ∙ length-map (steps_of (pages_of chip) q) (told_step chip)

-- ---- versions are bytes
updated_version : (o : Table) (w : List ℕ) → o.version < 256 → (updated o w).version < 256
unfolding updated next_version
updated_version o w h = go (same (updated_bytes o.bitmap w) o.bitmap)
  where
    go : (t : Bool) → (cond t o (record { version = (o.version + 1) % 256; bitmap = updated_bytes o.bitmap w })).version < 256
    go true = h
    go false = omega arith

abbrev VersionBelow : Answer → Type 0
VersionBelow (refuse x) = Unit {0}
VersionBelow (plan q) = plan_version q < 256

module _ {chip : LargeChip} (r : Region chip) where
  held : (b : ℕ) → (table (pages_of chip) (view r) b).version < 256
  unfolding table
  held b = version_byte r b 0

  update_version : (w : List ℕ) (c : Case) → VersionBelow (update_from w (read_case (pages_of chip) (view r) c))
  unfolding update_from read_case job_version
  update_version w (no_pair x) = tt
  update_version w (alone k g) = tt
  update_version w (settled p m) = go (same (updated_bytes o.bitmap w) o.bitmap)
    where
      o : Table
      o = table (pages_of chip) (view r) p

      go : (t : Bool) → VersionBelow (plan (fresh (cond t (idle o.version) (double p m (updated o w)))))
      go true = held p
      go false = updated_version o w (held p)
  update_version w (merging p m) = tt
  update_version w (differing d p m) = tt

  recovery_version : (c : Case) → VersionBelow (recover_case chip (view r) c)
  unfolding recover_case recover_to recover_newer anded next_version job_version
  recovery_version (no_pair x) = tt
  recovery_version (alone k g) = go (target chip (view r) (g ∷ []))
    where
      go : (o : Option ℕ) → VersionBelow (recover_to (other_kind k) g (table (pages_of chip) (view r) g) o)
      go none = tt
      go (some b) = held g
  recovery_version (settled p m) = held p
  recovery_version (merging p m) = omega arith
  recovery_version (differing (pos n) p m) = held p
  recovery_version (differing (negsuc n) p m) = held m

  rules_version : (call : Call) → VersionBelow (plan_by_rules chip (view r) call)
  unfolding plan_by_rules update reading recovery
  rules_version (for_update w) = update_version w (pair_case chip (view r))
  rules_version for_recovery = recovery_version (pair_case chip (view r))

-- failed steps keep the version
moved_version : (j : Job) (b x : ℕ) → job_version (moved j b x) ≡ job_version j
unfolding moved job_version
moved_version (idle v) b x = refl
moved_version (single k c g t) b x = refl
moved_version (double p m t) b x = go (eqb b p)
  where
    go : (t' : Bool) → job_version (cond t' (double x m t) (single Mirror x p t)) ≡ t.version
    go true = refl
    go false = refl

module _ (chip : LargeChip) (R : View) where
  block_version : (q : Plan) (b : ℕ) → plan_version q < 256 → VersionBelow (block_fails chip R q b)
  unfolding block_fails moved_to
  block_version q b h = go (target chip R (other_block q.job b ∷ b ∷ q.failed))
    where
      go : (o : Option ℕ) → VersionBelow (moved_to q b o)
      go none = tt
      go (some x) = rw (moved_version q.job b x) h

  step_version : (q : Plan) (e : Option Step) → plan_version q < 256 → VersionBelow (step_fails chip R q e)
  unfolding step_fails
  step_version q none h = tt
  step_version q (some (erase b)) h = block_version q b h
  step_version q (some (write b p k t)) h = block_version q b h
  step_version q (some (zeros b)) h = tt

  failures_version : (a : Answer) (is : List ℕ) → VersionBelow a → VersionBelow (failures chip R a is)
  unfolding failures failure
  failures_version a [] h = h
  failures_version (refuse x) (i ∷ is) h = failures_version (refuse x) is tt
  failures_version (plan q) (i ∷ is) h =
      failures_version (step_fails chip R q (step_at (steps_of (pages_of chip) q) i)) is (step_version q (step_at (steps_of (pages_of chip) q) i) h)

-- ---- the answers on a region, with the numbers of failed steps
module _ {chip : LargeChip} (ok : Judged chip) (a : Snapshot chip) where
  plan-version : (call : Call) (q : Plan) → answer call a ≡ plan q → plan_version q < 256
  plan-version call q e = subst (λ (x : Answer). VersionBelow x) e (rw (plan_is ok a call) (go (call_lent chip call)))
    where
      go : (t : Bool) → VersionBelow (cond t (in_force call a) (refuse Length))
      go true = failures_version chip (view a.from) (plan_by_rules chip (view a.from) call) a.failed (rules_version a.from call)
      go false = tt

  module _ (call : Call) (room : List ℕ) (long : length room ≡ 64) where
    pub plan-told : plan_told call a room ≡ plan_code_by (told_answer chip (answer call a))
    unfolding plan_code
    plan-told = rw (eq-eqb (length room) 64 long) (ap plan_code_by (bridged chip.blocks chip.region chip call a.from.image a.from.status a.failed ok.is-chip).plans)

    pub steps-told : steps_told call a room ≡ steps_put_by (told_answer chip (answer call a)) room
    unfolding steps_after
    steps-told = rw (eq-eqb (length room) 64 long) (ap (λ x. steps_put_by x room) (bridged chip.blocks chip.region chip call a.from.image a.from.status a.failed ok.is-chip).plans)

    pub refused_told : (x : Refusal) → answer call a ≡ refuse x → refusal_in (plan_told call a room) ≢ 0
    refused_told x e z =
        let c : plan_told call a room ≡ refusal_code x = plan-told ∙ ap (λ (x : Answer). plan_code_by (told_answer chip x)) e in
        refusal_told x (ap refusal_in (sym c) ∙ z)

    module _ (q : Plan) (e : answer call a ≡ plan q) where
      code_told : plan_told call a room ≡ 256 * plan_version q + 65536 * length (steps_of (pages_of chip) q)
      code_told =
          plan-told ∙ ap (λ (x : Answer). plan_code_by (told_answer chip x)) e ∙ ap (λ (n : ℕ). 256 * plan_version q + 65536 * n) (as_many chip q)

      few_steps : 4 * length (steps_of (pages_of chip) q) ≤ 64
      few_steps =
          let told = (bridged chip.blocks chip.region chip call a.from.image a.from.status a.failed ok.is-chip).plans ∙ ap (told_answer chip) e in
          let room = subst (λ x. room_of x ≤ 64) told (plan_room chip.blocks chip.region call a.from.image a.from.status a.failed) in
          omega (arith, as_many chip q)

      -- answered, with the version and the number of steps
      pub plan_answered : refusal_in (plan_told call a room) ≡ 0
      plan_answered = ap refusal_in code_told ∙ omega arith

      pub version_told : version_in (plan_told call a room) ≡ plan_version q
      version_told = ap version_in code_told ∙ omega (arith, plan-version call q e)

      pub count_told : steps_in (plan_told call a room) ≡ length (steps_of (pages_of chip) q)
      count_told = ap steps_in code_told ∙ omega (arith, plan-version call q e, few_steps)

      pub filled : steps_told call a room ≡ steps_put (told_steps (told_plan chip q)) room
      filled = steps-told ∙ ap (λ (x : Answer). steps_put_by (told_answer chip x) room) e

  -- the page of a step
  pub page_answered : (call : Call) (i : ℕ) (page : List ℕ) → length page ≡ 2112 → image_told call a i page ≡ code_by (image_answer_by (asked call a i))
  unfolding image_code
  page_answered call i page h = ap code_by ((bridged chip.blocks chip.region chip call a.from.image a.from.status a.failed ok.is-chip).answers i page h)

  pub page_filled : (call : Call) (i : ℕ) (page : List ℕ) → length page ≡ 2112 → page_told call a i page ≡ image_after_by (asked call a i) page
  page_filled call i page h = (bridged chip.blocks chip.region chip call a.from.image a.from.status a.failed ok.is-chip).pages i page h

-- ---- the table of a region
module _ {chip : LargeChip} (ok : Judged chip) (r : Region chip) where
  module _ (room : List ℕ) (long : length room ≡ bitmap_bytes chip) where
    pub read_told_lem : read_told r room ≡ table_code_by (told_reading chip (reading chip (view r)))
    unfolding table_code
    read_told_lem = ap table_code_by ((read_bridged chip.blocks chip.region chip r ok.is-chip).answers room long)

    pub bitmap-told : bitmap_told r room ≡ room_by (reading chip (view r)) room
    bitmap-told = (read_bridged chip.blocks chip.region chip r ok.is-chip).bitmaps room long

    module _ (p m : ℕ) (t : Table) (e : reading chip (view r) ≡ holds p m t) where
      pub code_read : read_told r room ≡ 256 * t.version + 65536 * ((chip_block chip p).0 % 65536) + 4294967296 * ((chip_block chip m).0 % 65536)
      code_read = read_told_lem ∙ ap (λ (x : Reading). table_code_by (told_reading chip x)) e

      pub read_answered : refusal_in (read_told r room) ≡ 0
      read_answered = ap refusal_in code_read ∙ omega arith

      pub table-told : table_told r room ≡ t
      table-told =
          let byte : t.version < 256 = sole_version (reading_settled r p m t e).0 in
          let version : version_in (read_told r room) ≡ t.version = ap version_in code_read ∙ omega arith in
          let bitmap : bitmap_told r room ≡ t.bitmap = bitmap-told ∙ ap (λ (x : Reading). room_by x room) e in
          rw (version, bitmap) refl

    -- what is answered is a settled pair
    pub read_settled : refusal_in (read_told r room) ≡ 0 → (p : ℕ) × (m : ℕ) × (reading chip (view r) ≡ holds p m (table_told r room))
    read_settled z = go (reading chip (view r)) refl
      where
        go : (x : Reading) → reading chip (view r) ≡ x → (p : ℕ) × (m : ℕ) × (reading chip (view r) ≡ holds p m (table_told r room))
        go (refused x) e = absurd (refusal_told x (ap refusal_in (sym (read_told_lem ∙ ap (λ (y : Reading). table_code_by (told_reading chip y)) e)) ∙ z))
        go (holds p m t) e = (p, m, rw (table-told p m t e) e)

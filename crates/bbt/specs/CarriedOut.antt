-- Document 01: a planned update or recovery, carried out uncut from any region image, ends settled, also where steps fail and the plan is made
-- anew; what is written reads back.
use Rattle.std.specs.Prelude.{List, [], ◌∷◌, ◌≡◌, ℕ, suc, ◌+◌, ◌*◌, length, Ok}
use Rattle.chip.specs.Large.{chip_of, pages_of}
use Rattle.chip.specs.declared.LargeChip.{LargeChip}
use Rattle.bbt.specs.declared.Kind.TheVariants.{Primary, Mirror, Neither}
use Rattle.bbt.specs.Copies.{Table}
use Rattle.bbt.specs.Histories.{OthersKept, Done, Cut, Snapshot, snapshot, with_failed, answer, asked}
use Rattle.bbt.specs.Plans.{Step, Job, idle, single, double, Plan, steps_of, plan, reading, holds, updated, Call, for_update}
use Rattle.bbt.specs.Regions.{Region, view}

-- 0, P + 1 or 2P + 2 steps, and one more where a block has failed
abbrev pub job_count : ℕ → Job → ℕ
job_count P (idle v) = 0
job_count P (single k b g t) = P + 1
job_count P (double p m t) = 2 * P + 2

abbrev pub one_more : List ℕ → ℕ → ℕ
one_more [] n = n
one_more (b ∷ bs) n = n + 1

abbrev pub step_count : ℕ → Plan → ℕ
step_count P q = one_more q.failed (job_count P q.job)

module _ {chip : LargeChip} where
  -- from region r to region u, by plan q: its steps from number i on, each done to its end, or failed and the plan made anew; z is the last plan
  pub data Carried (call : Call) : Snapshot chip → Plan → ℕ → List Step → Region chip → Region chip → Plan → Type 0 where
    all_done : {a : Snapshot chip} {q : Plan} {i : ℕ} {r : Region chip} → Carried call a q i [] r r q
    one_done : {a : Snapshot chip} {q z : Plan} {i : ℕ} {e : Step} {es : List Step} {r u : Region chip} (s : Region chip) → OthersKept e r s
        → Done (asked call a i) e s → Carried call a q (suc i) es s u z → Carried call a q i (e ∷ es) r u z
    one_failed : {a : Snapshot chip} {q z : Plan} {i : ℕ} {e : Step} {es : List Step} {r u : Region chip} (s : Region chip) (q' : Plan)
        → OthersKept e r s → Cut (asked call a i) e r s → answer call (with_failed a i) ≡ plan q'
        → Carried call (with_failed a i) q' 0 (steps_of (pages_of chip) q') s u z → Carried call a q i (e ∷ es) r u z

  -- what reading then gives: the plan's version, table and blocks. No plan writes a copy of neither kind
  abbrev pub ReadsAs : Job → Region chip → Type 0
  ReadsAs (idle v) u = (p : ℕ) × (m : ℕ) × (t : Table) × (reading chip (view u) ≡ holds p m t) × (t.version ≡ v)
  ReadsAs (single Primary b g t) u = reading chip (view u) ≡ holds b g t
  ReadsAs (single Mirror b g t) u = reading chip (view u) ≡ holds g b t
  ReadsAs (single Neither b g t) u = ⊥
  ReadsAs (double p m t) u = reading chip (view u) ≡ holds p m t

pub record Ends (chip : LargeChip) : Type 0 where
  pub after : (q : Plan) → length (steps_of (pages_of chip) q) ≡ step_count (pages_of chip) q
  pub settled : (call : Call) (q z : Plan) (r u : Region chip) → answer call (snapshot r) ≡ plan q
      → Carried call (snapshot r) q 0 (steps_of (pages_of chip) q) r u z → ReadsAs z.job u
  -- an update's table is the one that the update rule makes of the old; where no step has failed, it is in the old one's blocks
  pub updates : (wanted : List ℕ) (q z : Plan) (r u : Region chip) (p m : ℕ) (o : Table) → reading chip (view r) ≡ holds p m o
      → answer (for_update wanted) (snapshot r) ≡ plan q → Carried (for_update wanted) (snapshot r) q 0 (steps_of (pages_of chip) q) r u z
      → (p' : ℕ) × (m' : ℕ) × (reading chip (view u) ≡ holds p' m' (updated o wanted)) × (z.failed ≡ [] → (p' ≡ p) × (m' ≡ m))

abbrev pub EndsSettled : Type 0
EndsSettled = (n size : ℕ) (chip : LargeChip) → chip_of n size ≡ Ok chip → Ends chip

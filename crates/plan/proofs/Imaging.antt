-- The image of a told step: what is told of a plan, with the bitmap that it writes, gives the image of each of its steps.
-- Assumes nothing.
use Rattle.std.specs.Prelude.{Option, Result, Ok, Err, Some, None}
use mathlib.Core.Bool.{Bool, true, false, cond}
use mathlib.Core.List.{List, [], ◌∷◌, map}
use mathlib.Core.Path.{◌≡◌, refl, ◌∙◌, ap, ap₂, sym, subst}
use Prim.Native.Nat.{ℕ, zero, suc}
use Rattle.bbt.proofs.ToldSteps.{tells_steps}
use Rattle.bbt.specs.Copies.{Table}
use Rattle.bbt.specs.Entries.{updated_bytes}
use Rattle.bbt.specs.Failures.{failures}
use Rattle.bbt.specs.Images.{chunk, part_image, page-image, page_image, no_image, image_at, plan_image}
use Rattle.bbt.specs.Pages.{View}
use Rattle.bbt.specs.Pairs.{same}
use Rattle.bbt.specs.Plans.{Step, erase, write, writes, copy_steps, Job, idle, single, double, job_steps, job_version, Plan, zero_first, plan_version, next_version, Answer, refuse, plan, update_from, updated, anded, holds}
use Rattle.bbt.specs.Told.{told_step, told_plan, told_answer, told_steps, nth_step}
use Rattle.bbt.specs.declared.Kind.{Kind}
use Rattle.bbt.specs.declared.Kind.TheVariants.{Primary, Mirror}
use Rattle.bbt.specs.declared.Plan.{Plan as ToldPlan}
use Rattle.bbt.specs.declared.Step.{Step as ToldStep}
use Rattle.bbt.specs.declared.Step.TheVariants.{Erase, Write, Zero}
use Rattle.chip.specs.Large.{pages_of}
use Rattle.chip.specs.declared.ChipBlock.{ChipBlock}
use Rattle.chip.specs.declared.LargeChip.{LargeChip}
use Rattle.chip.specs.declared.Refusal.{Refusal}
use Rattle.chip.specs.declared.Refusal.TheVariants.{Range}
use Rattle.plan.proofs.Keeping.{Planning, Writes, table_kept}
use Rattle.plan.specs.PageImages.{step_image, told_image}
use Rattle.plan.specs.Works.{work_answer, work_bitmap}
use Rattle.plan.specs.declared.Work.{Work}
use Rattle.plan.specs.declared.Work.TheVariants.{Keep, Update, Copy, Merge}
use Rattle.region.specs.Stored.{stored_table}

-- ---- steps, each with the image that its told step gives
abbrev Tells : LargeChip → ℕ → List ℕ → List Step → Type 0
Tells chip v bitmap es = (i : ℕ) → image_at es i ≡ step_image v bitmap (nth_step (map (told_step chip) es) i)

module _ (chip : LargeChip) (v : ℕ) (bitmap : List ℕ) where
  tells_none : Tells chip v bitmap []
  unfolding image_at nth_step
  tells_none i = refl

  tells_erase : (b : ℕ) (es : List Step) → Tells chip v bitmap es → Tells chip v bitmap (erase b ∷ es)
  unfolding image_at nth_step
  tells_erase b es h zero = refl
  tells_erase b es h (suc i) = h i

  -- zeros first, where a block has failed
  tells_zeros : (bs : List ℕ) (es : List Step) → Tells chip v bitmap es → Tells chip v bitmap (zero_first bs es)
  unfolding image_at nth_step
  tells_zeros [] es h i = h i
  tells_zeros (b ∷ bs) es h zero = refl
  tells_zeros (b ∷ bs) es h (suc i) = h i

-- of a table
module _ (chip : LargeChip) (t : Table) where
  tells_write : (b p : ℕ) (k : Kind) (es : List Step) → Tells chip t.version t.bitmap es → Tells chip t.version t.bitmap (write b p k t ∷ es)
  unfolding image_at nth_step page_image
  tells_write b p k es h zero = refl
  tells_write b p k es h (suc i) = h i

  tells_writes : (n p b : ℕ) (k : Kind) (es : List Step) → Tells chip t.version t.bitmap es → Tells chip t.version t.bitmap (writes n p b k t es)
  unfolding writes
  tells_writes zero p b k es h = h
  tells_writes (suc n) p b k es h = tells_write b p k (writes n (suc p) b k t es) (tells_writes n (suc p) b k es h)

  tells_copy : (b : ℕ) (k : Kind) (es : List Step) → Tells chip t.version t.bitmap es → Tells chip t.version t.bitmap (copy_steps (pages_of chip) b k t es)
  unfolding copy_steps
  tells_copy b k es h = tells_erase chip t.version t.bitmap b (writes (pages_of chip) 0 b k t es) (tells_writes (pages_of chip) 0 b k es h)

-- ---- a plan, by the table that it writes
module _ (chip : LargeChip) where
  job_tells : (t : Table) (j : Job) → Writes t j → Tells chip (job_version j) t.bitmap (job_steps (pages_of chip) j)
  unfolding job_version job_steps
  job_tells t (idle v) w = tells_none chip v t.bitmap
  job_tells t (single k b g u) w =
      subst (λ (x : Table). Tells chip u.version x.bitmap (copy_steps (pages_of chip) b k u [])) w
      (tells_copy chip u b k [] (tells_none chip u.version u.bitmap))
  job_tells t (double p m u) w =
      subst (λ (x : Table). Tells chip u.version x.bitmap (copy_steps (pages_of chip) p Primary u (copy_steps (pages_of chip) m Mirror u []))) w
      (tells_copy chip u p Primary _ (tells_copy chip u m Mirror [] (tells_none chip u.version u.bitmap)))

module _ (chip : LargeChip) (i : ℕ) where
  plan-told : (t : Table) (q : Plan) → Writes t q.job
      → plan_image chip (plan q) i ≡ step_image (plan_version q) t.bitmap (nth_step (told_steps (told_plan chip q)) i)
  unfolding plan_image
  plan-told t q w =
      tells_zeros chip (plan_version q) t.bitmap q.failed (job_steps (pages_of chip) q.job) (job_tells chip t q.job w) i
      ∙ ap (λ (es : List ToldStep). step_image (plan_version q) t.bitmap (nth_step es i)) (sym (tells_steps chip q))

  -- by what was told: a refusal, or a plan
  told-image : (t : Table) (a : Answer) → Planning (Writes t) a → plan_image chip a i ≡ told_image t.bitmap (told_answer chip a) i
  unfolding plan_image
  told-image t (refuse r) w = refl
  told-image t (plan q) w = plan-told t q w

-- ---- a work
-- the table of what was planned first, whose bitmap is the work's
abbrev Source : List ℕ → Answer → Type 0
Source bitmap a = (t : Table) × Planning (Writes t) a × (t.bitmap ≡ bitmap)

update_source : (w : List ℕ) (p m : ℕ) (o : Table) → Source (updated_bytes o.bitmap w) (update_from w (holds p m o))
unfolding update_from updated
update_source w p m o = (new, go (same (updated_bytes o.bitmap w) o.bitmap), refl)
  where
    new : Table
    new = record { version = next_version o.version; bitmap = updated_bytes o.bitmap w }

    go : (t : Bool) → Writes new (cond t (idle o.version) (double p m (cond t o new)))
    go true = tt
    go false = refl

module _ (chip : LargeChip) (image w : List ℕ) where
  no_table : Table
  no_table = record { version = 0; bitmap = [] }

  work_source : (work : Work) → Source (work_bitmap chip image w work) (work_answer chip image w work)
  unfolding work_bitmap work_answer anded no_table
  work_source (Keep b) = (no_table, tt, refl)
  work_source (Update p m) = update_source w p.0 m.0 _
  work_source (Copy b t k) = (stored_table chip image b.0, refl, refl)
  work_source (Merge p m) = (anded (stored_table chip image p.0) (stored_table chip image m.0), refl, refl)

  -- once steps have failed, the table is the same
  pub after_told : (R : View) (work : Work) (failed : List ℕ) (i : ℕ) (told : Result ToldPlan Refusal)
      → told ≡ told_answer chip (failures chip R (work_answer chip image w work) failed)
      → plan_image chip (failures chip R (work_answer chip image w work) failed) i ≡ told_image (work_bitmap chip image w work) told i
  after_told R work failed i told e =
      let src = work_source work in
      told-image chip i src.0 _ (table_kept chip R src.0 (work_answer chip image w work) failed src.1)
      ∙ ap₂ (λ (l : List ℕ) (x : Result ToldPlan Refusal). told_image l x i) src.2 (sym e)

-- a step that writes nothing
abbrev pub WritesNone : Option ToldStep → Type 0
WritesNone s = (b : ChipBlock) (p : ℕ) (k : Kind) → s ≡ Some (Write b p k) → ⊥

-- ---- the image of a step of a work's plan, once steps have failed, by what was told of that plan
module _ (chip : LargeChip) (image w : List ℕ) (R : View) (work : Work) (failed : List ℕ) (i : ℕ) where
  pub image_refused : (r : Refusal) → told_answer chip (failures chip R (work_answer chip image w work) failed) ≡ Err r
      → plan_image chip (failures chip R (work_answer chip image w work) failed) i ≡ no_image r
  image_refused r e = after_told chip image w R work failed i (Err r) (sym e)

  module _ (q : ToldPlan) (e : told_answer chip (failures chip R (work_answer chip image w work) failed) ≡ Ok q) where
    by_step : (s : Option ToldStep) → nth_step (told_steps q) i ≡ s
        → plan_image chip (failures chip R (work_answer chip image w work) failed) i ≡ step_image q.version (work_bitmap chip image w work) s
    by_step s f = after_told chip image w R work failed i (Ok q) (sym e) ∙ ap (step_image q.version (work_bitmap chip image w work)) f

    pub image_none : WritesNone (nth_step (told_steps q) i) → plan_image chip (failures chip R (work_answer chip image w work) failed) i ≡ no_image Range
    image_none h = go (nth_step (told_steps q) i) refl h
      where
        go : (s : Option ToldStep) → nth_step (told_steps q) i ≡ s → WritesNone s → plan_image chip (failures chip R (work_answer chip image w work) failed) i ≡ no_image Range
        go None f h = by_step None f
        go (Some (Erase b)) f h = by_step (Some (Erase b)) f
        go (Some (Zero b)) f h = by_step (Some (Zero b)) f
        go (Some (Write b p k)) f h = absurd (h b p k refl)

    pub image_write : (b : ChipBlock) (p : ℕ) (k : Kind) → nth_step (told_steps q) i ≡ Some (Write b p k)
        → plan_image chip (failures chip R (work_answer chip image w work) failed) i ≡ page-image (part_image k q.version (chunk p (work_bitmap chip image w work)))
    image_write b p k f = by_step (Some (Write b p k)) f

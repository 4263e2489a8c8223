-- A copy at work: the steps left of it (`Placing`) with the plan in hand (`Held`), and what its next step, done, cut or failed, makes of it.
-- Assumes nothing.
use mathlib.Core.Bool.{true, false}
use mathlib.Core.List.{List, [], ◌∷◌}
use mathlib.Core.Logic.{◌⊎◌, inl, inr, ◌≢◌}
use mathlib.Core.Path.{◌≡◌, refl, sym, subst}
use Prim.Native.Nat.{ℕ, ◌<◌}
use lib.ListN.{length}
use Rattle.chip.specs.Large.{bitmap_bytes, pages_of}
use Rattle.chip.specs.declared.LargeChip.{LargeChip}
use Rattle.bbt.specs.declared.Kind.{Kind}
use Rattle.bbt.specs.declared.Kind.TheVariants.{Primary, Mirror}
use Rattle.bbt.specs.Copies.{Table, reads_bad}
use Rattle.bbt.specs.Histories.{OthersKept, Snapshot, snapshot, with_failed, answer}
use Rattle.bbt.specs.Lent.{call_lent}
use Rattle.bbt.specs.Plans.{Step, zeros, fresh, Plan, copy_steps, job_steps, steps_of, plan, Call, plan_by_rules}
use Rattle.bbt.specs.Regions.{Region, view}
use Rattle.bbt.proofs.Anew.{anew_apart, anew_off, anew_fit, anew_held}
use Rattle.bbt.proofs.Failing.{Turn, first_copy, last_copy, Doing, doing_first, doing_only, job_at, Held, held_first, held_next, At, erase_at, write_at, anew, zeros_no_plan}
use Rattle.bbt.proofs.Forms.{Sole, Clear, Lacks, Whole, Frame, missing_clear}
use Rattle.bbt.proofs.LeftPages.{Judged, Twin, primary_kind, mirror_kind}
use Rattle.bbt.proofs.Numbering.{Tracked}
use Rattle.bbt.proofs.Placing.{Did, Broke, erase_frame, Placing, place_start, place_fill, place_retire, Went, more, placed, Remains, place_done, place_cut, place_frame, place_twin, remains_twin, remains_clear}

-- ---- which copy it is
-- its kind, and the other's
pub data Role : Turn → Kind → Kind → Type 0 where
  first_primary : Role first_copy Primary Mirror
  last_primary : Role last_copy Primary Mirror
  last_mirror : Role last_copy Mirror Primary

pub kinds : {d : Turn} {k j : Kind} → Role d k j → Twin k j
kinds first_primary = primary_kind
kinds last_primary = primary_kind
kinds last_mirror = mirror_kind

pub last_role : {k j : Kind} → Twin k j → Role last_copy k j
last_role primary_kind = last_primary
last_role mirror_kind = last_mirror

-- the steps after its own, the other copy's block being g: an update erases the mirror's block after the primary's last page
unfoldable pub rest_of : ℕ → Turn → ℕ → Table → List Step
rest_of P first_copy g x = copy_steps P g Mirror x []
rest_of P last_copy g x = []

pub steps_at : {d : Turn} {k j : Kind} (P g : ℕ) (x : Table) (b : ℕ) → Role d k j → job_steps P (job_at d k g x b) ≡ copy_steps P b k x (rest_of P d g x)
unfolding job_steps job_at rest_of
steps_at P g x b first_primary = refl
steps_at P g x b last_primary = refl
steps_at P g x b last_mirror = refl

doing_at : {d : Turn} {k j : Kind} (b g : ℕ) (x : Table) → Role d k j → Doing d k b g x (job_at d k g x b)
unfolding job_at
doing_at b g x first_primary = doing_first
doing_at b g x last_primary = doing_only
doing_at b g x last_mirror = doing_only

module _ {chip : LargeChip} where
  -- at region r, asked for by a call of a, es left: a copy of x, of kind k, goes to b, while kind j's at g holds c
  pub record Work (r : Region chip) (call : Call) (a : Snapshot chip) (es : List Step) (d : Turn) (k j : Kind) (b g : ℕ) (x c : Table) : Type 0 where
    pub role : Role d k j
    pub full : length x.bitmap ≡ bitmap_bytes chip
    pub placing : Placing r k j b g x c (rest_of (pages_of chip) d g x) es
    pub held : Held r call a d k b g x

  -- what a step of it, done, leaves
  pub data Worked (s : Region chip) (call : Call) (a : Snapshot chip) (es : List Step) (d : Turn) (k j : Kind) (b g : ℕ) (x c : Table) : Type 0 where
    still : Work s call a es d k j b g x c → Lacks s k j g c → Worked s call a es d k j b g x c
    finished : es ≡ rest_of (pages_of chip) d g x → Sole s j g c → Sole s k b x → Whole s k b x → Held s call a d k b g x → Worked s call a es d k j b g x c

  at_frame : {r s : Region chip} {e : Step} {b : ℕ} → At e b → OthersKept e r s → Frame r s b
  at_frame erase_at sp = erase_frame sp
  at_frame write_at sp = λ d p hd hp ne. sp d p hd hp (λ t. ne t.0)

module _ {chip : LargeChip} (ok : Judged chip) where
  -- as the plan is made
  pub work_first : {r : Region chip} {call : Call} {d : Turn} {k j : Kind} {g : ℕ} {x c : Table} (b : ℕ) → Role d k j → length x.bitmap ≡ bitmap_bytes chip
      → Sole r j g c → Clear r k b → reads_bad (view r) b ≡ false → b < chip.region → g ≢ b → call_lent chip call ≡ true
      → plan_by_rules chip (view r) call ≡ plan (fresh (job_at d k g x b))
      → Work r call (snapshot r) (steps_of (pages_of chip) (fresh (job_at d k g x b))) d k j b g x c
  unfolding copy_steps
  work_first {r} {call} {d} {k} {j} {g} {x} {c} b o len t cl ft hb ne l e =
      record {
        role = o;
        full = len;
        placing = rw (steps_at (pages_of chip) g x b o) (place_start refl t cl ft hb ne);
        held = held_first ok (fresh (job_at d k g x b)) l e (doing_at b g x o);
      }

  -- the step at block b, or zeros
  place_at : {r : Region chip} {k j : Kind} {b g : ℕ} {x c : Table} {rest : List Step} {e : Step} {es : List Step} → Placing r k j b g x c rest (e ∷ es)
      → (At e b × Clear r k b) ⊎ ((z : ℕ) × (e ≡ zeros z))
  place_at (place_start w t cl ft hb ne) = inl (erase_at, cl)
  place_at {b = b} (place_fill n q e w l) = inl (write_at, missing_clear ok l.lacking b)
  place_at (place_retire {z = z} w t cl hz nz nb ft hb ne) = inr (z, refl)

  pub work_at : {r : Region chip} {call : Call} {a : Snapshot chip} {e : Step} {es : List Step} {d : Turn} {k j : Kind} {b g : ℕ} {x c : Table}
      → Work r call a (e ∷ es) d k j b g x c → At e b ⊎ ((z : ℕ) × (e ≡ zeros z))
  work_at {r} {e = e} {k = k} {b = b} w = go (place_at w.placing)
    where
      go : (At e b × Clear r k b) ⊎ ((z : ℕ) × (e ≡ zeros z)) → At e b ⊎ ((z : ℕ) × (e ≡ zeros z))
      go (inl h) = inl h.0
      go (inr h) = inr h

  module _ {r : Region chip} (s : Region chip) {call : Call} {a : Snapshot chip} {e : Step} {es : List Step} {d : Turn} {k j : Kind} {b g : ℕ}
      {x c : Table} (w : Work r call a (e ∷ es) d k j b g x c) (sp : OthersKept e r s) where
    -- the block that the step touches is not the other copy's
    pub work_frame : (z : ℕ) × Frame r s z × (g ≢ z)
    work_frame = let f = place_frame ok r s w.placing sp in (f.0, f.1, f.2)

    pub work_done : {i : ℕ} → Tracked call a i (e ∷ es) → Did e s → Worked s call a es d k j b g x c
    work_done t dn = go (place_done ok r s (kinds w.role) w.full w.placing sp dn)
      where
        next : Held s call a d k b g x
        next = let f = place_frame ok r s w.placing sp in held_next ok r s t w.held f.0 f.1 f.3

        go : Went s k j b g x c (rest_of (pages_of chip) d g x) es → Worked s call a es d k j b g x c
        go (more p l) = still (record { role = w.role; full = w.full; placing = p; held = next }) l
        go (placed q y z h) = finished q y z h next

    pub work_cut : Broke e r s → Remains r s k j b g x c
    work_cut ct = place_cut ok r s (kinds w.role) w.full w.placing sp ct

    -- it failed, and the plan was made anew
    module _ {i : ℕ} (t : Tracked call a i (e ∷ es)) (ct : Broke e r s) (q : Plan) (an : answer call (with_failed a i) ≡ plan q) where
      apart : g ≢ b
      apart = (place_twin ok w.placing).2

      failed_at : (at : At e b) → Clear r k b → Frame r s b → (y : ℕ) × Work s call (with_failed a i) (steps_of (pages_of chip) q) d k j y g x c
      failed_at at cl f =
          let n = anew ok r s t w.held at apart q an in
          let y : ℕ = n.y in
          let u = place_twin ok w.placing in
          let left = work_cut ct in
          let pl : Placing s k j y g x c (rest_of (pages_of chip) d g x) (zeros b ∷ job_steps (pages_of chip) (job_at d k g x y)) =
          place_retire (steps_at (pages_of chip) g x y w.role) (remains_twin ok r s u.0 left) (remains_clear ok r s cl left) u.1 apart
          (anew_off ok r s t w.held at apart f q n) (anew_fit ok r s t w.held at apart f q n) n.chosen.below
          (anew_apart ok r s t w.held at apart f q n) in (
            y,
            subst (λ (z : Plan). Work s call (with_failed a i) (steps_of (pages_of chip) z) d k j y g x c) (sym n.is) (record {
              role = w.role;
              full = w.full;
              placing = pl;
              held = anew_held ok r s t w.held at apart f q n;
            }),
          )

      pub work_failed : (y : ℕ) × Work s call (with_failed a i) (steps_of (pages_of chip) q) d k j y g x c
      work_failed = elim (place_at w.placing) [
        | inl h ↦ failed_at h.0 h.1 (at_frame h.0 sp)
        | inr z ↦ absurd (zeros_no_plan ok r s t w.held z.0 z.1 q an)
      ]

  pub work_twin : {r : Region chip} {call : Call} {a : Snapshot chip} {es : List Step} {d : Turn} {k j : Kind} {b g : ℕ} {x c : Table}
      → Work r call a es d k j b g x c → Sole r j g c
  work_twin w = (place_twin ok w.placing).0

  pub work_apart : {r : Region chip} {call : Call} {a : Snapshot chip} {es : List Step} {d : Turn} {k j : Kind} {b g : ℕ} {x c : Table}
      → Work r call a es d k j b g x c → g ≢ b
  work_apart w = (place_twin ok w.placing).2

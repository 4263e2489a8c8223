-- The plan made anew, once block b alone was touched: its target is none of the other blocks, and is fit, so the copy is held in it.
-- Assumes nothing.
use mathlib.Core.Bool.{false}
use mathlib.Core.List.{List, ◌∷◌}
use mathlib.Core.Logic.{◌⊎◌, inl, inr, ◌≢◌}
use mathlib.Core.Path.{◌≡◌, sym, ◌∙◌}
use Prim.Native.Nat.{ℕ}
use Rattle.chip.specs.declared.LargeChip.{LargeChip}
use Rattle.bbt.specs.declared.Kind.{Kind}
use Rattle.bbt.specs.Copies.{Table, reads_bad}
use Rattle.bbt.specs.Histories.{Snapshot, with_failed, answer}
use Rattle.bbt.specs.Plans.{Step, zeros, Plan, Call, member}
use Rattle.bbt.specs.PowerCuts.{IfItFails}
use Rattle.bbt.specs.Regions.{Region, view}
use Rattle.bbt.proofs.Forms.{Frame, frame_bad}
use Rattle.bbt.proofs.LeftPages.{Judged}
use Rattle.bbt.proofs.Numbering.{Tracked}
use Rattle.bbt.proofs.Planning.{member_apart}
use Rattle.bbt.proofs.Failing.{Turn, At, job_at, Held, Anew, at_answer, zeros_refused, doing_again, answered_by, zeros_answered}

module _ {chip : LargeChip} (ok : Judged chip) where
  module _ (r s : Region chip) {call : Call} {a : Snapshot chip} {i : ℕ} {e : Step} {es : List Step} {d : Turn} {k : Kind} {b g : ℕ} {x : Table}
      (t : Tracked call a i (e ∷ es)) (h : Held r call a d k b g x) where
    module _ (at : At e b) (apart : g ≢ b) where
      -- block b alone was touched: the target is fit, and is none of the others
      module _ (f : Frame r s b) (q : Plan) (w : Anew ok r s t h at apart q) where
        off : (w.y ≢ g) × (member w.y (b ∷ h.q.failed) ≡ false)
        off = member_apart w.y g (b ∷ h.q.failed) w.chosen.off

        pub anew_apart : g ≢ w.y
        anew_apart e = off.0 (sym e)

        pub anew_off : w.y ≢ b
        anew_off = (member_apart w.y b h.q.failed off.1).0

        pub anew_fit : reads_bad (view s) w.y ≡ false
        anew_fit =
            frame_bad ok r s b f w.y w.chosen.below anew_off
            ∙ (h.since w.y w.chosen.below anew_off off.0 (member_apart w.y b h.q.failed off.1).1 ∙ w.chosen.fit)

        pub anew_held : Held s call (with_failed a i) d k w.y g x
        anew_held =
            record {
              q = record { failed = b ∷ h.q.failed; job = job_at d k g x w.y };
              lent = h.lent;
              forced = w.forces;
              doing = doing_again h.doing w.y;
              since = λ c l n m v.
                  let u = member_apart c b h.q.failed v in
                  frame_bad ok r s b f c l u.0 ∙ h.since c l u.0 m u.1;
            }

    -- what planning answers, whichever step it is
    pub if_it_fails : At e b ⊎ ((z : ℕ) × (e ≡ zeros z)) → g ≢ b → IfItFails chip e (answer call (with_failed a i))
    if_it_fails (inl at) n = answered_by chip at (answer call (with_failed a i)) (at_answer ok r s t h at n)
    if_it_fails (inr (z, u)) n = zeros_answered chip u (zeros_refused ok r s t h z u)

-- From one good copy on: with a target it is a region that holds a table (`Sound`), as those that histories lead through, so demand 3's promise holds
-- from there; and with none every other block is readable as bad.
-- Assumes nothing.
use mathlib.Core.Bool.{Bool, true, false}
use mathlib.Core.List.{List, [], ◌∷◌}
use mathlib.Core.Logic.{◌≢◌}
use mathlib.Core.Option.{Option, none, some}
use mathlib.Core.Path.{◌≡◌, refl, sym, ◌∙◌, subst}
use Prim.Native.Nat.{ℕ, ◌<◌}
use borrow.Author.Tests.{ne_eqb}
use Rattle.bbt.specs.CarriedOut.{Carried, all_done, one_done, one_failed}
use Rattle.bbt.specs.Copies.{Table, table, reads_bad}
use Rattle.bbt.specs.Histories.{one_table, AfterStep, as_one, Snapshot, snapshot, answer, empty, holding, World, world, recovery_planned, step_done, step_failed, History, start, next}
use Rattle.bbt.specs.Plans.{Step, Plan, steps_of, plan, member, is_free, target, other_kind, recover_to, recover_case, for_recovery, plan_by_rules}
use Rattle.bbt.specs.Plans as plans
use Rattle.bbt.specs.PowerCuts.{NotGoodKept, Settled, Promise, region_of}
use Rattle.bbt.specs.Regions.{Region, view}
use Rattle.bbt.specs.declared.Kind.{Kind}
use Rattle.bbt.proofs.Course.{history}
use Rattle.bbt.proofs.Invariant.{Inv, inv, resting, no_hand, the_one}
use Rattle.bbt.proofs.Forms.{Sole, Missing, Sound, one_left}
use Rattle.bbt.proofs.LeftPages.{Judged, Twin}
use Rattle.bbt.proofs.Numbering.{tracked}
use Rattle.bbt.proofs.Planning.{case_says, plan_first, target_is, member_apart}
use Rattle.bbt.proofs.PowerCuts.{promise, holds_settled}
use Rattle.bbt.proofs.Searches.{no_confusion, highest_some}
use Rattle.chip.specs.Large.{pages_of}
use Rattle.chip.specs.declared.LargeChip.{LargeChip}
use Rattle.bringup.specs.FirstPair.{OneCopy, Recovery, written, no_target, FromOneCopy}

module _ {chip : LargeChip} (ok : Judged chip) (s : Region chip) (k : Kind) (b : ℕ) (t : Table) (h : OneCopy s k b t) where
  -- ---- what a recovery answers
  answered : answer for_recovery (snapshot s) ≡ recover_to (other_kind k) b t (target chip (view s) (b ∷ []))
  unfolding plans.recovery recover_case plan_by_rules
  answered = plan_first ok s for_recovery refl ∙ rw (h.case, h.content)

  bad_elsewhere : target chip (view s) (b ∷ []) ≡ none → (c : ℕ) → c < chip.region → c ≢ b → reads_bad (view s) c ≡ true
  unfolding target member
  bad_elsewhere e c l ne = go (reads_bad (view s) c) refl
    where
      go : (x : Bool) → reads_bad (view s) c ≡ x → x ≡ true
      go true a = refl
      go false a =
          let free : is_free (view s) (b ∷ []) c ≡ true = rw (ne_eqb c b ne, a) in
          let z = highest_some chip.region (is_free (view s) (b ∷ [])) c l free in
          let w : some z.0 ≡ none = sym z.1 ∙ e in
          absurd (no_confusion (cc))

  recovery : Recovery s k b t
  unfolding recover_to
  recovery = go (target chip (view s) (b ∷ [])) refl
    where
      go : (o : Option ℕ) → target chip (view s) (b ∷ []) ≡ o → Recovery s k b t
      go none e = no_target (answered ∙ rw e) (bad_elsewhere e)
      go (some m) e =
          let f = target_is ok s (b ∷ []) m e in
          written m (answered ∙ rw e) f.below (member_apart m b [] f.off).0 f.fit

  -- ---- where it is a plan, the region holds the table
  module _ (q : Plan) (made : answer for_recovery (snapshot s) ≡ plan q) where
    has_target : (m : ℕ) × (target chip (view s) (b ∷ []) ≡ some m)
    unfolding recover_to
    has_target = go (target chip (view s) (b ∷ [])) refl (sym answered ∙ made)
      where
        go : (o : Option ℕ) → target chip (view s) (b ∷ []) ≡ o → recover_to (other_kind k) b t o ≡ plan q → (m : ℕ) × (target chip (view s) (b ∷ []) ≡ some m)
        go none e a = absurd (no_confusion (cc))
        go (some m) e a = (m, e)

    sound : Sound s t
    sound =
        let c : Twin (other_kind k) k × Sole s k b (table (pages_of chip) (view s) b) × Missing s (other_kind k) = rw h.case at (case_says s) in
        let m = has_target in
        let f = target_is ok s (b ∷ []) m.0 m.1 in
        one_left c.0 (record {
          twin = subst (λ (u : Table). Sole s k b u) h.content c.1;
          lacking = c.2;
          room = record { spot = m.0; spot_in = f.below; spot_off = (member_apart m.0 b [] f.off).0; spot_fit = f.fit };
        })

    begins : Inv (world s empty (one_table t)) t
    begins = inv (resting no_hand the_one sound)

    module _ {v : World chip} (e : History (world s empty (one_table t)) v) where
      promised : Promise v
      promised = promise ok (tracked tt e) (history ok tt begins e).still

      kept : (t' : Table) → Settled (region_of v) t' → NotGoodKept chip t t'
      kept t' a =
          let x = history ok tt begins e in
          let u : t' ≡ x.c = holds_settled ok t' x.still a in
          subst (λ (y : Table). NotGoodKept chip t y) (sym u) x.not_good_kept

    -- ---- a recovery carried out is a history
    after : (u : Region chip) (es : List Step) → AfterStep u es (one_table t) (one_table t)
    after u [] = as_one
    after u (e ∷ es) = refl

    as_history : {w : World chip} {a : Snapshot chip} {p z : Plan} {i : ℕ} {es : List Step} {r u : Region chip} → Carried for_recovery a p i es r u z
        → History w (world r (holding for_recovery a i es) (one_table t))
        → (a' : Snapshot chip) × (j : ℕ) × History w (world u (holding for_recovery a' j []) (one_table t))
    as_history {a = a} {i = i} all_done e = (a, i, e)
    as_history (one_done {es = es} r sp d on) e = as_history on (next e (step_done r (one_table t) sp d (after r es)))
    as_history (one_failed r p sp d an on) e = as_history on (next e (step_failed r p sp d an))

    settles : {u : Region chip} (z : Plan) → Carried for_recovery (snapshot s) q 0 (steps_of (pages_of chip) q) s u z → Settled u t
    settles {u} z c =
        let x = as_history c (next start (recovery_planned q (one_table t) made as_one)) in
        let y = (promised x.2).settles in
        subst (λ (t' : Table). Settled u t') y.2 y.1

  pub from_one_copy : FromOneCopy s k b t
  from_one_copy = record { recovery = recovery; settles = λ q z a c. settles q a z c; promise = λ q a e. promised q a e; not_good_kept = λ q a e. kept q a e }

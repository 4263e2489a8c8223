-- Every plan that the library makes is ready: what its steps take is there.
-- Assumes nothing.
use mathlib.Core.Path.{◌≡◌, refl}
use Prim.Native.Nat.{ℕ}
use Rattle.chip.specs.declared.LargeChip.{LargeChip}
use Rattle.bbt.specs.declared.Kind.TheVariants.{Primary, Mirror}
use Rattle.bbt.specs.Copies.{Table}
use Rattle.bbt.specs.Histories.{snapshot, answer}
use Rattle.bbt.specs.Pairs.{pair_case}
use Rattle.bbt.specs.Plans.{Job, Plan, plan, recovery, Call, for_update, for_recovery, plan_by_rules}
use Rattle.bbt.specs.Regions.{Region, view}
use Rattle.bbt.proofs.Forms.{Sole}
use Rattle.bbt.proofs.LeftPages.{Judged}
use Rattle.bbt.proofs.Planning.{AsMade, Ready, nothing_to_do, both_to_place, Update, no_news, news, recovery_ready, case_says, plan_asked, update_reads, reading_settled, updates}

module _ {chip : LargeChip} (ok : Judged chip) where
  pub plan_ready : (r : Region chip) (call : Call) (q : Plan) → answer call (snapshot r) ≡ plan q → AsMade (Ready r) q
  unfolding plan_by_rules recovery
  plan_ready r for_recovery q e = recovery_ready ok r (pair_case chip (view r)) q (case_says r) (plan_asked ok r for_recovery q e).first
  plan_ready r (for_update w) q e =
      let h = plan_asked ok r (for_update w) q e in
      let a = update_reads ok r w q h in
      let s = reading_settled r a.0 a.1 a.2 a.3 in
      let u = updates ok r a.0 a.1 a.2 w q s.0 s.1 h in
      (u.0, u.1, go u.2 s.0 s.1)
    where
      go : {o n : Table} {p m : ℕ} {j : Job} → Update chip o n p m j → Sole r Primary p o → Sole r Mirror m o → Ready r j
      go (no_news z) x y = nothing_to_do x y refl
      go (news z) x y = both_to_place x y z.full

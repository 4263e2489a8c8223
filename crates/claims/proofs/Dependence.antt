-- The C entries tell what the public contracts answer, and that depends on the bytes that count alone.
-- Assumes nothing.
use Rattle.std.specs.Prelude.{Result}
use mathlib.Core.Path.{ap}
use Rattle.plan.proofs.Dependence.{public_dependence}
use Rattle.bbt.specs.declared.Plan.{Plan}
use Rattle.chip.specs.declared.Refusal.{Refusal}
use Rattle.reamsickle.specs.Boundary.{code_by}
use Rattle.reamsickle.specs.LargeBoundary.{table_code_by, table_code, plan_code, steps_after, image_code}
use Rattle.claims.specs.Dependence.{DependenceInC}

pub dependence_in_c : DependenceInC
unfolding table_code image_code
dependence_in_c n size status x y alike =
    let same = public_dependence n size status x y alike in
    record {
      tables = λ room. ap table_code_by (same.tables room);
      bitmaps = same.bitmaps;
      plans = λ call failed room. ap (λ (a : Result Plan Refusal). plan_code n size a room) (same.plans call failed);
      steps = λ call failed room. ap (λ (a : Result Plan Refusal). steps_after a room) (same.plans call failed);
      images = λ call failed i room. ap code_by (same.images call failed i room);
      pages = same.pages;
    }

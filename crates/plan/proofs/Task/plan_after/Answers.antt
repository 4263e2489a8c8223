-- `plan_after` meets its contract: no block has failed under a work's first plan, so what was made of it is what the rules make.
-- Assumes nothing.
use Rattle.std.specs.Prelude.{Result}
use mathlib.Core.Path.{◌≡◌, ◌∙◌, ap, sym}
use borrow.Author.Rules.{rules}
use lib.ListN.{length}
use Rattle.bbt.specs.Pages.{seen}
use Rattle.bbt.specs.Told.{told_answer}
use Rattle.bbt.specs.declared.Plan.{Plan as ToldPlan}
use Rattle.chip.specs.declared.Refusal.{Refusal}
use Rattle.region.proofs.Lending.{chip_told}
use Rattle.retire.proofs.Failing.{retires_by_rules}
use Rattle.retire.specs.Retiring.{all_retired}
use Rattle.plan.proofs.Keeping.{failures_none}
use Rattle.plan.proofs.Working.{work_first}
use Rattle.plan.proofs.Task.plan_after.Goals as goal

pub returns-then-is_empty : goal.returns-then-is_empty
returns-then-is_empty c =
    let a = c.args in
    let r = a.self.region in
    let none : length a.failed.now ≡ 0 = search rules in
    c.plan-first.ensures ∙ sym (ap (told_answer r.chip) (failures_none r.chip (seen r.chip r.image.now r.status.now) _ a.failed.now none))

pub returns : goal.returns
returns c =
    let a = c.args in
    let r = a.self.region in
    c.after_failures.ensures
    ∙ ap (λ (x : Result ToldPlan Refusal). all_retired r.chip.blocks r.chip.region r.image.now r.status.now x a.failed.now) c.plan-first.ensures
    ∙ retires_by_rules r.chip.blocks r.chip.region r.chip r.image.now r.status.now _ a.failed.now
    (record { the_chip = chip_told r.chip r.chip_right; region_right = r.lengths_right; statuses-right = r.statuses_right }) (work_first r.chip r.image.now a.self.wanted.now a.self.work)

-- `page` meets its contract: a refused plan has no image, and a write's page is made from its part of the work's bitmap.
-- Assumes nothing.
use mathlib.Core.Path.{◌∙◌, ap, sym}
use native.Mathlib.Omega.{arith}
use Rattle.std.specs.Prelude.{Some}
use Rattle.std.proofs.lemmas.Result.{err_from_is_err_and}
use Rattle.bbt.specs.Images.{Imaged}
use Rattle.bbt.specs.Pages.{seen}
use Rattle.images.proofs.Paging.{put_finished}
use Rattle.images.specs.Made.{image_answer_by, image_after_by}
use Rattle.plan.proofs.Imaging.{image_refused, image_write}
use Rattle.plan.proofs.Task.page.Goals as goal

pub returns-in_err-plan-clause-answer : goal.returns-in_err-plan-clause-answer
returns-in_err-plan-clause-answer c =
    let a = c.args in
    let r = a.self.region in
    let p = err_from_is_err_and c.from_residual.result c.from_residual.ensures.1 in
    rw (p.1, p.2) (sym (ap image_answer_by (image_refused r.chip r.image.now a.self.wanted.now (seen r.chip r.image.now r.status.now) a.self.work a.failed.now a.step _ (sym c.in_err-plan.ensures))))

pub returns : goal.returns
returns c =
    let a = c.args in
    let r = a.self.region in
    let w = c.in-Some-Write in
    let made = c.new_part-made.ensures in
    let put = put_finished _ _ _ 2048 a.page.now _ _ c.requires made.0 (omega arith) c.new_part-made.auto.out made.1 in
    let is = image_write r.chip r.image.now a.self.wanted.now (seen r.chip r.image.now r.status.now) a.self.work a.failed.now a.step c.in_ok-plan.plan (sym c.in_ok-plan.ensures) _ w.p w.kind (sym c.step.ensures ∙ w.is ∙ ap Some w.field-0-is) in
    record {
      answer = sym (ap image_answer_by is);
      out = c.finish_page.ensures ∙ put ∙ sym (ap (λ (x : Imaged). image_after_by x a.page.now) is);
    }

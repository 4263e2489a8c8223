-- Nothing is left out of the histories.
-- Assumes nothing.
use mathlib.Core.Path.{refl}
use Rattle.bbt.specs.Histories.{plan_refused, cut_between}
use Rattle.bbt.specs.Plans.{for_update}
use Rattle.bbt.specs.Possible.{NothingLeftOut}
use Rattle.bbt.proofs.LeftPages.{Judged, judge}
use Rattle.bbt.proofs.Numbering.{started, tracked}
use Rattle.bbt.proofs.Planning.{plan_asked, update_reads}
use Rattle.bbt.proofs.PowerCuts.{demand3}
use Rattle.bbt.proofs.AllBytes.{bytes_next}
use Rattle.bbt.proofs.Possible.{can_happen, can_plan, must_refuse, can_idle, must_idle, idle_page, can_close}

pub nothing_left_out : NothingLeftOut
nothing_left_out n size chip e = record {
  steps = λ {w} {r} {l} {c} {a} {i} {e = e'} {es} s h.
      let t = tracked (started s) h in
      let p = ((demand3 n size chip e).promise s h).next_step in
      can_happen ok r l c a i e' es p.0 p.1.by_image (bytes_next ok e' t);
  plans = can_plan ok;
  refusals = λ r h l call x a. ((plan_refused call x a, refl), λ w c. must_refuse r h l call x w a c);
  cuts = λ r h l l' cl. (cut_between l' cl, refl);
  no_step = λ r h l n. (can_idle r h l n, λ w c. must_idle r h l w n c);
  no_page = idle_page;
  closes = can_close;
  from_settled = λ r w q a. update_reads ok r w q (plan_asked ok r (for_update w) q a);
}
  where
    ok : Judged chip
    ok = judge n size chip e

-- The series is planned on the numbers spread, which are as many as the order says.
use Rattle.std.proofs.Common.{sym}
use Rattle.std.proofs.lemmas.Bool.{lt-leb}
use Rattle.std.proofs.lemmas.Result.{err_from_is_err_and}
use Rattle.terms.specs.Answer.{figures, refused}
use Rattle.planning.specs.CallLaws.{planning-refused, planning-short, series-planned}
use Rattle.planning.proofs.planned_orders.plan_order.Goals as goal

pub returns-in_err-order-clause-answer : goal.returns-in_err-order-clause-answer
returns-in_err-order-clause-answer c =
    let p = err_from_is_err_and c.from_residual.result c.from_residual.ensures.1 in
    rw (p.1, p.2) (planning-refused _ _ _ _ (sym c.in_err-order.ensures))

pub returns-then-space-trace-clause-answer : goal.returns-then-space-trace-clause-answer
returns-then-space-trace-clause-answer c =
    rw c.of.ensures (planning-short _ _ _ _ (sym c.in_ok-order.ensures) (lt-leb _ _ (rw c.trace-trace.ensures at c.if-space-trace.true)))

pub returns-in-Err-clause-answer : goal.returns-in-Err-clause-answer
returns-in-Err-clause-answer c =
    let inside = rw c.trace-trace.ensures at c.if-space-trace.false in
    rw c.of-in-Err.ensures
    (series-planned _ _ _ _ (sym c.in_ok-order.ensures) inside (refused _) (rw (c.order.ensures, c.trace-trace.ensures) at c.in-Err.ensures))

pub returns-in-Ok-clause-answer : goal.returns-in-Ok-clause-answer
returns-in-Ok-clause-answer c =
    let inside = rw c.trace-trace.ensures at c.if-space-trace.false in
    series-planned _ _ _ _ (sym c.in_ok-order.ensures) inside (figures _) (rw (c.order.ensures, c.trace-trace.ensures) at c.in-Ok.ensures)

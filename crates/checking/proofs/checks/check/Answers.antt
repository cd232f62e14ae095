-- The verdict is on what was read of the order and of the plan.
use Rattle.std.proofs.lemmas.Result.{err_from_is_err_and}
use Rattle.checking.specs.CallLaws.{plan_unread, weighable}
use Rattle.checking.proofs.checks.check.Goals as goal

pub returns-in_err-stated : goal.returns-in_err-stated
returns-in_err-stated c =
    let p = err_from_is_err_and c.from_residual-in_err-stated.result c.from_residual-in_err-stated.ensures.1 in
    rw (p.1, p.2) (plan_unread _ _ _ c.in_ok-order.ensures _ c.in_err-stated.ensures.result_value)

pub judge-requires : goal.judge-requires
judge-requires c =
    rw (c.order-2.ensures, c.trace.ensures) (weighable _ _ _ c.in_ok-order.ensures _ c.in_ok-stated.ensures.result_value (rw c.order.ensures at c.if-stated-order.false))

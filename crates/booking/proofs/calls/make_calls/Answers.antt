-- The plan is recorded as planning left it; a refusal to plan ends the list.
use Rattle.std.proofs.lemmas.Result.{err_from_is_err_and}
use Rattle.terms.specs.Answer.{figures, refused}
use Rattle.booking.specs.CallLaws.{plan-recorded}
use Rattle.booking.proofs.calls.make_calls.Goals as goal

pub returns-in_err-recorded : goal.returns-in_err-recorded
returns-in_err-recorded c =
    let p = err_from_is_err_and c.from_residual-in_err-recorded.result c.from_residual-in_err-recorded.ensures.1 in
    let made = rw (c.order.ensures, c.order-2.ensures, c.as_slice.ensures.items, c.trace.ensures) at c.in_err-recorded.ensures in
    rw (p.1, p.2) (plan-recorded _ _ _ _ _ _ c.in_ok-planned.ensures.answer _ (refused _) made)

pub returns : goal.returns
returns c =
    let made = rw (c.order.ensures, c.order-2.ensures, c.as_slice.ensures.items, c.trace.ensures) at c.in_ok-recorded.ensures in
    plan-recorded _ _ _ _ _ _ c.in_ok-planned.ensures.answer _ (figures _) made

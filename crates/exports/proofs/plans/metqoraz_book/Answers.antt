-- The file is written from the records of the plan found.
use Rattle.std.proofs.Common.{ap, ◌∙◌}
use Rattle.exports.specs.Answers.{coded}
use Rattle.exports.specs.PlanLaws.{file-refused, file-found}
use Rattle.exports.proofs.plans.metqoraz_book.Goals as goal

pub returns-in-Err : goal.returns-in-Err
returns-in-Err c =
    let k = file-refused _ _ c.in-Err.ensures.answer c.args.plan.now in
    record { value = c.coded_refusal.ensures ∙ ap coded k.0; plan_after = k.1 }

pub returns : goal.returns
returns c =
    let written = rw (c.order.ensures, c.as_slice.ensures.items) at c.write_plan.ensures.result_value in
    let stored = rw (c.order.ensures, c.as_slice.ensures.items) at c.write_plan.ensures.bytes_after in
    let k = file-found _ _ c.in-Ok.ensures.answer c.args.plan.now _ _ (written, stored) in
    record { value = c.coded_fill.ensures ∙ ap coded k.0; plan_after = k.1 }

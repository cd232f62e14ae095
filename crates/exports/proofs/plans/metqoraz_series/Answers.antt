-- The cost is that of the plan found.
use Rattle.std.proofs.Common.{ap, ◌∙◌}
use Rattle.exports.specs.Answers.{coded}
use Rattle.exports.specs.PlanLaws.{cost-refused, cost-found}
use Rattle.exports.proofs.plans.metqoraz_series.Goals as goal

pub returns-in-Ok : goal.returns-in-Ok
returns-in-Ok c = ap coded (cost-found _ _ c.in-Ok.ensures.answer)

pub returns-in-Err : goal.returns-in-Err
returns-in-Err c = c.coded_refusal.ensures ∙ ap coded (cost-refused _ _ c.in-Err.ensures.answer)

-- A plan that holds costs no less than the least, which the series call gives.
use Rattle.std.proofs.Common.{sym, ◌∙◌}
use Rattle.checking.specs.VerdictLaws.{holds-least, least-planned}
use Rattle.checking.proofs.verdicts.judge.Goals as goal

pub overflow_sub-result : goal.overflow_sub-result
overflow_sub-result c =
    holds-least _ _ c.args.stated.now c.requires.ranges (sym c.plan_holds.ensures ∙ c.if-not-plan_holds.false) _ (least-planned _ _ _ c.in-Ok.ensures)

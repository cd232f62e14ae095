-- The cost at the bucket's charge, which is bounded.
use mathlib.Core.Path.{ap, ◌∙◌}
use Rattle.single.specs.Cost.{cost_at, cost_of}
use Rattle.single.proofs.costs.cost_of.Goals as goal

pub returns : goal.returns
unfolding cost_of
returns c = c.cost_at.ensures ∙ ap (cost_at c.args.tariff c.args.periods) c.charge_of.ensures

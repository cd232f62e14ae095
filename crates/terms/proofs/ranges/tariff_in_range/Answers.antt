-- The range is the conjunction of the figures' ranges, the factor's as its own check gives it.
use Rattle.terms.proofs.ranges.tariff_in_range.Goals as goal

pub returns : goal.returns
returns c = rw c.factor_in_range.ensures

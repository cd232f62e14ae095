-- The rate to begin with gives a cost, at which the walks at all rates can stop.
use Rattle.first_runs.specs.SearchLaws.{best_of_all}
use Rattle.first_runs.proofs.search.best_first.Goals as goal

pub returns : goal.returns
returns c = best_of_all _ _ _ _ c.weigh_all.ensures

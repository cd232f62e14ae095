-- Either none of the rates can better what is found, or after each turn the rates below the next are weighed.
use Rattle.first_runs.specs.SearchLaws.{Turns}
use Rattle.first_runs.proofs.runs.Search.weigh_rates.Given as goal

abbrev pub invariant-loop-next : goal.invariant-loop-next
invariant-loop-next l =
    Turns l.self.tariff l.self.trace.now l.self.costs.now l.self.counts.now l.low l.end l.initial.best l.best l.next

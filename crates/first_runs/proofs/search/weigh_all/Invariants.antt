-- After each turn the rates below `low` are weighed.
use Prim.Native.Nat.{◌-◌, min}
use Rattle.first_runs.specs.SearchLaws.{Turns}
use Rattle.first_runs.proofs.search.weigh_all.Given as goal

abbrev pub invariant-loop-low : goal.invariant-loop-low
invariant-loop-low l =
    Turns l.search.tariff l.search.trace.now l.search.costs.now l.search.counts.now 0 l.end l.initial.best l.best (min l.low l.end)

abbrev pub decreases-loop-low : goal.decreases-loop-low
decreases-loop-low l = l.end - l.low

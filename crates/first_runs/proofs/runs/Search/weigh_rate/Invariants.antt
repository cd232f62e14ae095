-- After i turns the runs of 1 to i periods are weighed at this rate, and the walk's figures are in range.
use Rattle.depth.specs.WalkRanges.{WalkRange}
use Rattle.first_runs.specs.WeighLaws.{Weighing}
use Rattle.first_runs.proofs.runs.Search.weigh_rate.Given as goal

abbrev pub invariant-loop-i : goal.invariant-loop-i
invariant-loop-i l =
    Weighing l.self.tariff l.self.trace.now l.self.costs.now l.self.counts.now l.initial.best l.rate.0 l.best l.walk l.i
    × WalkRange l.i l.walk.walk

-- After i turns no run of 1 to i periods at these rates is chosen before what is found, and the walk's figures are in
-- range.
use Rattle.depth.specs.WalkRanges.{WalkRange}
use Rattle.first_runs.specs.WeighLaws.{Passing}
use Rattle.first_runs.proofs.runs.Search.may_better.Given as goal

abbrev pub invariant-loop-i : goal.invariant-loop-i
invariant-loop-i l =
    Passing l.self.tariff l.self.trace.now l.self.costs.now l.self.counts.now l.found l.low.0 l.high.0 l.walk l.i
    × WalkRange l.i l.walk.walk

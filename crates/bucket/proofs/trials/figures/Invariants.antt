-- The walk's invariant is `Walking`; each turn is one period of the definition,
-- and at the end nothing of the trace is left.
use Rattle.bucket.proofs.Walking.{Walking}
use Rattle.bucket.proofs.trials.figures.Given as goal

abbrev pub invariant-loop-demand : goal.invariant-loop-demand
invariant-loop-demand l = Walking l.bucket.rate.0 l.bucket.depth.0 l.initial.held l.trace l.held l.spare l.over l.demand-index

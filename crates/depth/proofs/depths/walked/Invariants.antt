-- After i turns the walk is that of the first i periods.
use mathlib.Core.Path.{◌≡◌}
use lib.ListN.{take}
use Rattle.depth.specs.Walk.{walk_of}
use Rattle.depth.proofs.depths.walked.Given as goal

abbrev pub invariant-loop-demand : goal.invariant-loop-demand
invariant-loop-demand l = l.walk ≡ walk_of l.rate.0 (take l.demand-index l.list)

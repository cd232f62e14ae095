-- The greater of what is found so far and the greatest of the rest is the greatest of all.
use Prim.Native.Nat.{max}
use mathlib.Core.Path.{◌≡◌}
use lib.ListN.{drop}
use Rattle.single.specs.Rates.{greatest}
use Rattle.single.proofs.rates.greatest_demand.Given as goal

abbrev pub invariant-loop-demand : goal.invariant-loop-demand
invariant-loop-demand l = max l.top (greatest (drop l.demand-index l.trace)) ≡ greatest l.trace

-- What the offers that are left make of the record reached is what all of them make of the first;
-- a refusal is that of the next.
use mathlib.Core.Path.{◌≡◌}
use lib.ListN.{drop}
use Rattle.meter.specs.Meter.{offers_of}
use Rattle.meter.proofs.runs.offer_each.Given as goal

abbrev pub invariant-loop-demand : goal.invariant-loop-demand
invariant-loop-demand l = offers_of l.meter (drop l.demand-index l.demands) ≡ offers_of l.initial.meter l.demands

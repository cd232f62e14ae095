-- After k turns the best of the first k candidate rates is found.
use mathlib.Core.Path.{◌≡◌}
use Rattle.terms.specs.Refusals.{says}
use Rattle.single.specs.Single.{best_of}
use Rattle.single.proofs.singles.cheapest.Given as goal

abbrev pub invariant-loop-next : goal.invariant-loop-next
invariant-loop-next l = says l.best ≡ best_of l.tariff l.trace l.next

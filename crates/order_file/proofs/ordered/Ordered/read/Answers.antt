-- What the order says and the numbers spread are those that the definition gives.
use Rattle.std.proofs.Common.{arith, sym, ap}
use Rattle.std.proofs.lemmas.List.{length-replicate}
use Rattle.std.specs.Prelude.{ℕ}
use Rattle.terms.specs.Refusals.{says}
use Rattle.order_file.specs.OrderedLaws.{demands-inside, demands-rest, order-read}
use Rattle.order_file.proofs.ordered.Ordered.read.Goals as goal

pub invariant_of-result : goal.invariant_of-result
invariant_of-result c =
    let inside = demands-inside _ _ _ _ c.spread_order.ensures _ (ap says c.in_ok-order.was) in
    let size = c.spread_order.auto.demands in
    let zeros = length-replicate {A = ℕ} 512 0 in
    let rest = demands-rest _ _ _ _ c.spread_order.ensures _ (ap says c.in_ok-order.was) in
    (omega (arith, inside, size, zeros), omega (arith, size, zeros), rest)

pub returns : goal.returns
returns c = sym (order-read _ _ _ _ c.spread_order.ensures (length-replicate {A = ℕ} 512 0) _ (ap says c.in_ok-order.was))

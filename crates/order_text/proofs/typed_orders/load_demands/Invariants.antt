-- The demands from the place reached on are left to be copied; each has 16 bits.
use lib.ListN.{drop}
use Rattle.encoding.specs.StoreLaws.{Storing}
use Rattle.order_text.proofs.typed_orders.load_demands.Given as goal

abbrev pub invariant-loop-i : goal.invariant-loop-i
invariant-loop-i l = Storing l.initial.demands 0 l.figures l.demands l.i (drop l.i l.figures)

-- An order that is read holds its tariff, so its trace begins inside it.
use native.Mathlib.Omega.{arith}
use mathlib.Core.Path.{sym, ◌∙◌}
use borrow.Author.Rules.{part_to_end}
use Rattle.order_file.specs.Order.{trace_offset}
use Rattle.order_file.specs.OrderRules.{read_rules, part-read}
use Rattle.order_file.proofs.orders.trace_part.Goals as goal

pub slice_bounds-result-count : goal.slice_bounds-result-count
slice_bounds-result-count c = omega (arith, (read_rules _ _ (sym c.in-Ok.ensures.result_value)).0.placed.bytes)

pub slice_bounds-result-start : goal.slice_bounds-result-start
slice_bounds-result-start c = omega (arith, (read_rules _ _ (sym c.in-Ok.ensures.result_value)).0.placed.bytes)

pub returns-in-Ok : goal.returns-in-Ok
returns-in-Ok c = part_to_end c.args.bytes.now trace_offset ∙ sym (part-read _ _ (sym c.in-Ok.ensures.result_value))

-- The list's front holds the demands, so that the order written is that of the figures.
use Prim.Native.Nat.{◌-◌}
use native.Mathlib.Omega.{arith}
use mathlib.Core.Path.{sym, ap, subst, ◌∙◌}
use borrow.Author.Rules.{part_to_end}
use lib.ListN.{length, length-drop}
use lib.Seq.{sets}
use Rattle.encoding.specs.NumberLaws.{Fit}
use Rattle.typed_figures.specs.Figures.{tariff_figures, demands_of}
use Rattle.order_text.specs.FigureLaws.{demands_fit}
use Rattle.order_text.specs.TextLaws.{copied_front, order-written}
use Rattle.order_text.proofs.typed_orders.write_figures.Goals as goal

pub load_demands-requires-clause-fit : goal.load_demands-requires-clause-fit
load_demands-requires-clause-fit c =
    let ns = c.args.figures.now in
    subst (Fit 2) (sym (part_to_end ns tariff_figures)) (demands_fit ns c.requires)

pub returns : goal.returns
returns c =
    let ns = c.args.figures.now in
    let n = length-drop tariff_figures ns in
    let stored = c.load_demands.ensures ∙ ap (sets _ 0) (part_to_end ns tariff_figures) in
    let front = copied_front (demands_of ns) _ _ (length ns - 7) (sym n) (omega (arith, n, c.requires.few)) stored in
    let w = c.write_order.ensures in
    let all = order-written ns c.args.file.now _ _ _ _ c.tariff_of.ensures front w.result_value w.bytes_after in
    record { result_value = all.0; file_after = all.1 }

-- The figures that a text gives are an order's; their order is written.
use mathlib.Core.Path.{sym}
use Rattle.order_text.specs.FigureLaws.{text_figures}
use Rattle.order_text.proofs.typed_orders.order_of_text.Goals as goal

pub write_figures-requires : goal.write_figures-requires
write_figures-requires c = text_figures _ _ (sym c.in_ok-at.ensures.figures_after)

-- The figure goes to the place behind those read, which is inside the list while a figure is begun.
use mathlib.Core.Path.{sym, ◌∙◌}
use borrow.Author.Tests.{not-false}
use Rattle.order_text.specs.CursorLaws.{close_figure}
use Rattle.order_text.proofs.scan.close.Goals as goal

pub returns-clause-figures_after : goal.returns-clause-figures_after
returns-clause-figures_after c =
    close_figure _ _ c.requires.fits c.requires.figures_len (not-false _ c.if-not-at.false)
    (sym c.factor_stands.ensures ∙ c.if-not-factor_stands.false)

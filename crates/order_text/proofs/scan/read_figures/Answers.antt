-- The scan, the end of the last figure, and the count of the figures, each as the definition has it.
use native.Mathlib.Omega.{arith}
use mathlib.Core.Path.{sym, ap, ◌∙◌}
use Rattle.std.proofs.lemmas.Result.{err_from_is_err_and}
use Rattle.order_text.specs.Text.{on_read}
use Rattle.order_text.specs.ScanLaws.{text_scanned, text_closed, enough-few, enough_all}
use Rattle.order_text.specs.Cursors.{scan_of}
use Rattle.order_text.specs.CursorLaws.{count-is}
use Rattle.order_text.proofs.scan.read_figures.Goals as goal

pub returns-in_err-at-clause-figures_after : goal.returns-in_err-at-clause-figures_after
returns-in_err-at-clause-figures_after c =
    let p = err_from_is_err_and c.from_residual.result c.from_residual.ensures.1 in
    rw (p.1, p.2) (sym (text_scanned _ _ (sym c.in_err-at.ensures.figures_after)))

pub returns-in_err-at-2-clause-figures_after : goal.returns-in_err-at-2-clause-figures_after
returns-in_err-at-2-clause-figures_after c =
    let p = err_from_is_err_and c.from_residual-in_err-at-2.result c.from_residual-in_err-at-2.ensures.1 in
    rw (p.1, p.2)
    (sym (text_closed _ _ _ (sym c.in_ok-at.ensures.figures_after) (sym c.in_err-at-2.ensures.figures_after)))

pub returns-then-at-le-TARIFF_FIGURES-clause-figures_after : goal.returns-then-at-le-TARIFF_FIGURES-clause-figures_after
returns-then-at-le-TARIFF_FIGURES-clause-figures_after c =
    let at = c.in_ok-at-2.at in
    let xs = c.close.new.figures in
    let same = c.close.auto.figures ∙ c.scan.auto.figures ∙ c.requires in
    let n = count-is at xs c.in_ok-at-2.ensures.step_fits same in
    let few = enough-few (scan_of at xs) (omega (arith, n, c.if-at-le-TARIFF_FIGURES.true)) in
    let reads = text_closed _ _ _ (sym c.in_ok-at.ensures.figures_after) (sym c.in_ok-at-2.ensures.figures_after) in
    ap (on_read (λ s. s.figures)) (c.fault_at.ensures.says xs same) ∙ sym (reads ∙ few)

pub returns-clause-figures_after : goal.returns-clause-figures_after
returns-clause-figures_after c =
    let at = c.in_ok-at-2.at in
    let xs = c.close.new.figures in
    let same = c.close.auto.figures ∙ c.scan.auto.figures ∙ c.requires in
    let n = count-is at xs c.in_ok-at-2.ensures.step_fits same in
    let all = enough_all (scan_of at xs) (omega (arith, n, c.if-at-le-TARIFF_FIGURES.false)) in
    let reads = text_closed _ _ _ (sym c.in_ok-at.ensures.figures_after) (sym c.in_ok-at-2.ensures.figures_after) in
    sym (reads ∙ all)

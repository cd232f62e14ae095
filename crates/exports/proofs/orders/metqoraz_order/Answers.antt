-- Each refusal is the first rule that its test finds broken; past both tests the tariff is that of the seven figures.
use native.Mathlib.Omega.{arith}
use mathlib.Core.Path.{ap, ◌∙◌}
use borrow.Author.Tests.{eq-eqb, ne_eqb}
use lib.ListN.{length}
use Rattle.terms.specs.Bools.{check_passed, check_failed}
use Rattle.exports.specs.Answers.{coded}
use Rattle.exports.specs.OrderLaws.{order-periods, order-figures, order-written}
use borrow.Author.Rules.{rules}
use mathlib.Core.Path.{sym}
use Rattle.exports.proofs.orders.metqoraz_order.Goals as goal

pub returns-then-not-periods_in_range : goal.returns-then-not-periods_in_range
returns-then-not-periods_in_range c =
    let s = c.args in
    let k = order-periods s.figures.now s.demands.now s.bytes.now ((sym c.periods_in_range.ensures ∙ c.if-not-periods_in_range.true)) in
    record { value = c.coded_refusal.ensures ∙ ap coded k.0; bytes_after = k.1 }

pub returns-then-figures-ne-TARIFF_FIGURES : goal.returns-then-figures-ne-TARIFF_FIGURES
returns-then-figures-ne-TARIFF_FIGURES c =
    let s = c.args in
    let k = order-figures s.figures.now s.demands.now s.bytes.now ((sym c.periods_in_range.ensures ∙ c.if-not-periods_in_range.false)) (ne_eqb (length s.figures.now) 7 c.if-figures-ne-TARIFF_FIGURES.true) in
    record { value = c.coded_refusal-then-figures-ne-TARIFF_FIGURES.ensures ∙ ap coded k.0; bytes_after = k.1 }

pub tariff_of-requires : goal.tariff_of-requires
tariff_of-requires c = omega (arith, c.if-figures-ne-TARIFF_FIGURES.false)

pub returns : goal.returns
returns c =
    let s = c.args in
    let w = c.write_order.ensures in
    let k = order-written s.figures.now s.demands.now s.bytes.now ((sym c.periods_in_range.ensures ∙ c.if-not-periods_in_range.false)) (eq-eqb (length s.figures.now) 7 c.if-figures-ne-TARIFF_FIGURES.false)
    _ _ (rw c.tariff_of.ensures at w.result_value, rw c.tariff_of.ensures at w.bytes_after) in
    record { value = c.coded_fill.ensures ∙ ap coded k.0; bytes_after = k.1 }

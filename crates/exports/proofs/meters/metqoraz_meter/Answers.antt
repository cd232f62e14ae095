-- Each refusal is the first rule that its test finds broken; past both tests the figures of the record are stored.
use mathlib.Core.Path.{◌≡◌, sym, ap, ◌∙◌}
use mathlib.Core.Bool.{true}
use borrow.Author.Tests.{le-leb, lt-leb}
use Rattle.terms.specs.Bools.{check_passed, check_failed}
use Rattle.terms.specs.Ranges.{fresh_ok}
use Rattle.terms.specs.Refusals.{says}
use Rattle.single.specs.Single.{bucket_of}
use Rattle.exports.specs.Answers.{factor_of}
use Rattle.exports.specs.MeterLaws.{meter_figures_lem, meter_list, meter_refused, meter_totals}
use borrow.Author.Rules.{rules}
use Rattle.exports.proofs.meters.metqoraz_meter.Goals as goal

pub returns-then-not-fresh_in_range : goal.returns-then-not-fresh_in_range
returns-then-not-fresh_in_range c =
    let s = c.args in
    let all = meter_figures_lem (bucket_of s.rate s.depth) (factor_of s.p s.q) s.offers.now s.totals.now
    ((sym c.fresh_in_range.ensures ∙ c.if-not-fresh_in_range.true)) _ c.coded_refusal.ensures in
    record { value = all.0; totals_after = all.1 }

pub returns-then-totals-lt-TOTALS : goal.returns-then-totals-lt-TOTALS
returns-then-totals-lt-TOTALS c =
    let fresh : let s = c.args in fresh_ok (bucket_of s.rate s.depth) (factor_of s.p s.q) ≡ true = (sym c.fresh_in_range.ensures ∙ c.if-not-fresh_in_range.false) in
    let s = c.args in
    let all = meter_list (bucket_of s.rate s.depth) (factor_of s.p s.q) s.offers.now s.totals.now
    (fresh) (lt-leb _ _ c.if-totals-lt-TOTALS.true) _ c.coded_refusal-then-totals-lt-TOTALS.ensures in
    record { value = all.0; totals_after = all.1 }

pub returns-in-Err : goal.returns-in-Err
returns-in-Err c =
    let fresh : let s = c.args in fresh_ok (bucket_of s.rate s.depth) (factor_of s.p s.q) ≡ true = (sym c.fresh_in_range.ensures ∙ c.if-not-fresh_in_range.false) in
    let s = c.args in
    let all = meter_refused (bucket_of s.rate s.depth) (factor_of s.p s.q) s.offers.now s.totals.now
    (fresh) (le-leb _ _ c.if-totals-lt-TOTALS.false) _ (sym c.meter_run.ensures ∙ ap says c.in-Err.is) _ c.coded_refusal-in-Err.ensures in
    record { value = all.0; totals_after = all.1 }

pub returns : goal.returns
returns c =
    let fresh : let s = c.args in fresh_ok (bucket_of s.rate s.depth) (factor_of s.p s.q) ≡ true = (sym c.fresh_in_range.ensures ∙ c.if-not-fresh_in_range.false) in
    let s = c.args in
    let all = meter_totals (bucket_of s.rate s.depth) (factor_of s.p s.q) s.offers.now s.totals.now
    (fresh) (le-leb _ _ c.if-totals-lt-TOTALS.false) _ (sym c.meter_run.ensures ∙ ap says c.in-Ok.is) c.if-totals-lt-TOTALS.false _ c.put_totals.ensures in
    record { value = all.0; totals_after = all.1 }

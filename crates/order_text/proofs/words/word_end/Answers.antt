-- The bytes passed and the length of the rest make up the word.
use native.Mathlib.Omega.{arith}
use mathlib.Core.Path.{sym, ◌∙◌}
use Rattle.order_text.specs.WordLaws.{length_none, length_end, length_next}
use Rattle.order_text.proofs.words.word_end.Goals as goal

pub returns-then-ends_figure-clause-value : goal.returns-then-ends_figure-clause-value
returns-then-ends_figure-clause-value c =
    let l = c.loop-end in
    omega (arith, l.invariant, length_end c.args.text.now l.end c.loop-end-test.true (sym c.ends_figure.ensures ∙ c.if-ends_figure.true))

pub loop-end-preserved : goal.loop-end-preserved
loop-end-preserved c =
    let l = c.loop-end in
    omega (arith, l.invariant, length_next c.args.text.now l.end c.loop-end-test.true (sym c.ends_figure.ensures ∙ c.if-ends_figure.false))

pub returns-clause-value : goal.returns-clause-value
returns-clause-value c =
    let l = c.loop-end in
    omega (arith, l.invariant, length_none c.args.text.now l.end c.loop-end-test.false, c.requires)

-- After each turn the value and the bytes from the place reached on stand for the number of the word.
use mathlib.Core.Path.{sym, ◌∙◌}
use Rattle.typed_figures.specs.DecimalLaws.{number_end, number_other, number_above, number_next}
use Rattle.typed_figures.proofs.words.number_of.Goals as goal

pub returns-then-not-is_digit : goal.returns-then-not-is_digit
returns-then-not-is_digit c =
    sym (number_other _ _ _ c.loop-byte-test.true (sym c.is_digit.ensures ∙ c.if-not-is_digit.true)) ∙ c.loop-byte.invariant

pub returns-in_err-value : goal.returns-in_err-value
returns-in_err-value c =
    let digit = sym c.is_digit.ensures ∙ c.if-not-is_digit.false in
    rw c.from_residual.ensures
    (sym (number_above _ _ _ c.loop-byte-test.true digit (sym c.in_err-value.ensures)) ∙ c.loop-byte.invariant)

pub loop-byte-preserved : goal.loop-byte-preserved
loop-byte-preserved c =
    let digit = sym c.is_digit.ensures ∙ c.if-not-is_digit.false in
    sym (number_next _ _ _ c.loop-byte-test.true _ digit (sym c.in_ok-value.ensures)) ∙ c.loop-byte.invariant

pub returns : goal.returns
returns c = sym (number_end _ _ _ c.loop-byte-test.false) ∙ c.loop-byte.invariant

-- The answer of the call below, as one number.
use mathlib.Core.Path.{ap, ◌∙◌}
use Rattle.exports.specs.Answers.{coded}
use borrow.Author.Rules.{rules}
use Rattle.exports.proofs.texts.metqoraz_trial_line.Goals as goal

pub returns : goal.returns
returns c = let e = c.trial_line.ensures in record { value = c.coded_fill.ensures ∙ ap coded e.result_value; text_after = e.text_after }

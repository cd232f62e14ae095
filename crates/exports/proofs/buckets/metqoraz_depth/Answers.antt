-- The answer of the call below, as one number.
use mathlib.Core.Path.{ap, ◌∙◌}
use Rattle.exports.specs.Answers.{coded}
use borrow.Author.Rules.{rules}
use Rattle.exports.proofs.buckets.metqoraz_depth.Goals as goal

pub returns : goal.returns
returns c = c.coded_depth.ensures ∙ ap coded c.depth_for.ensures

-- The word around the place reached begins where the one around the place asked does.
use mathlib.Core.Path.{◌≡◌}
use Rattle.order_text.specs.Text.{word_start}
use Rattle.order_text.proofs.words.word_start.Given as goal

abbrev pub invariant-loop-before : goal.invariant-loop-before
invariant-loop-before l = word_start l.text l.before ≡ word_start l.text l.place

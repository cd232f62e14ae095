-- The bytes passed and the length of the rest make up the word.
use Prim.Native.Nat.{◌+◌}
use mathlib.Core.Path.{◌≡◌}
use lib.ListN.{drop}
use Rattle.order_text.specs.Text.{word_length}
use Rattle.order_text.proofs.words.word_end.Given as goal

abbrev pub invariant-loop-end : goal.invariant-loop-end
invariant-loop-end l = l.end + word_length (drop l.end l.text) ≡ l.start + word_length (drop l.start l.text)

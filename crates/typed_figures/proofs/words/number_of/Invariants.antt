-- After each turn the value and the bytes from the place reached on stand for the number of the word.
use mathlib.Core.Path.{◌≡◌}
use lib.ListN.{drop}
use Rattle.typed_figures.specs.Decimal.{number_from, number_in}
use Rattle.typed_figures.proofs.words.number_of.Given as goal

abbrev pub invariant-loop-byte : goal.invariant-loop-byte
invariant-loop-byte l = number_from l.value (drop l.byte-index l.word) ≡ number_in l.word

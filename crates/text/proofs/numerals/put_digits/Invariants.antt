-- The digits are stored from the last to the first; those that are left, stored too, give the whole.
use Rattle.text.specs.NumeralLaws.{Spelling}
use Rattle.text.proofs.numerals.put_digits.Given as goal

abbrev pub invariant-loop-k : goal.invariant-loop-k
invariant-loop-k l = Spelling l.initial.text l.at l.count l.n l.text l.k l.rest

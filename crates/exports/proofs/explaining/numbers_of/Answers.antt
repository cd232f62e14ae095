-- Each case of the cause is a case of the definition.
use mathlib.Core.Path.{◌≡◌, sym, ap}
use Rattle.causes.specs.declared.explaining.Cause.{Cause}
use Rattle.causes.specs.Cause.{cause_says}
use Rattle.exports.specs.Answers.{cause_numbers}
use borrow.Author.Rules.{rules}
use Rattle.exports.proofs.explaining.numbers_of.Goals as goal

numbers : {x y : Cause} → x ≡ y → cause_numbers (cause_says y) ≡ cause_numbers (cause_says x)
numbers e = ap (λ (c : Cause). cause_numbers (cause_says c)) (sym e)

pub returns-in-Nothing : goal.returns-in-Nothing
returns-in-Nothing c = numbers c.in-Nothing.is

pub returns-in-Opening : goal.returns-in-Opening
returns-in-Opening c = numbers c.in-Opening.is

pub returns-in-Stretch : goal.returns-in-Stretch
returns-in-Stretch c = numbers c.in-Stretch.is

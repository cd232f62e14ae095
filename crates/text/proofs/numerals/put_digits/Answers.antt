-- The digits are stored from the last to the first; those that are left, stored too, give the whole.
use native.Mathlib.Omega.{arith}
use Rattle.text.specs.NumeralLaws.{one_spelled, all_spelled}
use Rattle.text.proofs.numerals.put_digits.Goals as goal

pub loop-k-preserved : goal.loop-k-preserved
loop-k-preserved c = one_spelled _ _ _ _ _ _ _ _ (omega (arith, c.loop-k-test.true)) c.loop-k.invariant

pub returns : goal.returns
returns c = all_spelled _ _ _ _ _ _ _ c.loop-k-test.false c.loop-k.invariant

-- As many of its last digits as it has are the number; the byte comes behind them.
use native.Mathlib.Omega.{arith}
use Rattle.text.specs.PutLaws.{puts_number}
use Rattle.text.proofs.numerals.put_number.Goals as goal

pub returns : goal.returns
returns c = puts_number _ _ _ _ _ _ (omega (arith, c.ranges.n.fits)) c.places-count.ensures c.put_digits.ensures

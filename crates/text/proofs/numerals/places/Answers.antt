-- A number has one digit more than the power of 10 that it reaches.
use native.Mathlib.Omega.{arith}
use Rattle.text.specs.NumeralLaws.{numeral_places}
use Rattle.text.proofs.numerals.places.Goals as goal

pub returns : goal.returns
returns c =
    let most = c.max.ensures in
    let log = c.ilog10.ensures in
    numeral_places _ _ (omega (arith, c.ranges.n.fits)) (omega (arith, log.power_le, most)) (omega (arith, log.next_power_gt, most))

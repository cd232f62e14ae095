-- The sign, the whole part with the point and the thousandths are stored one behind the other.
use mir.Facts.{to_z-of_z}
use Rattle.text.specs.PutLaws.{places-room, puts_megabits, puts_then}
use Rattle.text.proofs.figures.put_megabits.Goals as goal

pub put_digits-requires : goal.put_digits-requires
put_digits-requires c =
    let same = to_z-of_z c.ranges.figure in
    let whole = puts_then (rw same at c.put_sign-whole.ensures) c.put_number-thousandths.ensures in
    places-room _ _ c.args.figure _ (rw same at c.unsigned_abs-kilobits.ensures.value) whole c.requires

pub returns : goal.returns
returns c =
    let same = to_z-of_z c.ranges.figure in
    let whole = puts_then (rw same at c.put_sign-whole.ensures) c.put_number-thousandths.ensures in
    puts_megabits _ _ c.args.figure _ (rw same at c.unsigned_abs-kilobits.ensures.value) whole _ c.put_digits.ensures

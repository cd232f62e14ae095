-- The byte comes behind the figure.
use mir.Facts.{to_z-of_z}
use Rattle.text.specs.PutLaws.{puts_byte}
use Rattle.text.proofs.fields.put_figure.Goals as goal

pub returns : goal.returns
returns c = puts_byte (rw (to_z-of_z c.ranges.figure) at c.put_megabits-end.ensures) _

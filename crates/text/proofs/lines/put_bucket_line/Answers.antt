-- The four parts are stored one behind the other.
use Prim.Native.Nat.{ℕ}
use native.Mathlib.Omega.{arith}
use Rattle.std.proofs.Common.{length-append}
use mir.Facts.{to_z-of_z}
use Rattle.text.specs.Lines.{newline}
use Rattle.text.specs.Megabits.{megabits}
use Rattle.text.specs.Numeral.{ended}
use Rattle.text.specs.PutLaws.{puts_then, room_next, same-room}
use Rattle.text.proofs.lines.put_bucket_line.Goals as goal

pub put_number-fields-requires : goal.put_number-fields-requires
put_number-fields-requires c = omega (arith, same-room c.put_number-second.ensures, length-append {A = ℕ})

pub put_bucket-end-requires : goal.put_bucket-end-requires
put_bucket-end-requires c =
    let front = puts_then c.put_number-second.ensures c.put_number-fields.ensures in
    omega (arith, same-room front, length-append {A = ℕ})

pub put_figure-requires : goal.put_figure-requires
put_figure-requires c =
    let front = puts_then (puts_then c.put_number-second.ensures c.put_number-fields.ensures) c.put_bucket-end.ensures in
    rw (to_z-of_z c.ranges.spare) (room_next front (ended (megabits c.args.spare) newline) c.requires)

pub returns : goal.returns
returns c =
    let front = puts_then (puts_then c.put_number-second.ensures c.put_number-fields.ensures) c.put_bucket-end.ensures in
    puts_then front (rw (to_z-of_z c.ranges.spare) at c.put_figure.ensures)

-- The three fields are stored one behind the other.
use mir.Facts.{to_z-of_z}
use Rattle.text.specs.PutLaws.{puts_then}
use Rattle.text.proofs.lines.put_trial_line.Goals as goal

pub returns : goal.returns
returns c = puts_then (puts_then c.put_word-second.ensures (rw (to_z-of_z c.ranges.spare) at c.put_figure-third.ensures)) c.put_tokens.ensures

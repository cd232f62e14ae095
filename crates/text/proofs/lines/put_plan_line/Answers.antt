-- The four fields are stored one behind the other.
use Rattle.text.specs.PutLaws.{puts_then}
use Rattle.text.proofs.lines.put_plan_line.Goals as goal

pub returns : goal.returns
returns c = puts_then (puts_then (puts_then c.put_word-counts.ensures c.put_number-second.ensures) c.put_number-third.ensures) c.put_number.ensures

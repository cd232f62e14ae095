-- The three parts are stored one behind the other.
use Rattle.text.specs.PutLaws.{puts_then}
use Rattle.text.proofs.lines.put_single_line.Goals as goal

pub returns : goal.returns
returns c = puts_then (puts_then c.put_word-fields.ensures c.put_bucket-end.ensures) c.put_number.ensures

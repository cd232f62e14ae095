-- The two fields are stored one behind the other.
use Rattle.text.specs.PutLaws.{puts_then}
use Rattle.text.proofs.lines.put_number_line.Goals as goal

pub returns : goal.returns
returns c = puts_then c.put_word-end.ensures c.put_number.ensures

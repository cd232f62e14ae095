-- The two fields are stored one behind the other.
use Rattle.text.specs.PutLaws.{puts_then}
use Rattle.text.proofs.lines.put_bucket.Goals as goal

pub returns : goal.returns
returns c = puts_then c.put_tokens-depth.ensures c.put_tokens.ensures

-- Both parts are as their own checks give them.
use Rattle.terms.proofs.ranges.fresh_in_range.Goals as goal

pub returns : goal.returns
returns c = rw (c.bucket_in_range.ensures, c.factor_in_range.ensures)

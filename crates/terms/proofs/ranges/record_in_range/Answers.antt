-- The range is the run's own and the bucket's as its own check gives it.
use Rattle.terms.proofs.ranges.record_in_range.Goals as goal

pub returns : goal.returns
returns c = rw c.bucket_in_range.ensures

-- The product is at most 1,000 × 1,000,000, so it fits; the quotient is the definition's.
use borrow.Author.Rules.{rules}
use Rattle.bucket.specs.Step.{start_of}
use Rattle.bucket.proofs.period.starting_tokens.Goals as goal

pub returns : goal.returns
unfolding start_of
returns c = search rules

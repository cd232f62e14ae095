-- The bytes still to be stored, stored from the place reached on, give the whole.
use Rattle.encoding.proofs.numbers.put_number.Invariants.{next, end}
use Rattle.encoding.proofs.numbers.put_number.Goals as goal

pub loop-k-preserved : goal.loop-k-preserved
loop-k-preserved c = next _ _ _ _ _ _ _ c.loop-k.invariant c.loop-k-test.true

pub returns : goal.returns
returns c = end _ _ _ _ _ _ _ c.loop-k.invariant c.loop-k-test.false

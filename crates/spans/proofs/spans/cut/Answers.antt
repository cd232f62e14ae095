-- A line with two slopes is one with their difference.
use Rattle.spans.specs.SpanLaws.{cut_rising, cut_falling}
use Rattle.spans.proofs.spans.cut.Goals as goal

pub returns-then-a-d : goal.returns-then-a-d
returns-then-a-d c = cut_rising _ _ _ _ _ _ c.if-a-d.true c.raised.ensures

pub returns-else-a-d : goal.returns-else-a-d
returns-else-a-d c = cut_falling _ _ _ _ _ _ c.if-a-d.false c.lowered.ensures

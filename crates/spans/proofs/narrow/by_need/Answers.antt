-- The cut by the charge and the cut by the cap, one after the other; their products fit.
use Rattle.spans.specs.NarrowLaws.{allows_charge, allows_cap}
use Rattle.spans.specs.SpanLaws.{kept_then, kept_if}
use Rattle.spans.proofs.narrow.by_need.Goals as goal

pub returns : goal.returns
returns c =
    kept_if (λ x a. (allows_charge _ _ _ _ x a, allows_cap _ _ _ _ x a)) (kept_then c.cut-cheap.ensures c.cut.ensures)

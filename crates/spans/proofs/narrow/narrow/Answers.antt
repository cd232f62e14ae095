-- A depth that serves is allowed by the rate's own price and by the line of each need.
use Rattle.spans.specs.NarrowLaws.{serving_rate, serving_stretch, serving_opening}
use Rattle.spans.specs.SpanLaws.{kept_then, kept_if}
use Rattle.spans.proofs.narrow.narrow.Goals as goal

pub returns : goal.returns
returns c =
    let l = c.line_of-held.ensures in
    let m = c.line_of-opened.ensures in
    kept_if (λ x a. ((serving_rate _ _ _ _ x a, serving_stretch _ _ _ _ x a _ l.sum_value l.len_value), serving_opening _ _ _ _ x a _ m.sum_value m.len_value))
    (kept_then (kept_then c.cut-cheap.ensures c.by_need-deep.ensures) c.by_need.ensures)

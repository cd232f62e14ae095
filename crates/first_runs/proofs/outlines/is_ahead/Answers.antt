-- The library orders tuples as the definition does: the first figure that differs decides, the first run's the other
-- way round.
use mathlib.Core.Path.{ap, ◌∙◌}
use mathlib.Core.Bool.{Bool}
use Rattle.single.specs.Preference.{smaller}
use Rattle.single.specs.PreferenceLaws.{smaller-last, tuple-smaller}
use Rattle.first_runs.specs.Outline.{ahead}
use Rattle.first_runs.proofs.outlines.is_ahead.Goals as goal

pub returns : goal.returns
unfolding ahead
returns c =
    let x = c.args.x in
    let y = c.args.y in
    c.lt.ensures ∙ tuple-smaller x.cost x.buckets y.first y.cost y.buckets x.first
    ∙ ap (λ (rest : Bool). smaller x.cost y.cost (smaller x.buckets y.buckets rest)) (smaller-last y.first x.first)

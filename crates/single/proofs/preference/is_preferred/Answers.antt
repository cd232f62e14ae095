-- The library orders tuples as the definition does: the first figure that differs decides.
use mathlib.Core.Path.{◌∙◌}
use Rattle.single.specs.Preference.{preferred}
use Rattle.single.specs.PreferenceLaws.{tuple-smaller}
use Rattle.single.proofs.preference.is_preferred.Goals as goal

pub returns : goal.returns
unfolding preferred
returns c =
    let x = c.args.x in
    let y = c.args.y in
    c.lt.ensures ∙ tuple-smaller x.cost x.bucket.rate.0 x.bucket.depth.0 y.cost y.bucket.rate.0 y.bucket.depth.0

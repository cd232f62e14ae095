-- Where the opening is as it was, the law of a raised stretch by cases: it is above the cap, or not.
use Rattle.first_runs.specs.ChargeLaws.{depth_above, depth_raised}
use Rattle.terms.specs.Answer.{figures}
use mathlib.Core.Path.{ap, ◌∙◌}
use Rattle.first_runs.proofs.charges.depth_after.Goals as goal

pub returns-then-tariff-new : goal.returns-then-tariff-new
returns-then-tariff-new c =
    depth_above c.args.tariff c.args.old c.args.new _ c.requires.value c.if-old-new.false
    c.requires.stretch_le_stretch c.if-tariff-new.true

pub returns : goal.returns
returns c =
    ap figures c.max.ensures
    ∙ depth_raised c.args.tariff c.args.old c.args.new _ c.requires.value c.if-old-new.false
    c.requires.stretch_le_stretch c.if-tariff-new.false

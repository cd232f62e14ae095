-- Either none of the rates can better what is found, or after each turn the rates below the next are weighed.
use Rattle.first_runs.specs.SearchLaws.{searching_on, weighed_none, weighed-over, weighed_then}
use mathlib.Core.Path.{refl}
use native.Mathlib.Omega.{arith}
use mathlib.Core.Path.{sym, ◌∙◌}
use Rattle.first_runs.proofs.runs.Search.weigh_rates.Goals as goal

pub returns-then-not-may_better : goal.returns-then-not-may_better
returns-then-not-may_better c =
    weighed-over _ _ _ _ _ _ _ (omega (arith, c.requires.low_lt_end)) c.requires.searching _
    ((sym refl ∙ c.if-not-may_better.true)) c.may_better.ensures

pub loop-next-init : goal.loop-next-init
loop-next-init c =
    record {
      inside = omega (arith, c.requires.low_lt_end);
      weighed = weighed_none _ _ _ _ _ c.requires.searching;
    }

pub weigh_rate-best-requires : goal.weigh_rate-best-requires
weigh_rate-best-requires c =
    record {
      rate_bound = omega (arith, c.loop-next-test.true, c.requires.end_bound);
      searching = searching_on _ _ _ _ c.requires.searching c.loop-next.invariant.weighed;
    }

pub loop-next-preserved : goal.loop-next-preserved
loop-next-preserved c =
    let k = c.loop-next.invariant in
    record {
      inside = omega (arith, c.loop-next-test.true);
      weighed = weighed_then _ _ _ _ k.weighed c.weigh_rate-best.ensures;
    }

-- After i turns no run of 1 to i periods at these rates is chosen before what is found; where the walk stops, no longer
-- one is.
use native.Mathlib.Nat.{le_trans}
use native.Mathlib.Omega.{arith}
use Rattle.depth.specs.WalkRanges.{range_pushed, range_started}
use Rattle.first_runs.specs.ChargeLaws.{walked_start}
use Rattle.first_runs.specs.WeighLaws.{charge_limit, passing_start, passing_next, passing_stop}
use Rattle.first_runs.proofs.runs.Search.may_better.Goals as goal

pub loop-i-init : goal.loop-i-init
loop-i-init c =
    let w = c.new-walk.ensures in (
      passing_start _ _ _ _ _ _ c.requires.searching _ _ _ (walked_start _ _ _ _ w.walk_value w.depth_value),
      rw w.walk_value range_started,
    )

pub returns-then-self-i : goal.returns-then-self-i
returns-then-self-i c =
    λ e. passing_stop _ _ _ _ _ _ c.requires.searching _ _ _ _ _ c.loop-i.invariant.0
    c.loop-i-test.true c.push-walk.ensures c.if-self-i.true

pub cost_with-requires : goal.cost_with-requires
cost_with-requires c =
    let k = c.requires.searching in
    let w = c.loop-i.invariant.0.walk in
    let slow = le_trans c.requires.low_le_high c.requires.high_bound in
    record {
      tariff_range = k.rests.tariffs;
      i_lt_trace_limit = omega (arith, c.loop-i-test.true, k.rests.few);
      charge_le_period_limit =
          charge_limit _ _ _ _ _ _ k _ _ _ _ _ w c.loop-i-test.true c.push-walk.ensures slow c.if-self-i.false;
      rest_le_unpriced = k.rests.cost _ c.loop-i-test.true;
    }

pub loop-i-preserved : goal.loop-i-preserved
loop-i-preserved c =
    let k = c.requires.searching in
    let slow = le_trans c.requires.high_bound k.rests.tariffs.rate_caps in (
      passing_next _ _ _ _ _ _ k _ _ _ _ _ c.loop-i.invariant.0 c.loop-i-test.true c.push-walk.ensures
          c.if-self-i.false (omega (arith, c.if-cost_with-found.false, c.cost_with.ensures)),
      rw c.push-walk.ensures.walked (range_pushed _ _ c.loop-i.invariant.1 slow (omega arith)),
    )

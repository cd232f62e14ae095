-- After i turns the runs of 1 to i periods are weighed at this rate; where the walk stops, the longer ones cost more.
use native.Mathlib.Nat.{le_trans}
use native.Mathlib.Omega.{arith}
use Rattle.depth.specs.WalkRanges.{range_pushed, range_started}
use Rattle.first_runs.specs.ChargeLaws.{walked_start}
use Rattle.first_runs.specs.WeighLaws.{charge_limit, weighing_start, weighing_next, weighing_stop}
use Rattle.first_runs.proofs.runs.Search.weigh_rate.Goals as goal

pub loop-i-init : goal.loop-i-init
loop-i-init c =
    let w = c.new-walk.ensures in (
      weighing_start _ _ _ _ _ _ c.requires.searching _ _ (walked_start _ _ _ _ w.walk_value w.depth_value),
      rw w.walk_value range_started,
    )

pub returns-then-self-i : goal.returns-then-self-i
returns-then-self-i c =
    weighing_stop _ _ _ _ _ _ c.requires.searching _ _ _ _ c.loop-i.invariant.0
    _ c.loop-i-test.true c.push-walk.ensures c.if-self-i.true

pub cost_with-requires : goal.cost_with-requires
cost_with-requires c =
    let k = c.requires.searching in
    let w = c.loop-i.invariant.0.walk in
    record {
      tariff_range = k.rests.tariffs;
      i_lt_trace_limit = omega (arith, c.loop-i-test.true, k.rests.few);
      charge_le_period_limit =
          charge_limit _ _ _ _ _ _ k _ _ _ _ _ w c.loop-i-test.true c.push-walk.ensures c.requires.rate_bound
          c.if-self-i.false;
      rest_le_unpriced = k.rests.cost _ c.loop-i-test.true;
    }

pub loop-i-preserved : goal.loop-i-preserved
loop-i-preserved c =
    let k = c.requires.searching in
    let slow = le_trans c.requires.rate_bound k.rests.tariffs.rate_caps in (
      weighing_next _ _ _ _ _ _ k _ _ _ _ c.loop-i.invariant.0 _ c.loop-i-test.true c.push-walk.ensures
          c.requires.rate_bound c.if-self-i.false _ c.cost_with.ensures _ c.better_of-best.ensures,
      rw c.push-walk.ensures.walked (range_pushed _ _ c.loop-i.invariant.1 slow (omega arith)),
    )

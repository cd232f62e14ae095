-- After each turn the rates below `low`, or all of them, are weighed.
use Prim.Native.Nat.{min}
use mathlib.Core.Path.{◌≡◌, ◌∙◌}
use borrow.Author.Rules.{rules}
use Rattle.first_runs.specs.SearchLaws.{searching_on, weighed_none, weighed_then}
use Rattle.single.specs.Rates.{greatest}
use native.Mathlib.Nat.{min-le_left}
use native.Mathlib.Omega.{arith}
use Rattle.first_runs.proofs.search.weigh_all.Goals as goal

pub loop-low-init : goal.loop-low-init
loop-low-init c =
    let e : min 0 c.rates_to_weigh-end.result ≡ 0 = omega arith in
    record { inside = omega arith; weighed = rw e (weighed_none _ _ _ _ _ c.requires) }

pub weigh_rates-best-requires : goal.weigh_rates-best-requires
weigh_rates-best-requires c =
    let e : min c.loop-low.low c.rates_to_weigh-end.result ≡ c.loop-low.low = omega (arith, c.loop-low-test.true) in
    record {
      low_lt_end = omega (arith, c.min-next.ensures, c.loop-low-test.true);
      end_bound =
          omega
          (arith, c.min-next.ensures, c.rates_to_weigh-end.ensures, min-le_left c.args.search.tariff.rate_cap.0 (greatest c.args.search.trace.now));
      searching = searching_on _ _ _ _ c.requires (rw e at c.loop-low.invariant.weighed);
    }

pub loop-low-preserved : goal.loop-low-preserved
loop-low-preserved c =
    let e : min c.loop-low.low c.rates_to_weigh-end.result ≡ c.loop-low.low = omega (arith, c.loop-low-test.true) in
    let w = weighed_then _ _ _ _ (rw e at c.loop-low.invariant.weighed) c.weigh_rates-best.ensures in
    record { inside = omega arith; weighed = rw c.min-next.ensures at w }

pub returns : goal.returns
returns c =
    let e : min c.loop-low.low c.rates_to_weigh-end.result ≡ c.rates_to_weigh-end.result = omega (arith, c.loop-low-test.false) in
    let w = rw e at c.loop-low.invariant.weighed in
    search rules

-- where no step follows, all rates are weighed
pub returns-2 : goal.returns-2
returns-2 c =
    let e : min c.loop-low.low c.rates_to_weigh-end.result ≡ c.loop-low.low = omega (arith, c.loop-low-test.true) in
    let w = weighed_then _ _ _ _ (rw e at c.loop-low.invariant.weighed) c.weigh_rates-best.ensures in
    let f : c.min-next.result ≡ c.rates_to_weigh-end.result = omega (arith, c.min-next.ensures) in
    rw (f ∙ c.rates_to_weigh-end.ensures) at w

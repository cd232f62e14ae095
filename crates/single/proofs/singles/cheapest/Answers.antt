-- After k turns the best of the first k candidate rates is found. At the end those above are never preferred; and once
-- the rates left cost more than what is found, even at depth 0, they never are either.
use Prim.Native.Nat.{ℕ, ◌+◌, ◌≤◌, ◌<◌}
use native.Mathlib.Omega.{arith}
use native.Mathlib.Nat.{le_antisymm, le_trans}
use mathlib.Core.Path.{◌≡◌, refl, sym, ap, ◌∙◌}
use mathlib.Core.List.{List}
use borrow.Author.Tests.{le-leb}
use lib.ListN.{length}
use Rattle.terms.specs.declared.Tariff.{Tariff}
use Rattle.terms.specs.Answer.{Answer, figures, refused}
use Rattle.terms.specs.RangeRules.{BucketRange, PeriodsRange, TariffRange}
use Rattle.terms.specs.RangeLaws.{tariff_ok_lem, periods_ok_lem}
use Rattle.terms.specs.Bools.{both_and}
use Rattle.terms.specs.Refusals.{says}
use Rattle.depth.specs.Depth.{tariff_depth, depth_of}
use Rattle.depth.specs.DepthLaws.{depth_in_range, depth-within}
use Rattle.single.specs.declared.costs.Priced.{Priced}
use Rattle.single.specs.Cost.{priced_at}
use Rattle.single.specs.Rates.{dearer, weighed}
use Rattle.single.specs.Single.{better, best_of, bucket_of}
use Rattle.single.specs.BestLaws.{best_next}
use Rattle.single.specs.RateLaws.{inside_cap, weighed-enough, dearer-enough}
use Rattle.single.proofs.singles.cheapest.Goals as goal

module _ (t : Tariff) (ds : List ℕ) (n : PeriodsRange (length ds)) (h : TariffRange t) (k end : ℕ) (e : end ≡ weighed t ds) (l : k < end) where
  slow : k ≤ t.rate_cap.0
  slow = inside_cap t ds _ _ e l

  -- The depth call answers what the rate is weighed at.
  there : {a : Answer ℕ} → a ≡ depth_of t k ds → a ≡ tariff_depth t k ds
  there f = f ∙ depth_in_range t k ds (periods_ok_lem _ n) (both_and (tariff_ok_lem t h) (le-leb _ _ slow))

  flat : BucketRange (bucket_of k 0)
  flat = record { rates = le_trans slow h.rate_caps; depths = omega arith }

  module _ {best : Answer Priced} (so_far : best ≡ best_of t ds k) where
    passed : {m : ℕ} → refused m ≡ depth_of t k ds → best ≡ best_of t ds (k + 1)
    passed f = best_next _ _ _ (refused _) _ (there f) so_far

    module _ {B : ℕ} (f : figures B ≡ depth_of t k ds) where
      deep : BucketRange (bucket_of k B)
      deep =
          record {
            rates = le_trans slow h.rate_caps;
            depths = le_trans (depth-within _ _ _ _ _ (sym (there f))) h.depth_caps;
          }

      next : {here : Priced} {new : Answer Priced} → here ≡ priced_at t (length ds) (bucket_of k B)
          → new ≡ better best (figures here) → new ≡ best_of t ds (k + 1)
      next p q = q ∙ ap (λ (x : Priced). better best (figures x)) p ∙ best_next _ _ _ (figures _) _ (there f) so_far

pub loop-next-init : goal.loop-next-init
unfolding best_of
loop-next-init c = refl

pub loop-next-preserved-in_default : goal.loop-next-preserved-in_default
loop-next-preserved-in_default c =
    passed _ _ c.requires.periods_range c.requires.tariff_range _ _ c.rates_to_weigh-end.ensures c.loop-next-test.true
    c.loop-next.invariant c.in_default.ensures

pub with_cost-here-requires : goal.with_cost-here-requires
with_cost-here-requires c =
    record {
      tariff_range = c.requires.tariff_range;
      periods_le_trace_limit = c.requires.periods_range.few;
      bucket_range =
          deep _ _ c.requires.periods_range c.requires.tariff_range _ _ c.rates_to_weigh-end.ensures
          c.loop-next-test.true
          c.loop-next.invariant c.in-Ok.ensures;
    }

pub returns-then-costs_less : goal.returns-then-costs_less
returns-then-costs_less c =
    let below : c.loop-next.next ≤ c.args.tariff.rate_cap.0 =
    slow _ _ c.requires.periods_range c.requires.tariff_range _ _ c.rates_to_weigh-end.ensures c.loop-next-test.true in
    dearer-enough _ _ _ _
    (next _ _ c.requires.periods_range c.requires.tariff_range _ _ c.rates_to_weigh-end.ensures c.loop-next-test.true
    c.loop-next.invariant c.in-Ok.ensures c.with_cost-here.ensures c.better_of-best.ensures)
    (ap (λ (x : Priced). dearer x (says c.better_of-best.result)) (sym c.with_cost-floor.ensures) ∙ sym c.costs_less.ensures ∙ c.if-costs_less.true)
    (omega (arith, below))

pub loop-next-preserved : goal.loop-next-preserved
loop-next-preserved c =
    next _ _ c.requires.periods_range c.requires.tariff_range _ _ c.rates_to_weigh-end.ensures c.loop-next-test.true
    c.loop-next.invariant c.in-Ok.ensures c.with_cost-here.ensures c.better_of-best.ensures

pub returns : goal.returns
returns c =
    let e = le_antisymm c.loop-next.auto.next-end c.loop-next-test.false in
    c.loop-next.invariant ∙ ap (best_of _ _) (e ∙ c.rates_to_weigh-end.ensures) ∙ weighed-enough _ _

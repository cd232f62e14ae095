-- Costs and counts of a cutting are bounded by the periods, and costs never reach what stands for none.
-- Assumes nothing.
use Rattle.std.specs.Prelude.{ℕ, ◌+◌, ◌*◌, ◌≤◌, ◌<◌, List, length}
use native.Mathlib.Omega.{arith}
use Rattle.std.proofs.Math.Nat.{le_trans}
use Rattle.std.proofs.Common.{le_of_lt}
use Rattle.std.proofs.Math.ListN.{length-drop}
use Rattle.terms.specs.declared.Tariff.{Tariff}
use Rattle.terms.specs.Answer.{Answer, figures, refused}
use Rattle.terms.specs.Limits.{fee_limit, trace_limit}
use Rattle.terms.specs.RangeRules.{TariffRange}
use Rattle.terms.specs.Records.{Cutting, total}
use Rattle.single.specs.CostLaws.{period_limit, cost-le}
use Rattle.first_runs.specs.Outline.{unpriced}
use Rattle.series.specs.Cutting.{none, run}
use Rattle.series.specs.Series.{true_cost_of, Carried}
use Rattle.series.specs.SeriesLaws.{IsSeries}
use Rattle.series.specs.Outline.{outline_of}

pub carried-count : (t : Tariff) {ds : List ℕ} {xs : Cutting} → Carried t ds xs → length xs ≤ length ds
carried-count t none = omega arith
carried-count t (run {ds} {x} {xs} f c) = omega (arith, f.some, f.inside, carried-count t c, length-drop x.periods ds)

module _ (t : Tariff) (h : TariffRange t) where
  pub carried-cost : {ds : List ℕ} {xs : Cutting} → Carried t ds xs
      → true_cost_of t xs ≤ (period_limit + fee_limit) * length ds
  unfolding total
  carried-cost none = omega arith
  carried-cost (run {ds} {x} {xs} f c) =
      let s = f.fits in
      let p =
      cost-le {t = t} {b = x.bucket} h (record { rates = le_trans s.rates h.rate_caps; depths = le_trans s.depths h.depth_caps }) x.periods in
      omega (arith, p, f.some, f.inside, carried-cost c, length-drop x.periods ds)

  pub carried-below : {ds : List ℕ} {xs : Cutting} → length ds ≤ trace_limit → Carried t ds xs
      → true_cost_of t xs < unpriced
  carried-below few c = omega (arith, carried-cost c)

  pub outline_cost : (ds : List ℕ) → length ds ≤ trace_limit → (a : Answer Cutting) → IsSeries t ds a
      → (outline_of t a).cost ≤ unpriced
  outline_cost ds few (figures xs) k = le_of_lt (carried-below few k.kind)
  outline_cost ds few (refused n) k = omega arith

  pub outline_count : (ds : List ℕ) → length ds ≤ trace_limit → (a : Answer Cutting) → IsSeries t ds a
      → (outline_of t a).buckets ≤ trace_limit
  outline_count ds few (figures xs) k = le_trans (carried-count t k.kind) few
  outline_count ds few (refused n) k = omega arith

-- Each range as orders of numbers, a field for each (01, "The tariff and its ranges").
-- That it is equivalent to its test in `Ranges` is a law (`RangeLaws`).
-- Assumes nothing.
use Rattle.std.specs.Prelude.{ℕ, ◌≤◌}
use Rattle.terms.specs.declared.Factor.{Factor}
use Rattle.terms.specs.declared.Bucket.{Bucket}
use Rattle.terms.specs.declared.BucketRecord.{BucketRecord}
use Rattle.terms.specs.declared.Tariff.{Tariff}
use Rattle.terms.specs.Limits.{rate_limit, depth_limit, price_limit, fee_limit, parts_limit, trace_limit}

pub record FactorRange (f : Factor) : Type 0 where
  pub part : f.p ≤ f.q
  pub some : 1 ≤ f.q
  pub few : f.q ≤ parts_limit

pub record BucketRange (b : Bucket) : Type 0 where
  pub rates : b.rate.0 ≤ rate_limit
  pub depths : b.depth.0 ≤ depth_limit

pub record FreshRange (b : Bucket) (f : Factor) : Type 0 where
  pub bucket : BucketRange b
  pub factor : FactorRange f

pub record RecordRange (x : BucketRecord) : Type 0 where
  pub some : 1 ≤ x.periods
  pub bucket : BucketRange x.bucket

pub record TariffRange (t : Tariff) : Type 0 where
  pub rate_prices : t.rate_price.0 ≤ price_limit
  pub depth_prices : t.depth_price.0 ≤ price_limit
  pub fees : t.fee ≤ fee_limit
  pub factor : FactorRange t.factor
  pub rate_caps : t.rate_cap.0 ≤ rate_limit
  pub depth_caps : t.depth_cap.0 ≤ depth_limit

-- T
pub record PeriodsRange (n : ℕ) : Type 0 where
  pub some : 1 ≤ n
  pub few : n ≤ trace_limit

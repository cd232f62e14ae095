-- Each range as orders of numbers (`RangeRules`) is equivalent to its test (`Ranges`).
-- Assumes nothing.
use Rattle.std.specs.Prelude.{ℕ, ◌≡◌, true, leb}
use Rattle.std.proofs.Common.{arith, leb-true, le-leb}
use Rattle.terms.specs.declared.Factor.{Factor}
use Rattle.terms.specs.declared.Bucket.{Bucket}
use Rattle.terms.specs.declared.BucketRecord.{BucketRecord}
use Rattle.terms.specs.declared.Tariff.{Tariff}
use Rattle.terms.specs.Limits.{rate_limit, depth_limit, price_limit, fee_limit, parts_limit, trace_limit}
use Rattle.terms.specs.Ranges.{factor_ok, bucket_ok, fresh_ok, record_ok, tariff_ok, periods_ok}
use Rattle.terms.specs.RangeRules.{FactorRange, BucketRange, FreshRange, RecordRange, TariffRange, PeriodsRange}
use Rattle.terms.specs.Bools.{and_both, and_three, and_six, both_and}

pub factor_range : (f : Factor) → factor_ok f ≡ true → FactorRange f
factor_range f h =
    let k = and_three (leb f.p f.q) (leb 1 f.q) (leb f.q parts_limit) h in
    omega (arith, leb-true)

pub factor_ok_lem : (f : Factor) → FactorRange f → factor_ok f ≡ true
factor_ok_lem f k = both_and (both_and (le-leb _ _ k.part) (le-leb _ _ k.some)) (le-leb _ _ k.few)

pub bucket_range : (b : Bucket) → bucket_ok b ≡ true → BucketRange b
bucket_range b h = let k = and_both (leb b.rate.0 rate_limit) (leb b.depth.0 depth_limit) h in omega (arith, leb-true)

pub bucket_ok_lem : (b : Bucket) → BucketRange b → bucket_ok b ≡ true
bucket_ok_lem b k = both_and (le-leb _ _ k.rates) (le-leb _ _ k.depths)

pub record_range : (x : BucketRecord) → record_ok x ≡ true → RecordRange x
record_range x h =
    let k = and_both (leb 1 x.periods) (bucket_ok x.bucket) h in
    record { some = leb-true _ _ k.0; bucket = bucket_range x.bucket k.1 }

pub record_ok_lem : (x : BucketRecord) → RecordRange x → record_ok x ≡ true
record_ok_lem x k = both_and (le-leb _ _ k.some) (bucket_ok_lem x.bucket k.bucket)

pub fresh_range : (b : Bucket) (f : Factor) → fresh_ok b f ≡ true → FreshRange b f
fresh_range b f h =
    let k = and_both (bucket_ok b) (factor_ok f) h in
    record { bucket = bucket_range b k.0; factor = factor_range f k.1 }

pub fresh_ok_lem : (b : Bucket) (f : Factor) → FreshRange b f → fresh_ok b f ≡ true
fresh_ok_lem b f k = both_and (bucket_ok_lem b k.bucket) (factor_ok_lem f k.factor)

pub tariff_range : (t : Tariff) → tariff_ok t ≡ true → TariffRange t
tariff_range t h =
    let k = and_six (leb t.rate_price.0 price_limit) (leb t.depth_price.0 price_limit) (leb t.fee fee_limit) (factor_ok t.factor) (leb t.rate_cap.0 rate_limit) (leb t.depth_cap.0 depth_limit) h in
    record {
      rate_prices = leb-true _ _ k.0;
      depth_prices = leb-true _ _ k.1;
      fees = leb-true _ _ k.2;
      factor = factor_range t.factor k.3;
      rate_caps = leb-true _ _ k.4;
      depth_caps = leb-true _ _ k.5;
    }

pub tariff_ok_lem : (t : Tariff) → TariffRange t → tariff_ok t ≡ true
tariff_ok_lem t k =
    let prices = both_and (le-leb _ _ k.rate_prices) (le-leb _ _ k.depth_prices) in
    let figures = both_and (both_and prices (le-leb _ _ k.fees)) (factor_ok_lem t.factor k.factor) in
    both_and (both_and figures (le-leb _ _ k.rate_caps)) (le-leb _ _ k.depth_caps)

pub periods_range : (n : ℕ) → periods_ok n ≡ true → PeriodsRange n
periods_range n h = let k = and_both (leb 1 n) (leb n trace_limit) h in omega (arith, leb-true)

pub periods_ok_lem : (n : ℕ) → PeriodsRange n → periods_ok n ≡ true
periods_ok_lem n k = both_and (le-leb _ _ k.some) (le-leb _ _ k.few)

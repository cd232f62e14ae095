-- The ranges of the figures (01, "The tariff and its ranges").
-- Assumes nothing.
use Rattle.std.specs.Prelude.{ℕ, Bool, ◌&&◌, leb}
use Rattle.terms.specs.Limits.{rate_limit, depth_limit, price_limit, fee_limit, parts_limit, trace_limit}
use Rattle.terms.specs.declared.Factor.{Factor}
use Rattle.terms.specs.declared.Bucket.{Bucket}
use Rattle.terms.specs.declared.BucketRecord.{BucketRecord}
use Rattle.terms.specs.declared.Tariff.{Tariff}

-- p 0..q; q 1..1,000
abbrev pub factor_ok : Factor → Bool
factor_ok f = leb f.p f.q && leb 1 f.q && leb f.q parts_limit

-- rate at most 4,095 and depth at most 1,000,000: a bucket for a trial or a meter, or in a plan
abbrev pub bucket_ok : Bucket → Bool
bucket_ok b = leb b.rate.0 rate_limit && leb b.depth.0 depth_limit

-- a bucket that can be set up fresh with a factor
abbrev pub fresh_ok : Bucket → Factor → Bool
fresh_ok b f = bucket_ok b && factor_ok f

-- a bucket record of a plan: a run of at least 1 period and a bucket in its range
abbrev pub record_ok : BucketRecord → Bool
record_ok x = leb 1 x.periods && bucket_ok x.bucket

-- the seven figures in the paper's order: rate price and depth price 0..65,535; setup fee 0..1,000,000,000; p and q;
-- rate cap 0..4,095; depth cap 0..1,000,000
abbrev pub tariff_ok : Tariff → Bool
tariff_ok t =
    leb t.rate_price.0 price_limit && leb t.depth_price.0 price_limit && leb t.fee fee_limit && factor_ok t.factor
    && leb t.rate_cap.0 rate_limit && leb t.depth_cap.0 depth_limit

-- T is 1..512
abbrev pub periods_ok : ℕ → Bool
periods_ok n = leb 1 n && leb n trace_limit

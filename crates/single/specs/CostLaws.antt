-- Cost never falls as the rate or the depth grows, and it is bounded by the limits of the figures; and which charges a
-- cost rules out.
-- Assumes nothing.
use Rattle.std.specs.Prelude.{ℕ, ◌+◌, ◌-◌, ◌*◌, ◌/◌, ◌≤◌, ◌<◌, ◌≡◌}
use Rattle.std.proofs.Common.{arith, mul-le-mul, mul-le-mul_left, mul-le-mul_right, le-add_right, le_refl, le-div_iff_mul-le, ap}
use Rattle.std.proofs.Math.Nat.{add-le-add}
use Rattle.terms.specs.declared.Bucket.{Bucket}
use Rattle.terms.specs.declared.Tariff.{Tariff}
use Rattle.terms.specs.Limits.{rate_limit, depth_limit, price_limit, fee_limit}
use Rattle.terms.specs.RangeRules.{BucketRange, TariffRange}
use Rattle.spans.specs.Narrow.{charge_end}
use Rattle.single.specs.declared.costs.Priced.{Priced}
use Rattle.single.specs.Cost.{billed, charge_of, cost_at, cost_of, priced_at}

-- A bucket with its cost, from its cost being its own.
pub priced_is : (t : Tariff) (n : ℕ) (x : Priced) → x.cost ≡ cost_of t n x.bucket → x ≡ priced_at t n x.bucket
priced_is t n x e = ap (λ (c : ℕ). record { bucket = x.bucket; cost = c }) e

pub cost_mono : (t : Tariff) (n : ℕ) (b c : Bucket) → b.rate.0 ≤ c.rate.0 → b.depth.0 ≤ c.depth.0
    → cost_of t n b ≤ cost_of t n c
unfolding cost_of
cost_mono t n b c h k =
    let l = add-le-add (mul-le-mul_left t.rate_price.0 h) (mul-le-mul_left t.depth_price.0 k) in
    omega (arith, mul-le-mul_right n l)

-- Cost is never below rate price × r × T + F, which is the cost at depth 0.
pub cost_floor : (t : Tariff) (n : ℕ) (b : Bucket) → t.rate_price.0 * b.rate.0 * n + t.fee ≤ cost_of t n b
unfolding cost_of
cost_floor t n b =
    add-le-add (mul-le-mul_right n (le-add_right (t.rate_price.0 * b.rate.0) (t.depth_price.0 * b.depth.0))) (le_refl t.fee)

-- The greatest charge.
abbrev pub period_limit : ℕ
period_limit = price_limit * rate_limit + price_limit * depth_limit

module _ {t : Tariff} {b : Bucket} (h : TariffRange t) (k : BucketRange b) where
  pub rate-part : t.rate_price.0 * b.rate.0 ≤ price_limit * rate_limit
  rate-part = mul-le-mul h.rate_prices k.rates

  pub depth-part : t.depth_price.0 * b.depth.0 ≤ price_limit * depth_limit
  depth-part = mul-le-mul h.depth_prices k.depths

  pub charge_le : charge_of t b ≤ period_limit
  charge_le = add-le-add rate-part depth-part

  pub cost-le : (n : ℕ) → cost_of t n b ≤ period_limit * n + fee_limit
  unfolding cost_of
  cost-le n = add-le-add (mul-le-mul_right n charge_le) h.fees

-- ---- From a cost to the charges that are too dear for it

-- What bounds the costs that are compared.
abbrev pub rest_limit : ℕ
rest_limit = 2000000000000000000

-- A run of n periods that costs, with the rest, no more than `most` charges less than `dear`.
pub record Dear (t : Tariff) (n rest most dear : ℕ) : Type 0 where
  pub few : dear ≤ charge_end
  pub less : (c : ℕ) → c ≤ period_limit → cost_at t n c + rest ≤ most → c < dear

pub dear_some : (t : Tariff) (n rest most : ℕ) → 1 ≤ n → (d : ℕ) → d ≡ (most - (t.fee + rest)) / billed t n + 1
    → d ≤ charge_end → Dear t n rest most d
dear_some t n rest most some d e h =
    record {
      few = h;
      less = λ c l m.
          let k : c ≤ (most - (t.fee + rest)) / billed t n = (le-div_iff_mul-le some).1 (omega arith) in
          omega (arith, e);
    }

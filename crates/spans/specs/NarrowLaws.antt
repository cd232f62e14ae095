-- What a bucket that carries a trace says of the parts of a walk at any rate, and what these say of the lines that cut.
-- Assumes nothing.
use Rattle.std.specs.Prelude.{ℕ, ◌+◌, ◌*◌, ◌≤◌, ◌<◌, true, List, ◌≡◌, take}
use Rattle.std.proofs.Common.{arith, le_trans, mul-le-mul, mul-le-mul_left}
use Rattle.terms.specs.declared.Factor.{Factor}
use Rattle.terms.specs.declared.Tariff.{Tariff}
use Rattle.terms.specs.Limits.{demand_limit, rate_limit, trace_limit, price_limit, parts_limit, depth_limit}
use Rattle.terms.specs.RangeRules.{FactorRange, TariffRange}
use Rattle.bucket.specs.Laws.{start_le}
use Rattle.bucket.specs.Step.{start_of}
use Rattle.bucket.specs.Trace.{carries}
use Rattle.depth.specs.Walk.{walk_of}
use Rattle.depth.specs.CeilingLaws.{start_holds}
use Rattle.depth.specs.WalkLaws.{Enough, carried-enough}
use Rattle.spans.specs.declared.narrow.Line.{Line}
use Rattle.spans.specs.declared.parts.Parts.{Parts}
use Rattle.spans.specs.Narrow.{Allows, LineRange, Serving, charge_end}
use Rattle.spans.specs.Parts.{PartsAt}

-- A bucket inside the cap that carries the periods walked and charges less than `dear` leaves its rate possible,
-- at whatever rate the walk was.
pub carried_serving : (t : Tariff) → FactorRange t.factor → (r : ℕ) (ds : List ℕ) (i : ℕ) (s : Parts)
    → PartsAt r ds i s → (x B dear : ℕ)
    → carries t.factor.p t.factor.q x B (take i ds) ≡ true → B ≤ t.depth_cap.0 → t.rate_price.0 * x + t.depth_price.0 * B < dear
    → Serving t r s dear x
carried_serving t h r ds i s k x B dear c m d =
    let p = t.factor.p in
    let q = t.factor.q in
    let w = walk_of x (take i ds) in
    let n : Enough B (start_of p q B) w = carried-enough x (start_le p q B h.part) (take i ds) c in
    let o : w.opening * q ≤ p * B = start_holds p q w.opening B h.some n.opens in
    record {
      depth = B;
      capped = m;
      cheap = d;
      stretch = omega (arith, (k.below x).stretch, n.stretches);
      opening = omega (arith, mul-le-mul_left q (k.below x).opening, o);
    }

-- ---- The lines that cut

module _ (t : Tariff) (f : Factor) (l : Line) (dear x : ℕ) (a : Allows t f l dear x) where
  pub allows_charge : f.p * t.rate_price.0 * x + (t.depth_price.0 * f.q * l.sum + f.p) ≤ f.p * dear + t.depth_price.0 * f.q * l.len * x
  allows_charge =
      let D = t.depth_price.0 in
      let c : t.rate_price.0 * x + D * a.depth + 1 ≤ dear = omega (arith, a.cheap) in
      omega (arith, mul-le-mul_left D a.met, mul-le-mul_left f.p c)

  pub allows_cap : 0 * x + f.q * l.sum ≤ f.p * t.depth_cap.0 + f.q * l.len * x
  allows_cap = omega (arith, a.met, mul-le-mul_left f.p a.capped)

module _ (t : Tariff) (r : ℕ) (s : Parts) (dear x : ℕ) (a : Serving t r s dear x) where
  pub serving_rate : t.rate_price.0 * x + 1 ≤ dear + 0 * x
  serving_rate = omega (arith, a.cheap)

  pub serving_stretch : (l : Line) → l.sum ≡ s.walk.stretch + r * s.stretch → l.len ≡ s.stretch
      → Allows t (record { p = 1; q = 1 }) l dear x
  serving_stretch l e f = record { depth = a.depth; capped = a.capped; cheap = a.cheap; met = rw (e, f) (omega (arith, a.stretch)) }

  pub serving_opening : (l : Line) → l.sum ≡ s.walk.opening + r * s.opening → l.len ≡ s.opening
      → Allows t t.factor l dear x
  serving_opening l e f = record { depth = a.depth; capped = a.capped; cheap = a.cheap; met = rw (e, f) a.opening }

-- ---- Ranges

pub line_range : (need r len : ℕ) (l : Line) → need ≤ demand_limit * trace_limit → r ≤ rate_limit → len ≤ trace_limit
    → l.sum ≡ need + r * len → l.len ≡ len → LineRange l
line_range need r len l h k m e f = record { sums = omega (arith, e, mul-le-mul k m); few = omega (arith, f) }

-- The products of a line fit.
pub record Fit (t : Tariff) (f : Factor) (l : Line) (dear : ℕ) : Type 0 where
  pub price : f.p * t.rate_price.0 ≤ parts_limit * price_limit
  pub deep : t.depth_price.0 * f.q ≤ price_limit * parts_limit
  pub deep_sum : t.depth_price.0 * f.q * l.sum ≤ price_limit * parts_limit * ((demand_limit + rate_limit) * trace_limit)
  pub deep_len : t.depth_price.0 * f.q * l.len ≤ price_limit * parts_limit * trace_limit
  pub dears : f.p * dear ≤ parts_limit * charge_end
  pub caps : f.p * t.depth_cap.0 ≤ parts_limit * depth_limit
  pub sums : f.q * l.sum ≤ parts_limit * ((demand_limit + rate_limit) * trace_limit)
  pub lens : f.q * l.len ≤ parts_limit * trace_limit

pub fit : {t : Tariff} {f : Factor} {l : Line} {dear : ℕ} → TariffRange t → FactorRange f → LineRange l
    → dear ≤ charge_end → Fit t f l dear
fit h k r m =
    let part = le_trans k.part k.few in
    let deep = mul-le-mul h.depth_prices k.few in
    record {
      price = mul-le-mul part h.rate_prices;
      deep = deep;
      deep_sum = mul-le-mul deep r.sums;
      deep_len = mul-le-mul deep r.few;
      dears = mul-le-mul part m;
      caps = mul-le-mul part h.depth_caps;
      sums = mul-le-mul k.few r.sums;
      lens = mul-le-mul k.few r.few;
    }

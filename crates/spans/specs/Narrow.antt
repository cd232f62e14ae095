-- Which rates the parts of a walk leave: those at which some depth is large enough for them and not too dear.
-- Assumes nothing.
use Rattle.std.specs.Prelude.{ℕ, ◌+◌, ◌*◌, ◌≤◌, ◌<◌}
use Rattle.terms.specs.declared.Factor.{Factor}
use Rattle.terms.specs.declared.Tariff.{Tariff}
use Rattle.terms.specs.Limits.{demand_limit, rate_limit, trace_limit}
use Rattle.spans.specs.declared.narrow.Line.{Line}
use Rattle.spans.specs.declared.parts.Parts.{Parts}

-- Above every charge (what a bucket costs in a period, without the fee).
abbrev pub charge_end : ℕ
charge_end = 100000000000

pub record LineRange (l : Line) : Type 0 where
  pub sums : l.sum ≤ (demand_limit + rate_limit) * trace_limit
  pub few : l.len ≤ trace_limit

-- At rate x a depth inside the cap charges less than `dear`, and p / q of it holds the need.
pub record Allows (t : Tariff) (f : Factor) (l : Line) (dear x : ℕ) : Type 0 where
  pub depth : ℕ
  pub capped : depth ≤ t.depth_cap.0
  pub cheap : t.rate_price.0 * x + t.depth_price.0 * depth < dear
  pub met : f.q * l.sum ≤ f.p * depth + f.q * l.len * x

-- … and meets both needs of a walk at rate r: the whole depth holds the stretch, a fresh bucket the opening.
pub record Serving (t : Tariff) (r : ℕ) (s : Parts) (dear x : ℕ) : Type 0 where
  pub depth : ℕ
  pub capped : depth ≤ t.depth_cap.0
  pub cheap : t.rate_price.0 * x + t.depth_price.0 * depth < dear
  pub stretch : s.walk.stretch + r * s.stretch ≤ depth + x * s.stretch
  pub opening : t.factor.q * (s.walk.opening + r * s.opening) ≤ t.factor.p * depth + t.factor.q * s.opening * x

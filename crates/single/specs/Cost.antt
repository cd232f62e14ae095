-- What a bucket costs (01, "Single").
-- Assumes nothing.
use Rattle.std.specs.Prelude.{ℕ, ◌+◌, ◌*◌}
use Rattle.terms.specs.declared.Bucket.{Bucket}
use Rattle.terms.specs.declared.Tariff.{Tariff}
use Rattle.single.specs.declared.costs.Priced.{Priced}

-- The charge, our term: what a bucket costs in a period, without the fee. Rate price × r + depth price × B.
abbrev pub charge_of : Tariff → Bucket → ℕ
charge_of t b = t.rate_price.0 * b.rate.0 + t.depth_price.0 * b.depth.0

-- The periods that a run of n periods is billed for: its exact length (01, "Series").
abbrev pub billed : Tariff → ℕ → ℕ
billed t n = n

-- What a run of n periods costs at a charge: that for each period billed, and F.
abbrev pub cost_at : Tariff → ℕ → ℕ → ℕ
cost_at t n charge = charge * billed t n + t.fee

-- Cost = (rate price × r + depth price × B) × T + F, for n periods.
unfoldable pub cost_of : Tariff → ℕ → Bucket → ℕ
cost_of t n b = cost_at t n (charge_of t b)

-- A bucket with its cost.
abbrev pub priced_at : Tariff → ℕ → Bucket → Priced
priced_at t n b = record { bucket = b; cost = cost_of t n b }

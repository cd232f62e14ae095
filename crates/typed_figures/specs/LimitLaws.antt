-- The limits by the place of a figure.
-- Assumes nothing.
use Rattle.std.specs.Prelude.{ℕ, zero, suc, ◌≤◌, ◌<◌, ◌≡◌, refl}
use Rattle.std.proofs.Common.{arith, sym}
use Rattle.std.proofs.Math.ListN.{get_or-eq_default}
use Rattle.terms.specs.Limits.{price_limit, parts_limit, demand_limit}
use Rattle.typed_figures.specs.Figures.{tariff_limits, limit_of}

pub limit_price : (i : ℕ) → i < 2 → price_limit ≡ limit_of i
limit_price zero l = refl
limit_price (suc zero) l = refl
limit_price (suc (suc i)) l = absurd (omega arith)

pub limit_parts : (i : ℕ) → 3 ≤ i → i < 5 → parts_limit ≡ limit_of i
limit_parts zero k l = absurd (omega arith)
limit_parts (suc zero) k l = absurd (omega arith)
limit_parts (suc (suc zero)) k l = absurd (omega arith)
limit_parts (suc (suc (suc zero))) k l = refl
limit_parts (suc (suc (suc (suc zero)))) k l = refl
limit_parts (suc (suc (suc (suc (suc i))))) k l = absurd (omega arith)

pub limit_demand : (i : ℕ) → 7 ≤ i → demand_limit ≡ limit_of i
limit_demand i l = sym (get_or-eq_default tariff_limits demand_limit {n = i} l)

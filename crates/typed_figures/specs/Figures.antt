-- The figures of an order in the order in which they are typed: the seven of the tariff
-- (01, "The tariff and its ranges"), then the demands. The most that each may be,
-- and the tariff and the demands that they give.
-- Assumes nothing.
use Rattle.std.specs.Prelude.{ℕ, ◌+◌, Bool, not, ◌||◌, List, [], ◌∷◌, eqb, drop, get_or}
use Rattle.terms.specs.declared.Tariff.{Tariff}
use Rattle.terms.specs.Limits.{demand_limit, depth_limit, fee_limit, parts_limit, price_limit, rate_limit, trace_limit}
use Rattle.terms.specs.Ranges.{factor_ok}

-- The most that each figure of the tariff may be, in document 01's order; p is further held to q.
abbrev pub tariff_limits : List ℕ
tariff_limits = price_limit ∷ price_limit ∷ fee_limit ∷ parts_limit ∷ parts_limit ∷ rate_limit ∷ depth_limit ∷ []

abbrev pub tariff_figures : ℕ
tariff_figures = 7

-- The demands come after the tariff.
abbrev pub limit_of : ℕ → ℕ
limit_of index = get_or tariff_limits index demand_limit

-- The figures of an order at the most.
abbrev pub figures_limit : ℕ
figures_limit = tariff_figures + trace_limit

-- Figure 4 is q, and figure 3 before it p.
abbrev pub factor_stands : ℕ → ℕ → ℕ → Bool
factor_stands index p q = not (eqb index 4) || factor_ok (record { p = p; q = q })

-- The tariff of the first seven figures.
abbrev pub tariff_of : List ℕ → Tariff
tariff_of ns =
    record {
      rate_price = record { 0 = get_or ns 0 0 };
      depth_price = record { 0 = get_or ns 1 0 };
      fee = get_or ns 2 0;
      factor = record { p = get_or ns 3 0; q = get_or ns 4 0 };
      rate_cap = record { 0 = get_or ns 5 0 };
      depth_cap = record { 0 = get_or ns 6 0 };
    }

-- The demands behind them.
abbrev pub demands_of : List ℕ → List ℕ
demands_of ns = drop tariff_figures ns

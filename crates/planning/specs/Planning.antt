-- From an order file to the series planned for it, on what is lent (01, "Series": the first calls of demand 3).
-- Assumes nothing.
use Rattle.std.specs.Prelude.{ℕ, List, length, Result, Ok, Err}
use Rattle.terms.specs.Answer.{Answer, figures, refused, on_figures, and_then}
use Rattle.terms.specs.Records.{Cutting}
use Rattle.series.specs.Series.{true_cost_of, series_of}
use Rattle.order_file.specs.declared.orders.Order.{Order}
use Rattle.order_file.specs.Ordered.{ordered}
use Rattle.terms.specs.Refusals.{number_of}
use Rattle.planning.specs.declared.planned_orders.PlannedOrder.{PlannedOrder}
use Rattle.planning.specs.declared.planned_orders.Unplanned.{Unplanned}

-- What the calls up to planning give.
pub record Planned : Type 0 where
  pub order : Order
  pub demands : List ℕ
  pub cutting : Cutting

-- The series is planned with the tariff read and the T numbers spread, with `room` entries to plan into.
abbrev pub planned_runs : Order → List ℕ → ℕ → Answer Planned
planned_runs o ds room = on_figures (λ xs. record { order = o; demands = ds; cutting = xs }) (series_of o.tariff room ds)

-- The order is read and its trace spread, into `space` entries; the series is planned.
abbrev pub planned : ℕ → ℕ → List ℕ → Answer Planned
planned space room bs = and_then (ordered space bs) (λ x. planned_runs x.order x.demands room)

-- ---- What is answered

-- The plan found, with what the order says, its trace and the plan's records.
abbrev pub planned_order : Planned → PlannedOrder
planned_order x =
    record {
      order = record { order = x.order; demands = x.demands };
      plan = record { buckets = length x.cutting; cost = true_cost_of x.order.tariff x.cutting };
      records = x.cutting;
    }

-- What a result says: a plan found, or the number of the refusal.
abbrev pub planned_says : Result PlannedOrder Unplanned → Answer PlannedOrder
planned_says (Ok x) = figures x
planned_says (Err x) = refused (number_of x.why)

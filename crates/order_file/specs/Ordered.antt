-- An order read and its trace spread (01, "Series": the first calls of demand 3).
-- Assumes nothing.
use Rattle.std.specs.Prelude.{ℕ, ◌≡◌, List, length}
use Rattle.terms.specs.Answer.{Answer, on_figures, and_then}
use Rattle.terms.specs.Lent.{filled}
use Rattle.order_file.specs.declared.orders.Order.{Order}
use Rattle.order_file.specs.Order.{read_order, trace_part, spread_of}

-- What an order says, and the T numbers of its trace.
pub record Ordered : Type 0 where
  pub order : Order
  pub demands : List ℕ

-- The order is read; its trace part is handed back and spread, into `space` entries.
abbrev pub ordered : ℕ → List ℕ → Answer Ordered
ordered space bs = and_then (read_order bs) (λ o. on_figures (λ ds. record { order = o; demands = ds }) (spread_of space (trace_part bs)))

-- The demands alone.
abbrev pub spread_from : ℕ → List ℕ → Answer (List ℕ)
spread_from space bs = on_figures (λ x. x.demands) (ordered space bs)

-- What is answered, and what the list of demands then holds.
pub record SpreadsOrder (bs demands demands' : List ℕ) (answer : Answer Order) : Type 0 where
  pub answers : answer ≡ on_figures (λ x. x.order) (ordered (length demands) bs)
  pub spreads : demands' ≡ filled (spread_from (length demands) bs) demands

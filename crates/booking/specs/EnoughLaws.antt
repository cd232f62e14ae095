-- Lists of 512 entries and bytes for the longest plan are as long as any order needs. So demand 3 stands outright of
-- whoever lends these.
-- Assumes nothing.
use Rattle.std.specs.Prelude.{ℕ, ◌≤◌, ◌≡◌, List, length}
use Rattle.std.proofs.Common.{arith}
use Rattle.terms.specs.Answer.{Answer, figures}
use Rattle.terms.specs.Limits.{trace_limit}
use Rattle.terms.specs.Records.{Cutting}
use Rattle.series.specs.OutlineLaws.{carried-count}
use Rattle.encoding.specs.Number.{number_at}
use Rattle.encoding.specs.NumberLaws.{length_items}
use Rattle.order_file.specs.declared.orders.Order.{Order}
use Rattle.order_file.specs.Order.{trace_offset, tariff_in, read_order}
use Rattle.order_file.specs.OrderRules.{read_rules}
use Rattle.plan_file.specs.Plan.{longest_plan}
use Rattle.recording.specs.declared.recorded.Booking.{Booking}
use Rattle.booking.specs.Booking.{Lent}
use Rattle.booking.specs.Claim.{periods_in, IsSeriesAnswer, LongEnough, Demand3, Claim}

-- What is lent has room for any order.
pub record Ample (lent : Lent) : Type 0 where
  pub demands : trace_limit ≤ length lent.demands
  pub plan : trace_limit ≤ length lent.plan
  pub bytes : longest_plan ≤ length lent.bytes
  pub back : trace_limit ≤ length lent.back

module _ (bs : List ℕ) (o : Order) (e : read_order bs ≡ figures o) where
  few : periods_in bs ≤ trace_limit
  few = (read_rules bs o e).0.periods.few

  count : (xs : Cutting) → IsSeriesAnswer bs xs → length xs ≤ trace_limit
  count xs a = omega (arith, carried-count (tariff_in bs) a.carried, length_items (number_at 2 bs) 2 (periods_in bs) trace_offset, few)

  pub long_enough : (lent : Lent) → Ample lent → LongEnough bs lent
  long_enough lent m =
      record {
        spreading = omega (arith, few, m.demands);
        planning = omega (arith, few, m.plan);
        writing = λ xs a. omega (arith, count xs a, m.bytes);
        reading = λ xs a. omega (arith, count xs a, m.back);
      }

-- What the claim promises of an order that is read then needs no hypothesis.
pub claim_outright : (bs : List ℕ) (lent after : Lent) (answer : Answer Booking) → Claim bs lent after answer → Ample lent
    → (o : Order) → read_order bs ≡ figures o → Demand3 bs lent after answer
claim_outright bs lent after answer c m o e = c.demand_3 o e (long_enough bs o e lent m)

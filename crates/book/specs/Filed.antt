-- An order booked where only the plan's file is wanted.
-- Assumes nothing.
use Rattle.std.specs.Prelude.{ℕ, ◌≡◌, List, length}
use Rattle.terms.specs.Answer.{Answer, figures}
use Rattle.terms.specs.Limits.{trace_limit}
use Rattle.order_file.specs.declared.orders.Order.{Order}
use Rattle.order_file.specs.Order.{read_order}
use Rattle.recording.specs.declared.recorded.Booking.{Booking}
use Rattle.booking.specs.Booking.{Lent}
use Rattle.booking.specs.Claim.{Demand3, Claim}

-- The claim holds of these bytes and of lists of 512 entries, as many as the longest trace has periods; and demand 3
-- outright, for every order that is read.
pub record BooksFile (bs bytes bytes' : List ℕ) (answer : Answer Booking) : Type 0 where
  pub before : Lent
  pub after : Lent
  pub demands : length before.demands ≡ trace_limit
  pub plan : length before.plan ≡ trace_limit
  pub back : length before.back ≡ trace_limit
  pub bytes_lent : before.bytes ≡ bytes
  pub bytes_left : after.bytes ≡ bytes'
  pub claim : Claim bs before after answer
  pub demand_3 : (o : Order) → read_order bs ≡ figures o → Demand3 bs before after answer

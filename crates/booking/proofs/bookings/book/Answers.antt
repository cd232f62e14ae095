-- What the calls found is stored in the lent lists, which it fits, and the claim holds of these.
use Rattle.std.proofs.Common.{arith}
use Rattle.std.proofs.lemmas.Result.{err_from_is_err_and}
use Rattle.encoding.specs.NumberLaws.{Bytes}
use Rattle.booking.specs.Booking.{Lent, lent}
use Rattle.booking.specs.RecordLaws.{back_fits, booked-claim, demands_fit, plan_fits, refused-claim}
use Rattle.booking.proofs.bookings.book.Goals as goal

pub returns-in_err-booked : goal.returns-in_err-booked
returns-in_err-booked c =
    let a = c.args in
    let old : Lent = lent a.demands.now a.plan.now a.bytes.now a.back.now in
    let bytes : Bytes a.order.now = record { each = λ i. omega (arith, c.type_inv.order i) } in
    let p = err_from_is_err_and c.from_residual.result c.from_residual.ensures.1 in
    rw (p.1, p.2) (refused-claim _ bytes old _ _ c.in_err-booked.ensures)

pub store_demands-requires : goal.store_demands-requires
store_demands-requires c =
    let a = c.args in
    let old : Lent = lent a.demands.now a.plan.now a.bytes.now a.back.now in
    let bytes : Bytes a.order.now = record { each = λ i. omega (arith, c.type_inv.order i) } in
    rw c.trace.ensures (demands_fit _ bytes old _ _ c.in_ok-booked.ensures)

pub store_records-requires : goal.store_records-requires
store_records-requires c =
    let a = c.args in
    let old : Lent = lent a.demands.now a.plan.now a.bytes.now a.back.now in
    let bytes : Bytes a.order.now = record { each = λ i. omega (arith, c.type_inv.order i) } in
    rw c.as_slice.ensures.items (plan_fits _ bytes old _ _ c.in_ok-booked.ensures)

pub store_records-requires-2 : goal.store_records-requires-2
store_records-requires-2 c =
    let a = c.args in
    let old : Lent = lent a.demands.now a.plan.now a.bytes.now a.back.now in
    let bytes : Bytes a.order.now = record { each = λ i. omega (arith, c.type_inv.order i) } in
    rw c.as_slice-2.ensures.items (back_fits _ bytes old _ _ c.in_ok-booked.ensures)

pub returns : goal.returns
returns c =
    let a = c.args in
    let old : Lent = lent a.demands.now a.plan.now a.bytes.now a.back.now in
    let bytes : Bytes a.order.now = record { each = λ i. omega (arith, c.type_inv.order i) } in
    let demands = rw c.trace.ensures at c.store_demands.ensures in
    let plan = rw c.as_slice.ensures.items at c.store_records.ensures in
    let back = rw c.as_slice-2.ensures.items at c.store_records-2.ensures in
    booked-claim _ bytes old _ _ c.in_ok-booked.ensures _ _ _ demands plan back

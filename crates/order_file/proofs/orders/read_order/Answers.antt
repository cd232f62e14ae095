-- Past the tests the figures are those of the bytes, which they give again.
use native.Mathlib.Omega.{arith}
use mathlib.Core.Path.{◌≡◌}
use Rattle.std.proofs.lemmas.Grind.{common_steps}
use Rattle.terms.specs.Answer.{figures}
use Rattle.encoding.specs.NumberLaws.{Bytes}
use Rattle.order_file.specs.Order.{read_order}
use Rattle.order_file.specs.OrderLaws.{very_order}
use Rattle.order_file.proofs.orders.read_order.Goals as goal

pub returns : goal.returns
unfolding read_order
returns c =
    let read : figures (record { periods = c.word_at-periods.result; tariff = c.tariff_in-tariff.result }) ≡ read_order c.args.bytes.now = grind (arith, common_steps) in
    let bytes : Bytes c.args.bytes.now = record { each = λ i. omega (arith, c.type_inv.bytes i) } in
    record { result_value = read; very_order = very_order c.args.bytes.now bytes _ read }

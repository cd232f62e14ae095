-- What is read is written as those bytes.
use Rattle.std.proofs.Common.{arith, refl}
use Rattle.encoding.specs.NumberLaws.{Bytes}
use Rattle.plan_file.specs.PlanLaws.{very_plan}
use Rattle.plan_file.proofs.reading.read_records.Goals as goal

pub returns-clause-very_plan : goal.returns-clause-very_plan
returns-clause-very_plan c =
    let bytes : Bytes c.args.bytes.now = record { each = λ i. omega (arith, c.type_inv.bytes i) } in
    very_plan c.args.bytes.now bytes c.args.room _ refl

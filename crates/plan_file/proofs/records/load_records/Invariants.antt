-- The records loaded are the first of the file.
use Rattle.std.specs.Prelude.{◌≡◌}
use Rattle.plan_file.specs.Plan.{records_in}
use Rattle.plan_file.proofs.records.load_records.Given as goal

abbrev pub invariant-loop-i : goal.invariant-loop-i
invariant-loop-i l = l.records ≡ records_in l.i l.bytes

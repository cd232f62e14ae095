-- The bytes of the records from the one reached on are left to be stored.
use Rattle.encoding.specs.StoreLaws.{Putting}
use Rattle.plan_file.specs.Plan.{record_bytes}
use Rattle.plan_file.proofs.records.put_records.Given as goal

abbrev pub invariant-loop-x : goal.invariant-loop-x
invariant-loop-x l = Putting record_bytes 12 l.initial.bytes l.at l.records l.bytes l.next l.x-index

-- The records so far are in their ranges and their run lengths are summed; those from the one reached on are left.
use Rattle.std.specs.Prelude.{◌+◌, ◌*◌, ◌≤◌, ◌≡◌, drop}
use Rattle.terms.specs.Records.{run_length, total}
use Rattle.plan_file.specs.Plan.{all_ok}
use Rattle.plan_file.proofs.Weighing.{word_limit}
use Rattle.plan_file.proofs.records.records_in_range.Given as goal

abbrev pub invariant-loop-x : goal.invariant-loop-x
invariant-loop-x l = record {
  ranges : all_ok (drop l.x-index l.records) ≡ all_ok l.records;
  lengths : l.sum + total run_length (drop l.x-index l.records) ≡ total run_length l.records;
  small : l.sum ≤ word_limit * l.x-index;
}

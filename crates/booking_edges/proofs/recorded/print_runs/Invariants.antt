-- A run starts at most as far on as there are entries.
use Rattle.std.proofs.Common.{◌≤◌}
use Rattle.booking_edges.proofs.recorded.print_runs.Given as goal

abbrev pub invariant-loop-record : goal.invariant-loop-record
invariant-loop-record g l = l.start ≤ 516

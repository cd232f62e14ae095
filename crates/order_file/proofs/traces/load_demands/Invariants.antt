-- The demands loaded are the first of the part.
use Rattle.std.specs.Prelude.{◌≡◌}
use Rattle.std.proofs.lemmas.List.Edits.{sets}
use Rattle.order_file.proofs.Demands.{first}
use Rattle.order_file.proofs.traces.load_demands.Given as goal

abbrev pub invariant-loop-i : goal.invariant-loop-i
invariant-loop-i l = l.demands ≡ sets l.initial.demands 0 (first l.i l.part)

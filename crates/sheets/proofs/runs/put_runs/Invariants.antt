-- The lines stored and those of the runs still to come are the whole; the rest of the trace is their part of it.
use Rattle.std.specs.Prelude.{ℕ, ◌+◌, ◌≡◌, List, drop}
use Rattle.terms.specs.declared.Factor.{Factor}
use Rattle.terms.specs.Records.{Cutting}
use Rattle.sheets.specs.RunLaws.{Printing}
use Rattle.sheets.proofs.runs.put_runs.Given as goal

pub record Resting (f : Factor) (ds : List ℕ) (records : Cutting) (old : List ℕ) (at : ℕ) (new : List ℕ) (next first : ℕ) (rest : List ℕ) (i : ℕ) : Type 0 where
  pub start : ℕ
  pub begins : first ≡ start + 1
  pub is : rest ≡ drop start ds
  pub printing : Printing f ds records old at new next start i

abbrev pub invariant-loop-x : goal.invariant-loop-x
invariant-loop-x l = Resting l.factor l.trace l.records l.initial.text l.at l.text l.next l.first l.rest l.x-index

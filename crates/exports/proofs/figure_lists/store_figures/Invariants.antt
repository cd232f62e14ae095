-- One figure of each record from the one reached on is left to be stored in each list.
use Rattle.std.specs.Prelude.{ℕ, List}
use Rattle.terms.specs.Records.{Cutting, run_length, run_rate, run_depth}
use Rattle.exports.specs.ListLaws.{Stored}
use Rattle.exports.proofs.figure_lists.store_figures.Given as goal

pub record Storing (records : Cutting) (runs₀ rates₀ depths₀ runs rates depths : List ℕ) (i : ℕ) : Type 0 where
  pub runs-stored : Stored records run_length runs₀ runs i
  pub rates-stored : Stored records run_rate rates₀ rates i
  pub depths-stored : Stored records run_depth depths₀ depths i

abbrev pub invariant-loop-i : goal.invariant-loop-i
invariant-loop-i l = Storing l.records l.initial.runs l.initial.rates l.initial.depths l.runs l.rates l.depths l.i

-- From the last entry to the first: each is the greatest of the charges found from there on.
use Prim.Native.Nat.{ℕ, ◌≤◌}
use Rattle.first_runs.specs.ChargeLaws.{Stopping}
use Rattle.terms.specs.declared.Tariff.{Tariff}
use lib.ListN.{length}
use mathlib.Core.List.{List}
use mathlib.Core.Path.{◌≡◌}
use Rattle.first_runs.proofs.charges.stops_of.Given as goal

pub record Filling (t : Tariff) (known : ℕ) (costs stops : List ℕ) (charge periods : ℕ) : Type 0 where
  pub inside : periods ≤ length costs
  pub whole : 512 ≡ length stops
  pub stopping : Stopping t known costs periods charge stops

abbrev pub invariant-loop-i : goal.invariant-loop-i
invariant-loop-i l = Filling l.tariff l.known l.costs l.stops l.charge l.i

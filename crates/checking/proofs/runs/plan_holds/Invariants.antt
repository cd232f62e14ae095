-- The runs that are left decide, and their costs complete the sum; the rest of the trace is their part of it.
use Rattle.std.specs.Prelude.{ℕ, ◌≡◌, List, drop}
use Rattle.terms.specs.declared.Tariff.{Tariff}
use Rattle.plan_file.specs.declared.answers.Recorded.{Recorded}
use Rattle.checking.specs.WeighLaws.{Weighing}
use Rattle.checking.proofs.runs.plan_holds.Given as goal

pub record Resting (t : Tariff) (ds : List ℕ) (plan : Recorded) (cost : ℕ) (rest : List ℕ) (i : ℕ) : Type 0 where
  pub start : ℕ
  pub is : rest ≡ drop start ds
  pub weighing : Weighing t ds plan cost start i

abbrev pub invariant-loop-x : goal.invariant-loop-x
invariant-loop-x l = Resting l.tariff l.trace l.stated l.cost l.rest l.x-index

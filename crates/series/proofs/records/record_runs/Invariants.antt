-- The records so far and those of the best cutting from the period reached on are the whole.
use Rattle.std.specs.Prelude.{ℕ, ◌-◌, ◌≤◌, ◌≡◌, List, ◌++◌, length, drop}
use Rattle.terms.specs.declared.Tariff.{Tariff}
use Rattle.terms.specs.Answer.{figures}
use Rattle.terms.specs.Records.{Cutting}
use Rattle.series.specs.Series.{cheapest_cut}
use Rattle.series.proofs.records.record_runs.Given as goal

pub record Recording (t : Tariff) (ds : List ℕ) (records : Cutting) (start : ℕ) : Type 0 where
  pub cut : Cutting
  pub found : cheapest_cut t ds ≡ figures cut
  pub few : length cut ≤ length ds
  pub inside : start ≤ length ds
  pub rest : cheapest_cut t (drop start ds) ≡ figures (drop (length records) cut)
  pub all : records ++ drop (length records) cut ≡ cut

abbrev pub invariant-loop-start : goal.invariant-loop-start
invariant-loop-start l = Recording l.tariff l.trace l.records l.start

abbrev pub decreases-loop-start : goal.decreases-loop-start
decreases-loop-start l = length l.trace - l.start

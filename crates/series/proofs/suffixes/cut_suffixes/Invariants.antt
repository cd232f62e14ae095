-- Each turn puts the outline from one period earlier on before those that are kept.
use Prim.Native.Nat.{ℕ, ◌≤◌}
use Rattle.series.specs.SuffixLaws.{Kept}
use Rattle.terms.specs.declared.Rate.{Rate}
use Rattle.terms.specs.declared.Tariff.{Tariff}
use lib.ListN.{length}
use mathlib.Core.List.{List}
use mathlib.Core.Path.{◌≡◌}
use Rattle.series.proofs.suffixes.cut_suffixes.Given as goal

pub record Keeping (t : Tariff) (ds costs₀ counts₀ firsts₀ : List ℕ) (next : ℕ) (costs counts firsts : List ℕ) (begin : Rate) : Type 0 where
  pub rate : begin.0 ≤ t.rate_cap.0
  pub inside : next ≤ length ds
  pub costs-same : length costs ≡ length costs₀
  pub counts_same : length counts ≡ length counts₀
  pub firsts_same : length firsts ≡ length firsts₀
  pub kept : Kept t ds next costs counts firsts

abbrev pub invariant-loop-start : goal.invariant-loop-start
invariant-loop-start l =
    Keeping l.tariff l.trace l.initial.costs l.initial.counts l.initial.firsts l.start l.costs l.counts l.firsts l.begin

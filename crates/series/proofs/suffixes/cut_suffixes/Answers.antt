-- Each turn puts the outline from one period earlier on before those that are kept.
use Prim.Native.Nat.{ℕ, suc, ◌+◌, ◌-◌, ◌≤◌, ◌<◌}
use native.Mathlib.Omega.{arith}
use native.Mathlib.Numerals.{add-one}
use Rattle.series.specs.Outline.{outline_of}
use Rattle.series.specs.Series.{cheapest_cut}
use Rattle.series.specs.SuffixLaws.{Kept, Left, far_all, kept-left, kept_more, left-rests, search_found}
use Rattle.first_runs.specs.declared.outlines.Choice.{Choice}
use Rattle.terms.specs.declared.Rate.{Rate}
use Rattle.terms.specs.declared.Tariff.{Tariff}
use lib.ListN.{length, take, drop, set, length-set, length-take}
use Rattle.terms.specs.Limits.{trace_limit}
use mathlib.Core.List.{List}
use borrow.Author.Rules.{part_to_end}
use mathlib.Core.Path.{◌≡◌, sym, ap, subst, ◌∙◌}
use Rattle.series.proofs.suffixes.cut_suffixes.Invariants.{Keeping}
use Rattle.series.proofs.suffixes.cut_suffixes.Goals as goal

module _ (t : Tariff) (ds costs₀ counts₀ firsts₀ : List ℕ) (next : ℕ) (costs counts firsts : List ℕ) (begin : Rate) (k : Keeping t ds costs₀ counts₀ firsts₀ next costs counts firsts begin) (some : 0 < next) where
  -- the period that a turn adds
  one-before : suc (next - 1) ≡ next
  one-before = omega arith

  kept_next : Kept t ds (suc (next - 1)) costs counts firsts
  kept_next = subst (λ (n : ℕ). Kept t ds n costs counts firsts) (sym one-before) k.kept

  left : Left t (take (length ds - (next - 1)) (drop (next - 1) ds))
      (take (length ds + 1 - (next - 1 + 1)) (drop (next - 1 + 1) costs)) (take (length ds + 1 - (next - 1 + 1)) (drop (next - 1 + 1) counts))
  left =
      let kept = kept-left t ds (next - 1) (omega (arith, k.inside)) costs counts firsts kept_next in
      rw (part_to_end ds (next - 1), add-one (next - 1)) kept

  step : (c : Choice) → c.outline ≡ outline_of t (cheapest_cut t (take (length ds - (next - 1)) (drop (next - 1) ds))) → c.rate.0 ≤ t.rate_cap.0 → let o =
      c.outline in
      Keeping t ds costs₀ counts₀ firsts₀ (next - 1) (set costs (next - 1) o.cost) (set counts (next - 1) o.buckets)
      (set firsts (next - 1) o.first) c.rate
  step c e slow =
      let o = c.outline in
      record {
        rate = slow;
        inside = omega (arith, k.inside);
        costs-same = length-set costs (next - 1) o.cost ∙ k.costs-same;
        counts_same = length-set counts (next - 1) o.buckets ∙ k.counts_same;
        firsts_same = length-set firsts (next - 1) o.first ∙ k.firsts_same;
        kept =
            kept_more t ds (next - 1) (omega (arith, k.inside)) costs counts firsts kept_next o
            (e ∙ ap (λ (es : List ℕ). outline_of t (cheapest_cut t es)) (part_to_end ds (next - 1)));
      }

few-left : (ds : List ℕ) (a : ℕ) → length ds ≤ trace_limit → length (take (length ds - a) (drop a ds)) ≤ trace_limit
few-left ds a few = omega (arith, length-take (length ds - a) (drop a ds))

pub best_first-best-requires : goal.best_first-best-requires
best_first-best-requires c =
    let k = c.loop-start.invariant in
    record {
      begin_bound = k.rate;
      far = far_all;
      rests =
          left-rests _ c.requires.tariff_range _
          (few-left c.args.trace.now (c.loop-start.start - 1) c.requires.trace_len_bound) _ _
          (left _ _ _ _ _ _ _ _ _ _ k c.loop-start-test.true);
    }

pub loop-start-preserved : goal.loop-start-preserved
loop-start-preserved c =
    let k = c.loop-start.invariant in
    let f = c.best_first-best.ensures in
    step _ _ _ _ _ _ _ _ _ _ k c.loop-start-test.true _
    (search_found _ c.requires.tariff_range _ (few-left c.args.trace.now (c.loop-start.start - 1) c.requires.trace_len_bound) _ _ (left _ _ _ _ _ _ _ _ _ _ k c.loop-start-test.true) _ f)
    f.rate

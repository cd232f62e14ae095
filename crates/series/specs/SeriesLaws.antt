-- The series answer is the least over all cuttings: it is carried, its cost is its true cost, no carried cutting costs
-- less, the same runs with other buckets included, and none is preferred; refusal 7 is given exactly when no cutting is
-- carried. The theorem about any choices for the runs (`CuttingLaws.bests_are`) gives it,
-- since the single bucket is the cheapest choice for its run.
-- Assumes nothing.
use Rattle.std.specs.Prelude.{ℕ, ◌≤◌, ◌≡◌, List, leb, length}
use Rattle.std.proofs.Common.{arith, sym, subst}
use Rattle.std.proofs.Math.Path.{refl, ap}
use Rattle.std.proofs.Math.Bool.{true}
use borrow.Author.Tests.{leb-true}
use Rattle.terms.specs.declared.BucketRecord.{BucketRecord}
use Rattle.terms.specs.declared.Tariff.{Tariff}
use Rattle.terms.specs.Answer.{Answer, figures, refused, weigh}
use Rattle.terms.specs.Ranges.{periods_ok, tariff_ok}
use Rattle.terms.specs.AnswerLaws.{figures-refused, same-figures, weigh-figures, weigh-refused}
use Rattle.single.specs.declared.costs.Priced.{Priced}
use Rattle.single.specs.Cost.{cost_of}
use Rattle.single.specs.Single.{cheapest_of}
use Rattle.single.specs.SingleLaws.{IsSingle, cheapest-is, cheapest-least}
use Rattle.series.specs.CuttingLaws.{IsBestCut, IsChoice, not_wins-cost, bests_are}
use Rattle.series.specs.RunLaws.{best_choices, choices_only}
use Rattle.series.specs.Series.{run_cost, ServesRun, Carried, Cheapest, record_for, run_record, cheapest_cut, series_of}
use Rattle.terms.specs.Records.{Cutting, run_length}

module _ (t : Tariff) where
  -- ---- A run's record

  -- The single bucket is the cheapest choice for its run.
  chosen : (ds : List ℕ) (a : Answer Priced) → IsSingle t ds a
      → IsChoice run_length (run_cost t) (ServesRun t) ds (record_for (length ds) a)
  chosen ds (figures x) k =
      record {
        whole = refl;
        fits = k.serves;
        least = λ y e s.
            subst (λ (c : ℕ). c ≤ run_cost t y) k.paid (subst (λ (n : ℕ). x.cost ≤ cost_of t n y.bucket) (sym e) (cheapest-least t ds k y.bucket s));
      }
  chosen ds (refused n) k = (k.0, λ y s. k.1 y.bucket s)

  pub run_chosen : (run : List ℕ) → IsChoice run_length (run_cost t) (ServesRun t) run (run_record t run)
  run_chosen run = chosen run (cheapest_of t run) (cheapest-is t run)

  -- Its length is the run's.
  pub record_whole : (run : List ℕ) (x : BucketRecord) → run_record t run ≡ figures x → run_length x ≡ length run
  record_whole run x e = go (cheapest_of t run) e
    where
      go : (a : Answer Priced) → record_for (length run) a ≡ figures x → run_length x ≡ length run
      go (figures p) f = ap run_length (sym (same-figures f))
      go (refused n) f = absurd (figures-refused (sym f))

  -- ---- The cutting

  abbrev pub NoCutting : List ℕ → Type 0
  NoCutting ds = (xs : Cutting) → Carried t ds xs → ⊥

  abbrev pub IsSeries : List ℕ → Answer Cutting → Type 0
  IsSeries ds = IsBestCut run_length (run_cost t) (Carried t ds)

  module _ (ds : List ℕ) where
    pub series-is : IsSeries ds (cheapest_cut t ds)
    series-is = bests_are run_length (run_cost t) (ServesRun t) (run_record t) run_chosen ds 0 (omega arith)

    cut-cheapest : (xs : Cutting) → cheapest_cut t ds ≡ figures xs → Cheapest t ds xs
    cut-cheapest xs e =
        let b = subst (IsSeries ds) e series-is in
        record {
          carried = b.kind;
          singles = best_choices run_length (run_cost t) (run_record t) record_whole ds xs e;
          cheapest = λ ys c. not_wins-cost run_length (run_cost t) xs ys (b.none_preferred ys c);
          none_preferred = b.none_preferred;
        }

    -- There is one such cutting only.
    pub series_only : (xs ys : Cutting) → Cheapest t ds xs → Cheapest t ds ys → xs ≡ ys
    series_only xs ys k l =
        choices_only run_length (run_cost t) (run_record t) ds xs ys k.singles l.singles (l.none_preferred xs k.carried) (k.none_preferred ys l.carried)

    -- ---- The call, with room for so many records

    module _ (room : ℕ) where
      -- Figures are the series answer.
      pub series-cheapest : (xs : Cutting) → series_of t room ds ≡ figures xs → Cheapest t ds xs
      unfolding series_of
      series-cheapest xs e =
          let h =
          (weigh-figures (periods_ok (length ds)) 3 (weigh (tariff_ok t) 5 (weigh (leb (length ds) room) 6 (cheapest_cut t ds))) e).1 in
          let k = (weigh-figures (tariff_ok t) 5 (weigh (leb (length ds) room) 6 (cheapest_cut t ds)) h).1 in
          cut-cheapest xs (weigh-figures (leb (length ds) room) 6 (cheapest_cut t ds) k).1

      -- … of a trace that the lists have room for.
      pub series-room : (xs : Cutting) → series_of t room ds ≡ figures xs → length ds ≤ room
      unfolding series_of
      series-room xs e =
          let h =
          (weigh-figures (periods_ok (length ds)) 3 (weigh (tariff_ok t) 5 (weigh (leb (length ds) room) 6 (cheapest_cut t ds))) e).1 in
          let k = (weigh-figures (tariff_ok t) 5 (weigh (leb (length ds) room) 6 (cheapest_cut t ds)) h).1 in
          leb-true _ _ (weigh-figures (leb (length ds) room) 6 (cheapest_cut t ds) k).0

      -- Refusal 7 is given exactly when no cutting of a trace in range is carried.
      pub series_none : series_of t room ds ≡ refused 7 → NoCutting ds
      unfolding series_of
      series_none e =
          let h =
          (weigh-refused (periods_ok (length ds)) 3 7 (weigh (tariff_ok t) 5 (weigh (leb (length ds) room) 6 (cheapest_cut t ds))) refl e).1 in
          let k = (weigh-refused (tariff_ok t) 5 7 (weigh (leb (length ds) room) 6 (cheapest_cut t ds)) refl h).1 in
          (subst (IsSeries ds) (weigh-refused (leb (length ds) room) 6 7 (cheapest_cut t ds) refl k).1 series-is).1

      pub none_series : periods_ok (length ds) ≡ true → tariff_ok t ≡ true → leb (length ds) room ≡ true
          → NoCutting ds → series_of t room ds ≡ refused 7
      unfolding series_of
      none_series h k l none = rw (h, k, l) (go (cheapest_cut t ds) series-is)
        where
          go : (a : Answer Cutting) → IsSeries ds a → a ≡ refused 7
          go (figures xs) i = absurd (none xs i.kind)
          go (refused n) i = ap refused i.0

      -- A trace and a tariff in their ranges with room for the records meet no other refusal.
      pub series_refuses : periods_ok (length ds) ≡ true → tariff_ok t ≡ true → leb (length ds) room ≡ true → (n : ℕ)
          → series_of t room ds ≡ refused n → n ≡ 7
      unfolding series_of
      series_refuses h k l n e =
          let f : weigh true 3 (weigh true 5 (weigh true 6 (cheapest_cut t ds))) ≡ refused n = rw (h, k, l) at e in
          (subst (IsSeries ds) f series-is).0

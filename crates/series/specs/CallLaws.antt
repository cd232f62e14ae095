-- What the series call finds, and what is stored of it in a lent list: as many records as buckets.
-- Assumes nothing.
use Rattle.std.specs.Prelude.{ℕ, ◌≤◌, ◌≡◌, List, length}
use Rattle.std.proofs.Common.{arith, sym, ap, ◌∙◌}
use Rattle.terms.specs.declared.Tariff.{Tariff}
use Rattle.terms.specs.Answer.{Answer, figures, on_figures}
use Rattle.terms.specs.AnswerLaws.{same-figures, on_figures_lem}
use Rattle.terms.specs.Records.{Cutting}
use Rattle.series.specs.declared.answers.SeriesRecords.{SeriesRecords}
use Rattle.series.specs.declared.answers.Plan.{Plan}
use Rattle.series.specs.OutlineLaws.{carried-count}
use Rattle.series.specs.Series.{found_of, plan_of, series_of}
use Rattle.series.specs.SeriesLaws.{series-cheapest, series-room}

-- The figures of a plan and its records, each found, make up what is answered.
pub found-by : (t : Tariff) (a : Answer Cutting) (p : Plan) (xs : Cutting) → figures p ≡ plan_of t a → figures xs ≡ a
    → figures (record { plan = p; records = xs }) ≡ on_figures (found_of t) a
found-by t a p xs e f = ap (λ (q : Plan). figures (record { plan = q; records = xs })) (same-figures (e ∙ ap (plan_of t) (sym f))) ∙ ap (on_figures (found_of t)) f

module _ (t : Tariff) (room : ℕ) (ds : List ℕ) where
  abbrev answer : Answer Cutting
  answer = series_of t room ds

  -- What was found.
  module _ (f : SeriesRecords) (e : figures f ≡ on_figures (found_of t) answer) where
    cut : (xs : Cutting) × (answer ≡ figures xs) × (found_of t xs ≡ f)
    cut = on_figures_lem (found_of t) answer (sym e)

    pub plan-found : figures f.plan ≡ plan_of t answer
    plan-found = ap (λ (x : SeriesRecords). figures x.plan) (sym cut.2) ∙ ap (plan_of t) (sym cut.1)

    pub records-found : figures f.records ≡ answer
    records-found = ap (λ (x : SeriesRecords). figures x.records) (sym cut.2) ∙ sym cut.1

    -- The records fit the lent list.
    pub found_fits : length f.records ≤ room
    found_fits =
        let c = carried-count t (series-cheapest t ds room f.records (sym records-found)).carried in
        omega (arith, c, series-room t ds room f.records (sym records-found))

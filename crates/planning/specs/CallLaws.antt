-- What planning gives, call by call, and what is known of a plan that it found.
-- Assumes nothing.
use Rattle.std.specs.Prelude.{ℕ, ◌≤◌, ◌≡◌, refl, false, List, leb, length}
use Rattle.std.proofs.Common.{arith, sym, ap, ◌∙◌}
use Rattle.terms.specs.Answer.{Answer, figures, refused, on_figures}
use Rattle.terms.specs.AnswerLaws.{on_figures_lem, on_refused, then_figures, then_refused}
use Rattle.terms.specs.Limits.{trace_limit}
use Rattle.terms.specs.Records.{Cutting}
use Rattle.series.specs.declared.answers.SeriesRecords.{SeriesRecords}
use Rattle.series.specs.Series.{found_of, series_of}
use Rattle.order_file.specs.Ordered.{Ordered, ordered}
use Rattle.order_file.specs.OrderedLaws.{ordered-found, ordered-refused, ordered-short, ordered-count, is-ordered}
use Rattle.planning.specs.declared.planned_orders.PlannedOrder.{PlannedOrder}
use Rattle.planning.specs.Planning.{Planned, planned, planned_runs, planned_order}
use Rattle.planning.specs.PlannedLaws.{IsPlanned, is-planned}

module _ (bs : List ℕ) (space room : ℕ) where
  -- what planning answers
  abbrev pub all : Answer PlannedOrder
  all = on_figures planned_order (planned space room bs)

  refuses : (n : ℕ) → ordered space bs ≡ refused n → refused n ≡ all
  refuses n e = ap (on_figures planned_order) (then_refused (ordered space bs) (λ x. planned_runs x.order x.demands room) e)

  pub planning-refused : (n : ℕ) → ordered trace_limit bs ≡ refused n → refused n ≡ all
  planning-refused n e = refuses n (ordered-refused bs space n e)

  module _ (x : Ordered) (e : ordered trace_limit bs ≡ figures x) where
    -- the demands are as many as the order says
    demands-are : length x.demands ≡ x.order.periods
    demands-are = ordered-count (is-ordered trace_limit bs x e)

    pub planning-short : leb (length x.demands) space ≡ false → refused 6 ≡ all
    planning-short h = refuses 6 (ordered-short bs x e space (sym (ap (λ (n : ℕ). leb n space) demands-are) ∙ h))

    module _ (l : length x.demands ≤ space) where
      -- the series for them
      abbrev series : Answer Cutting
      series = series_of x.order.tariff room x.demands

      abbrev runs_as : Cutting → Planned
      runs_as xs = record { order = x.order; demands = x.demands; cutting = xs }

      runs-planned : on_figures runs_as series ≡ planned space room bs
      runs-planned =
          then_figures (ordered space bs) (λ y. planned_runs y.order y.demands room)
          (ordered-found bs x e space (omega (arith, demands-are, l)))

      -- the plan found, with the order
      abbrev with_order : SeriesRecords → PlannedOrder
      with_order s = record { order = x; plan = s.plan; records = s.records }

      each_is : (a : Answer Cutting) → on_figures with_order (on_figures (found_of x.order.tariff) a) ≡ on_figures planned_order (on_figures runs_as a)
      each_is (figures xs) = refl
      each_is (refused n) = refl

      pub series-planned : (a : Answer SeriesRecords) → a ≡ on_figures (found_of x.order.tariff) series → on_figures with_order a ≡ all
      series-planned a f = ap (on_figures with_order) f ∙ each_is series ∙ ap (on_figures planned_order) runs-planned

-- ---- What was planned

module _ (bs : List ℕ) (space room : ℕ) where
  pub plan-refused : (n : ℕ) → refused n ≡ on_figures planned_order (planned space room bs) → planned space room bs ≡ refused n
  plan-refused n e = on_refused planned_order (planned space room bs) (sym e)

  module _ (r : PlannedOrder) (p : figures r ≡ on_figures planned_order (planned space room bs)) where
    found_plan : (x : Planned) × (planned space room bs ≡ figures x) × (planned_order x ≡ r)
    found_plan = on_figures_lem planned_order (planned space room bs) (sym p)

    abbrev pub the_plan : Planned
    the_plan = record { order = r.order.order; demands = r.order.demands; cutting = r.records }

    same-plan : found_plan.0 ≡ the_plan
    same-plan = ap (λ (z : PlannedOrder). record { order = z.order.order; demands = z.order.demands; cutting = z.records }) found_plan.2

    pub plan-found : planned space room bs ≡ figures the_plan
    plan-found = found_plan.1 ∙ ap figures same-plan

    pub plan_order_lem : planned_order the_plan ≡ r
    plan_order_lem = ap planned_order (sym same-plan) ∙ found_plan.2

    pub plan-is : IsPlanned space room bs the_plan
    plan-is = is-planned space room bs the_plan plan-found

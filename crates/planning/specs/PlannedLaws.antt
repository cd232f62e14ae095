-- What the calls up to planning give: the series answer for the order's demands,
-- whose records keep the rules of a plan.
-- Assumes nothing.
use Rattle.std.specs.Prelude.{ℕ, ◌≤◌, ◌≡◌, List, length}
use Rattle.std.proofs.Common.{arith, le_trans, subst}
use Rattle.std.proofs.Math.Path.{refl}
use Rattle.std.proofs.Math.ListN.{length-drop}
use Rattle.terms.specs.declared.BucketRecord.{BucketRecord}
use Rattle.terms.specs.declared.Tariff.{Tariff}
use Rattle.terms.specs.Answer.{figures}
use Rattle.terms.specs.AnswerLaws.{on_figures_lem, then_found}
use Rattle.terms.specs.RangeRules.{TariffRange, RecordRange}
use Rattle.terms.specs.Records.{Cutting, run_length, total}
use Rattle.series.specs.Cutting.{FirstRun, none, run}
use Rattle.series.specs.Series.{Carried, Cheapest, ServesRun, series_of}
use Rattle.series.specs.SeriesLaws.{series-cheapest}
use Rattle.order_file.specs.Ordered.{ordered}
use Rattle.order_file.specs.OrderedLaws.{IsOrdered, is-ordered}
use Rattle.planning.specs.Planning.{Planned, planned}

-- The calls gave x, with `space` entries to spread into and `room` to plan into.
pub record IsPlanned (space room : ℕ) (bs : List ℕ) (x : Planned) : Type 0 where
  pub as_ordered : IsOrdered space bs (record { order = x.order; demands = x.demands })
  pub series : series_of x.order.tariff room x.demands ≡ figures x.cutting

pub is-planned : (space room : ℕ) (bs : List ℕ) (x : Planned) → planned space room bs ≡ figures x → IsPlanned space room bs x
is-planned space room bs x e =
    let a = then_found (ordered space bs) _ e in
    let c = on_figures_lem _ (series_of a.0.order.tariff room a.0.demands) a.2 in
    subst (IsPlanned space room bs) c.2 (record { as_ordered = is-ordered space bs a.0 a.1; series = c.1 })

-- The cutting is the series answer for the demands.
pub planned-cheapest : {space room : ℕ} {bs : List ℕ} {x : Planned} → IsPlanned space room bs x → Cheapest x.order.tariff x.demands x.cutting
planned-cheapest {space} {room} {bs} {x} p = series-cheapest x.order.tariff x.demands room x.cutting p.series

-- ---- A carried cutting

module _ (t : Tariff) where
  pub carried-sum : {ds : List ℕ} {xs : Cutting} → Carried t ds xs → total run_length xs ≡ length ds
  unfolding total
  carried-sum none = refl
  carried-sum (run {ds} {x} {xs} f c) = omega (arith, f.inside, carried-sum c, length-drop x.periods ds)

  pub carried_some : {ds : List ℕ} {xs : Cutting} → Carried t ds xs → 1 ≤ length ds → 1 ≤ length xs
  carried_some none l = l
  carried_some (run f c) l = omega arith

  pub served_range : TariffRange t → {ds : List ℕ} {x : BucketRecord} → FirstRun run_length (ServesRun t) ds x → RecordRange x
  served_range h f =
      record { some = f.some; bucket = record { rates = le_trans f.fits.rates h.rate_caps; depths = le_trans f.fits.depths h.depth_caps } }

-- The list of calls step by step: once a plan is written no later call refuses,
-- and what each call gave where none refuses.
-- Assumes nothing.
use Rattle.std.specs.Prelude.{ℕ, ◌≤◌, ◌≡◌, refl, Bool, true, List, leb, length}
use Rattle.std.proofs.Common.{arith, sym, ap, ap₂, subst, ◌∙◌, leb-true, le-leb}
use Rattle.terms.specs.declared.Tariff.{Tariff}
use Rattle.terms.specs.Answer.{figures, weigh, on_figures}
use Rattle.terms.specs.AnswerLaws.{same-figures, weigh-figures, on_figures_lem, then_figures, then_found}
use Rattle.terms.specs.Limits.{trace_limit}
use Rattle.terms.specs.RangeLaws.{factor_ok_lem}
use Rattle.terms.specs.Ranges.{factor_ok}
use Rattle.terms.specs.Records.{Cutting}
use Rattle.bucket.specs.Trace.{Demands}
use Rattle.series.specs.Series.{true_cost_of}
use Rattle.series.specs.OutlineLaws.{carried-count}
use Rattle.series.specs.SeriesLaws.{series-room}
use Rattle.encoding.specs.NumberLaws.{Bytes}
use Rattle.order_file.specs.OrderedLaws.{ordered-count, ordered_range}
use Rattle.plan_file.specs.declared.answers.Recorded.{Recorded}
use Rattle.plan_file.specs.Plan.{counts_ok, plan_length, plan_bytes, read_plan}
use Rattle.plan_file.specs.PlanLaws.{file-read}
use Rattle.plan_file.specs.PlanRules.{counts_ok_lem, write_figures_lem}
use Rattle.plan_file.specs.RecordLaws.{RecordsRange, records_ok_lem}
use Rattle.planning.specs.Planning.{Planned}
use Rattle.planning.specs.PlannedLaws.{IsPlanned, planned-cheapest}
use Rattle.recording.specs.Recording.{Recording, read_back, meters_of}
use Rattle.booking.specs.Booking.{Steps, plan_figures}
use Rattle.booking.specs.BookingLaws.{PlanRange, NothingOver, carried_plan, carried-meters, file-demands, planned-demands}
use Rattle.booking.specs.CallLaws.{Sizes, planned_in, file_in, written_in, recording_in, booked_in}

-- The bytes of the plan found.
abbrev pub file_of : Planned → List ℕ
file_of x = plan_bytes x.order.periods (true_cost_of x.order.tariff x.cutting) x.cutting

-- Where a plan is written, its records can be read back and its file is that of the plan found.
written-figures : (z : Sizes) (x : Planned) (file : List ℕ) → written_in z x ≡ figures file → (length x.cutting ≤ z.back) × (file_in z x ≡ figures file)
written-figures z x file w =
    let d = weigh-figures (factor_ok x.order.tariff.factor) 5 _ w in
    let e = weigh-figures (leb (length x.cutting) z.back) 6 (file_in z x) d.1 in
    (leb-true _ _ e.0, e.1)

module _ (bs : List ℕ) (h : Bytes bs) (z : Sizes) (x : Planned) (is : IsPlanned z.demands z.plan bs x) where
  abbrev t : Tariff
  t = x.order.tariff

  abbrev cutting : Cutting
  cutting = x.cutting

  count : length x.demands ≡ x.order.periods
  count = ordered-count is.as_ordered

  ranges : PlanRange t (length x.demands) cutting
  ranges =
      let r = ordered_range is.as_ordered in
      carried_plan t r.1 r.0 (planned-cheapest is).carried

  -- each run's meter takes its offers and discards nothing
  pub planned-meters : NothingOver t x.demands cutting
  planned-meters =
      let r = ordered_range is.as_ordered in
      let d = subst Demands (sym (planned-demands is)) (file-demands bs h) in
      carried-meters t r.1 d r.0.few (planned-cheapest is).carried

  abbrev recorded_plan : Recorded
  recorded_plan = record { periods = x.order.periods; cost = true_cost_of t cutting; buckets = cutting }

  -- What the calls from writing on give where a file is written.
  abbrev pub recording_of : List ℕ → Recording
  recording_of file = record { file = file; plan = recorded_plan; meters = planned-meters.0 }

  module _ (file : List ℕ) (w : written_in z x ≡ figures file) where
    pub written_read : read_plan z.back file ≡ figures recorded_plan
    written_read = let e = written-figures z x file w in file-read z.plan z.bytes (plan_figures x) cutting file refl e.1 z.back e.0

    pub file-recorded : recording_in z x ≡ figures (recording_of file)
    file-recorded =
        sym (then_figures (written_in z x) (read_back z.back t.factor x.demands) w)
        ∙ sym (then_figures (read_plan z.back file) (λ y. on_figures (λ ms. record { file = file; plan = y; meters = ms }) (meters_of t.factor x.demands y.buckets)) written_read)
        ∙ ap (on_figures (λ ms. record { file = file; plan = recorded_plan; meters = ms })) planned-meters.1

  -- Where the records found can be read back they are written: the order's factor is in its range.
  pub written_is : length cutting ≤ z.back → written_in z x ≡ file_in z x
  written_is space =
      ap₂ (λ (a b : Bool). weigh a 5 (weigh b 6 (file_in z x))) (factor_ok_lem t.factor (ordered_range is.as_ordered).1.factor) (le-leb (length cutting) z.back space)

  -- A plan is written where there is room for it.
  pub file-fits : length cutting ≤ z.back → plan_length (length cutting) ≤ z.bytes → written_in z x ≡ figures (file_of x)
  file-fits space room =
      let T = x.order.periods in
      let r = ranges in
      let k : length cutting ≤ z.plan = omega (arith, r.counts.few, series-room t x.demands z.plan cutting is.series) in
      let records = subst (λ (n : ℕ). RecordsRange n cutting) count r.records in
      let counts = subst (λ (n : ℕ). counts_ok n (length cutting) ≡ true) count (counts_ok_lem (length x.demands) (length cutting) r.counts) in
      written_is space
      ∙ write_figures_lem z.plan z.bytes (plan_figures x) cutting counts (le-leb _ _ r.cost) (le-leb _ _ k) (records_ok_lem T cutting records) (le-leb _ _ room)

-- ---- The whole list

module _ (bs : List ℕ) (h : Bytes bs) (z : Sizes) where
  -- Where a plan is found and written the list ends with figures.
  pub steps-figures : (x : Planned) (is : IsPlanned z.demands z.plan bs x) → planned_in z bs ≡ figures x
      → (file : List ℕ) → written_in z x ≡ figures file → booked_in z bs ≡ figures (record { planning = x; recording = recording_of bs h z x is file })
  steps-figures x is e file w =
      sym (then_figures (planned_in z bs) (λ x. on_figures (λ y. record { planning = x; recording = y }) (recording_in z x)) e)
      ∙ ap (on_figures (λ y. record { planning = x; recording = y })) (file-recorded bs h z x is file w)

-- What each call gave where the list ends with figures.
pub record Found (bs : List ℕ) (z : Sizes) (s : Steps) : Type 0 where
  pub is_plan : planned_in z bs ≡ figures s.planning
  pub is_written : written_in z s.planning ≡ figures s.recording.file
  pub is_read : read_plan z.back s.recording.file ≡ figures s.recording.plan

pub steps-found : (bs : List ℕ) (z : Sizes) (s : Steps) → booked_in z bs ≡ figures s → Found bs z s
steps-found bs z s e =
    let a = then_found (planned_in z bs) _ e in
    let x = a.0 in
    let b = on_figures_lem (λ y. record { planning = x; recording = y }) (recording_in z x) a.2 in
    let c = then_found (written_in z x) (read_back z.back x.order.tariff.factor x.demands) b.1 in
    let file = c.0 in
    let d = then_found (read_plan z.back file) _ c.2 in
    let y = d.0 in
    let f = on_figures_lem (λ ms. record { file = file; plan = y; meters = ms }) (meters_of x.order.tariff.factor x.demands y.buckets) d.2 in
    subst (Found bs z) (ap (λ (z : Recording). record { planning = x; recording = z }) f.2 ∙ b.2)
    (record { is_plan = a.1; is_written = c.1; is_read = d.1 })

-- The plan found fits the list planned into; what is read back is that plan, and fits the list read into.
pub planned-short : (bs : List ℕ) (space room : ℕ) (x : Planned) → IsPlanned space room bs x → (length x.cutting ≤ room) × (length x.cutting ≤ trace_limit)
planned-short bs space room x is =
    let n = carried-count x.order.tariff (planned-cheapest is).carried in
    let p = (ordered_range is.as_ordered).0 in
    (omega (arith, n, series-room x.order.tariff x.demands room x.cutting is.series), omega (arith, n, p.few))

module _ (bs : List ℕ) (z : Sizes) (s : Steps) (f : Found bs z s) where
  abbrev cut : Cutting
  cut = s.planning.cutting

  written_so : (length cut ≤ z.back) × (file_in z s.planning ≡ figures s.recording.file)
  written_so = written-figures z s.planning s.recording.file f.is_written

  pub found_back : length cut ≤ z.back
  found_back = written_so.0

  -- what is read back is what was written
  pub found-recorded : s.recording.plan ≡ record { periods = s.planning.order.periods; cost = true_cost_of s.planning.order.tariff cut; buckets = cut }
  found-recorded =
      same-figures (sym f.is_read ∙ file-read z.plan z.bytes (plan_figures s.planning) cut s.recording.file refl written_so.1 z.back found_back)

  pub found-same : s.recording.plan.buckets ≡ cut
  found-same = ap (λ (y : Recorded). y.buckets) found-recorded

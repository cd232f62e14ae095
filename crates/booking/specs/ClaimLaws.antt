-- The claim holds of whatever answers as the list of calls does and leaves what it leaves. Where an order is read and
-- what is lent is long enough, the series call alone decides: it finds no cutting, and there is none,
-- or every step after it succeeds.
-- Assumes nothing.
use Rattle.std.specs.Prelude.{ℕ, ◌≤◌, ◌≡◌, refl, List, ◌⊎◌, length, take}
use Rattle.std.proofs.Common.{sym, ap, ap₂, subst, ◌∙◌, inl, inr, ⊎_elim, le-leb}
use Rattle.terms.specs.declared.Tariff.{Tariff}
use Rattle.terms.specs.Answer.{Answer, figures, refused, on_figures}
use Rattle.terms.specs.AnswerLaws.{figures-refused, then_figures, then_refused}
use Rattle.terms.specs.LentLaws.{filled-front, filled-length}
use Rattle.terms.specs.RangeRules.{PeriodsRange}
use Rattle.terms.specs.RangeLaws.{periods_ok_lem, tariff_ok_lem}
use Rattle.terms.specs.Records.{Cutting, Each}
use Rattle.series.specs.Cutting.{none, run}
use Rattle.series.specs.Series.{Carried, series_of}
use Rattle.series.specs.SeriesLaws.{series_none, series_refuses}
use Rattle.encoding.specs.NumberLaws.{Bytes}
use Rattle.order_file.specs.declared.orders.Order.{Order}
use Rattle.order_file.specs.Order.{tariff_in, order_in, read_order, OrderRules}
use Rattle.order_file.specs.OrderLaws.{demands-count}
use Rattle.order_file.specs.OrderRules.{rules_read, read_rules}
use Rattle.order_file.specs.Ordered.{ordered}
use Rattle.plan_file.specs.Plan.{plan_file, plan_in}
use Rattle.plan_file.specs.PlanRules.{read-holds}
use Rattle.planning.specs.Planning.{Planned, planned_runs}
use Rattle.planning.specs.PlannedLaws.{IsPlanned, is-planned}
use Rattle.recording.specs.declared.recorded.Booking.{Booking}
use Rattle.recording.specs.Recording.{recording}
use Rattle.booking.specs.Booking.{Lent, Steps, planned_for, plan_figures, recording_for, booked, answer_of, lent_after}
use Rattle.booking.specs.BookingLaws.{order-demands, order-spread, planned-series}
use Rattle.booking.specs.Claim.{periods_in, demands_at, CarriedIn, IsSeriesAnswer, LongEnough, InsideCaps, Kept, Demand3, Claim}
use Rattle.booking.specs.CallLaws.{Sizes, sizes_of, written_in, recording_in, booked_in}
use Rattle.booking.specs.StepLaws.{file_of, recording_of, file-fits, written_read, planned-meters, planned-short, steps-figures}

-- ---- A carried cutting is inside the caps

carried-caps : (bs : List ℕ) {ds : List ℕ} {xs : Cutting} → Carried (tariff_in bs) ds xs → Each (InsideCaps bs) xs
carried-caps bs none = tt
carried-caps bs (run f c) = (record { rate = f.fits.rates; depth = f.fits.depths }, carried-caps bs c)

-- ---- The list of calls on lent records is that by their lengths

same-recording : (old : Lent) (x : Planned) → length x.cutting ≤ length old.plan → recording_for old x ≡ recording_in (sizes_of old) x
same-recording old x l =
    ap₂ (λ (n : ℕ) (xs : Cutting). recording (length old.back) (plan_figures x) (plan_file n (length old.bytes) (plan_figures x) xs) x.order.tariff.factor x.demands)
    (filled-length x.cutting old.plan l) (filled-front x.cutting old.plan)

pub booked-sizes : (old : Lent) (bs : List ℕ) → booked old bs ≡ booked_in (sizes_of old) bs
booked-sizes old bs = go (planned_for old bs) refl
  where
    go : (a : Answer Planned) → planned_for old bs ≡ a → booked old bs ≡ booked_in (sizes_of old) bs
    go (refused n) e = sym (then_refused (planned_for old bs) _ e) ∙ then_refused (planned_for old bs) _ e
    go (figures x) e =
        let l = (planned-short bs (length old.demands) (length old.plan) x (is-planned (length old.demands) (length old.plan) bs x e)).0 in
        sym (then_figures (planned_for old bs) (λ x. on_figures (λ y. record { planning = x; recording = y }) (recording_for old x)) e)
        ∙ ap (on_figures (λ y. record { planning = x; recording = y })) (same-recording old x l)
        ∙ then_figures (planned_for old bs) (λ x. on_figures (λ y. record { planning = x; recording = y }) (recording_in (sizes_of old) x)) e

-- ---- The two outcomes

module _ (bs : List ℕ) (h : Bytes bs) (old after : Lent) (answer : Answer Booking) (answers : answer ≡ on_figures answer_of (booked old bs)) (leaves : after ≡ lent_after (booked old bs) old) where
  module _ (o : Order) (e : read_order bs ≡ figures o) (long : LongEnough bs old) where
    order_is : o ≡ order_in bs
    order_is = (read_rules bs o e).1

    rules : OrderRules bs
    rules = (read_rules bs o e).0

    abbrev ds : List ℕ
    ds = demands_at bs

    abbrev t : Tariff
    t = tariff_in bs

    abbrev z : Sizes
    z = sizes_of old

    -- planning rests with the series call
    planned_so : planned_for old bs ≡ planned_runs (order_in bs) ds (length old.plan)
    planned_so =
        let f = order-spread bs o e (length old.demands) long.spreading in
        sym (then_figures (ordered (length old.demands) bs) (λ y. planned_runs y.order y.demands (length old.plan)) f)

    count : length ds ≡ periods_in bs
    count = ap length (sym (order-demands bs o e)) ∙ demands-count bs o e ∙ ap (λ (x : Order). x.periods) order_is

    abbrev series : Answer Cutting
    series = series_of t (length old.plan) ds

    -- ---- no cutting

    module _ (n : ℕ) (s : series ≡ refused n) where
      n_is_7 : n ≡ 7
      n_is_7 =
          let p = subst PeriodsRange (sym count) rules.periods in
          let l = subst (λ (m : ℕ). m ≤ length old.plan) (sym count) long.planning in
          series_refuses t ds (length old.plan) (periods_ok_lem _ p) (tariff_ok_lem t rules.tariff) (le-leb _ _ l) n s

      none_is_7 : series ≡ refused 7
      none_is_7 = s ∙ ap refused n_is_7

      answers_7 : answer ≡ refused 7
      answers_7 =
          let p : planned_for old bs ≡ refused 7 = planned_so ∙ ap (on_figures (λ xs. record { order = order_in bs; demands = ds; cutting = xs })) none_is_7 in
          answers ∙ ap (on_figures answer_of) (sym (then_refused (planned_for old bs) _ p))

      no-cutting : (xs : Cutting) → CarriedIn bs xs → ⊥
      no-cutting = series_none t ds (length old.plan) none_is_7

    -- ---- a plan

    module _ (xs : Cutting) (s : series ≡ figures xs) where
      abbrev x : Planned
      x = record { order = order_in bs; demands = ds; cutting = xs }

      planned-is : planned_for old bs ≡ figures x
      planned-is = planned_so ∙ ap (on_figures (λ ys. record { order = order_in bs; demands = ds; cutting = ys })) s

      is : IsPlanned (length old.demands) (length old.plan) bs x
      is = is-planned (length old.demands) (length old.plan) bs x planned-is

      is-answer : IsSeriesAnswer bs xs
      is-answer = planned-series is

      abbrev file : List ℕ
      file = file_of x

      written_is : written_in z x ≡ figures file
      written_is = file-fits bs h z x is (long.reading xs is-answer) (long.writing xs is-answer)

      abbrev steps : Steps
      steps = record { planning = x; recording = recording_of bs h z x is file }

      booked-is : booked old bs ≡ figures steps
      booked-is = booked-sizes old bs ∙ steps-figures bs h z x is planned-is file written_is

      after_is : after ≡ lent_after (figures steps) old
      after_is = leaves ∙ ap (λ (a : Answer Steps). lent_after a old) booked-is

      kept : Kept bs old after answer steps
      kept =
          record {
            no_step_refuses = booked-is;
            answered = answers ∙ ap (on_figures answer_of) booked-is;
            recorded =
                ap (λ (l : Lent). plan_in (take (length file) l.bytes)) after_is
                ∙ ap plan_in (filled-front file old.bytes)
                ∙ read-holds (length old.back) file _ (written_read bs h z x is file written_is);
            recorded_list = ap (λ (l : Lent). take (length xs) l.back) after_is ∙ filled-front xs old.back;
            recorded_periods = refl;
            is_series_answer = is-answer;
            carried = is-answer.carried;
            metered = (planned-meters bs h z x is).1;
            nothing_discarded = (planned-meters bs h z x is).2;
            inside_caps = carried-caps bs is-answer.carried;
            true_cost = refl;
            no_dearer_than_any = is-answer.cheapest;
          }

    -- ---- one of the two

    abbrev NoPlan : Type 0
    NoPlan = (answer ≡ refused 7) × ((xs : Cutting) → CarriedIn bs xs → ⊥)

    abbrev Plan : Type 0
    Plan = (s : Steps) × Kept bs old after answer s

    outcome : NoPlan ⊎ Plan
    outcome = go series refl
      where
        go : (a : Answer Cutting) → series ≡ a → NoPlan ⊎ Plan
        go (figures xs) s = inr (steps xs s, kept xs s)
        go (refused n) s = inl (answers_7 n s, no-cutting n s)

    not_both : (s : Steps) → Kept bs old after answer s → answer ≡ refused 7 → ⊥
    not_both s k e = figures-refused (sym k.answered ∙ e)

    demand_met : Demand3 bs old after answer
    demand_met =
        record {
          no_plan_only = λ e. ⊎_elim (λ n. n.1) (λ k. absurd (not_both k.0 k.1 e)) outcome;
          no_plan_always = λ none. ⊎_elim (λ n. n.0) (λ k. absurd (none _ k.1.carried)) outcome;
          otherwise = λ not. ⊎_elim (λ n. absurd (not n.0)) (λ k. k) outcome;
        }

  -- ---- The claim

  pub claim-holds : Claim bs old after answer
  claim-holds = record { answers = answers; leaves = leaves; reads_every_order = rules_read bs; demand_3 = demand_met }

-- The list of calls: what it answers depends on the lengths of what is lent alone, and what it leaves, call by call.
-- Assumes nothing.
use Rattle.std.specs.Prelude.{ℕ, ◌≤◌, ◌≡◌, refl, List, length}
use Rattle.std.proofs.Common.{arith, sym, ap, subst, ◌∙◌, le_refl}
use Rattle.std.proofs.Math.Seq.{take-length}
use Rattle.terms.specs.Answer.{Answer, figures, refused, on_figures, and_then}
use Rattle.terms.specs.AnswerLaws.{then_figures, then_refused}
use Rattle.terms.specs.Lent.{filled}
use Rattle.series.specs.OutlineLaws.{carried-count}
use Rattle.series.specs.SeriesLaws.{series-room}
use Rattle.order_file.specs.OrderedLaws.{ordered-count}
use Rattle.plan_file.specs.declared.answers.PlanFigures.{PlanFigures}
use Rattle.plan_file.specs.CallLaws.{any-list}
use Rattle.plan_file.specs.Plan.{plan_file, write_plan}
use Rattle.planning.specs.declared.planned_orders.PlannedOrder.{PlannedOrder}
use Rattle.planning.specs.Planning.{Planned, planned, planned_order}
use Rattle.planning.specs.PlannedLaws.{IsPlanned, planned-cheapest}
use Rattle.planning.specs.CallLaws.{plan-refused, the_plan, plan-found, plan_order_lem, plan-is}
use Rattle.recording.specs.declared.recorded.BookingRecords.{BookingRecords}
use Rattle.recording.specs.Recording.{Recording, recording, written, booking_records}
use Rattle.recording.specs.RecordingLaws.{RecordsPlan}
use Rattle.booking.specs.declared.calls.BookedRecords.{BookedRecords}
use Rattle.booking.specs.Booking.{Lent, Steps, plan_figures, answer_of}

-- ---- The list of calls by the lengths of what is lent

pub record Sizes : Type 0 where
  pub demands : ℕ
  pub plan : ℕ
  pub bytes : ℕ
  pub back : ℕ

-- The same by their parts, for contracts.
abbrev pub sizes : ℕ → ℕ → ℕ → ℕ → Sizes
sizes d l b k = record { demands = d; plan = l; bytes = b; back = k }

abbrev pub sizes_of : Lent → Sizes
sizes_of x = sizes (length x.demands) (length x.plan) (length x.bytes) (length x.back)

module _ (z : Sizes) where
  abbrev pub planned_in : List ℕ → Answer Planned
  planned_in bs = planned z.demands z.plan bs

  -- The file of the plan found.
  abbrev pub file_in : Planned → Answer (List ℕ)
  file_in x = plan_file z.plan z.bytes (plan_figures x) x.cutting

  abbrev pub written_in : Planned → Answer (List ℕ)
  written_in x = written z.back x.order.tariff.factor (plan_figures x) (file_in x)

  abbrev pub recording_in : Planned → Answer Recording
  recording_in x = recording z.back (plan_figures x) (file_in x) x.order.tariff.factor x.demands

  abbrev pub booked_in : List ℕ → Answer Steps
  booked_in bs = and_then (planned_in bs) (λ x. on_figures (λ y. record { planning = x; recording = y }) (recording_in x))

-- ---- Call by call

-- The booking with the order, the records of the plan found and those read back, as they travel below the call.
abbrev pub booked_records : Steps → BookedRecords
booked_records s =
    record {
      booking = answer_of s;
      order = record { order = s.planning.order; demands = s.planning.demands };
      plan = s.planning.cutting;
      back = s.recording.plan.buckets;
    }

-- What the calls answer and what they leave in the bytes.
pub record Called (bs : List ℕ) (z : Sizes) (bytes bytes' : List ℕ) (r : Answer BookedRecords) : Type 0 where
  pub answers : r ≡ on_figures booked_records (booked_in z bs)
  pub writes : bytes' ≡ filled (on_figures (λ s. s.recording.file) (booked_in z bs)) bytes

-- The figures of the plan found for an order.
abbrev pub figures_for : PlannedOrder → PlanFigures
figures_for y = record { periods = y.order.order.periods; buckets = y.plan.buckets; cost = y.plan.cost }

module _ (bs : List ℕ) (entries room : ℕ) (bytes : List ℕ) (space : ℕ) where
  abbrev z : Sizes
  z = sizes entries room (length bytes) space

  pub planning-refused : (n : ℕ) → refused n ≡ on_figures planned_order (planned entries room bs) → Called bs z bytes bytes (refused n)
  planning-refused n f =
      let none : refused n ≡ booked_in z bs = then_refused (planned_in z bs) _ (plan-refused bs entries room n f) in
      record {
        answers = ap (on_figures booked_records) none;
        writes = ap (λ (a : Answer Steps). filled (on_figures (λ s. s.recording.file) a) bytes) none;
      }

  module _ (p : PlannedOrder) (k : figures p ≡ on_figures planned_order (planned entries room bs)) where
    abbrev x : Planned
    x = the_plan bs entries room p k

    is : IsPlanned entries room bs x
    is = plan-is bs entries room p k

    -- the demands are as many as the order says
    pub demands-are : length p.order.demands ≡ p.order.order.periods
    demands-are = ordered-count is.as_ordered

    figures-are : figures_for p ≡ plan_figures x
    figures-are = ap figures_for (sym (plan_order_lem bs entries room p k))

    -- the records of the plan found fit the lent list, so writing from them alone gives the same
    few : length p.records ≤ room
    few =
        let t = p.order.order.tariff in
        omega (arith, carried-count t (planned-cheapest is).carried, series-room t p.order.demands room p.records is.series)

    pub file-is : write_plan (length bytes) (figures_for p) p.records ≡ file_in z x
    file-is =
        ap (λ (y : PlanFigures). write_plan (length bytes) y p.records) figures-are
        ∙ ap (plan_file (length p.records) (length bytes) (plan_figures x)) (take-length p.records)
        ∙ any-list (length p.records) room (length bytes) (plan_figures x) p.records (le_refl _) few

    abbrev steps_with : Recording → Steps
    steps_with y = record { planning = x; recording = y }

    with-recording : on_figures steps_with (recording_in z x) ≡ booked_in z bs
    with-recording = then_figures (planned_in z bs) _ (plan-found bs entries room p k)

    -- a plan recorded, with what planning left
    abbrev booked_with : BookingRecords → BookedRecords
    booked_with b = record { booking = b.booking; order = p.order; plan = p.records; back = b.records }

    booked-is : (a : Answer Recording) → on_figures booked_with (on_figures booking_records a) ≡ on_figures booked_records (on_figures steps_with a)
    booked-is (figures y) = refl
    booked-is (refused n) = refl

    written-is : (a : Answer Recording) → on_figures (λ y. y.file) a ≡ on_figures (λ (s : Steps). s.recording.file) (on_figures steps_with a)
    written-is (figures y) = refl
    written-is (refused n) = refl

    abbrev RecordedBy : PlanFigures → Answer (List ℕ) → List ℕ → Answer BookingRecords → Type 0
    RecordedBy y file = RecordsPlan y file p.order.order.tariff.factor p.order.demands bytes space

    pub plan-recorded : (bytes' : List ℕ) (b : Answer BookingRecords) → RecordedBy (figures_for p) (write_plan (length bytes) (figures_for p) p.records) bytes' b
        → Called bs z bytes bytes' (on_figures booked_with b)
    plan-recorded bytes' b r =
        let on-file = subst (λ (file : Answer (List ℕ)). RecordedBy (figures_for p) file bytes' b) file-is r in
        let c = subst (λ (y : PlanFigures). RecordedBy y (file_in z x) bytes' b) figures-are on-file in
        record {
          answers = ap (on_figures booked_with) c.answers ∙ booked-is (recording_in z x) ∙ ap (on_figures booked_records) with-recording;
          writes =
              c.writes
              ∙ ap (λ (d : Answer (List ℕ)). filled d bytes) (written-is (recording_in z x))
              ∙ ap (λ (a : Answer Steps). filled (on_figures (λ s. s.recording.file) a) bytes) with-recording;
        }

-- Booking: the calls of demand 3 in one list, and what they leave in what is lent (00, demand 3; 01, "Series").
-- Assumes nothing.
use Rattle.std.specs.Prelude.{ℕ, List, length}
use Rattle.terms.specs.Answer.{Answer, figures, on_figures, and_then}
use Rattle.terms.specs.Lent.{filled}
use Rattle.terms.specs.Records.{Cutting}
use Rattle.series.specs.Series.{true_cost_of}
use Rattle.plan_file.specs.declared.answers.PlanFigures.{PlanFigures}
use Rattle.plan_file.specs.Plan.{write_plan}
use Rattle.planning.specs.Planning.{Planned, planned}
use Rattle.recording.specs.declared.recorded.Booking.{Booking}
use Rattle.recording.specs.Recording.{Recording, recording, booking_of}

-- ---- What is lent, as it is at one moment

-- Everything that is lent.
pub record Lent : Type 0 where
  -- the trace is spread into this list
  pub demands : List ℕ
  -- the series is planned into this list of bucket records
  pub plan : Cutting
  -- the plan is written into these bytes
  pub bytes : List ℕ
  -- and read back into this list of bucket records
  pub back : Cutting

-- The same by its parts, for contracts.
abbrev pub lent : List ℕ → Cutting → List ℕ → Cutting → Lent
lent ds l bs k = record { demands = ds; plan = l; bytes = bs; back = k }

-- ---- The whole list of calls, on what is lent

-- What all the calls give.
pub record Steps : Type 0 where
  pub planning : Planned
  pub recording : Recording

-- An order's bytes are planned on what is lent.
abbrev pub planned_for : Lent → List ℕ → Answer Planned
planned_for lent bs = planned (length lent.demands) (length lent.plan) bs

-- The plan's figures: the order's T, the number of buckets and the cost found.
abbrev pub plan_figures : Planned → PlanFigures
plan_figures x = record { periods = x.order.periods; buckets = length x.cutting; cost = true_cost_of x.order.tariff x.cutting }

-- The plan is written from the list as planning has left it, read back and metered.
abbrev pub recording_for : Lent → Planned → Answer Recording
recording_for lent x =
    let list = filled (figures x.cutting) lent.plan in
    recording (length lent.back) (plan_figures x) (write_plan (length lent.bytes) (plan_figures x) list) x.order.tariff.factor x.demands

-- The first refusal ends the list.
abbrev pub booked : Lent → List ℕ → Answer Steps
booked lent bs = and_then (planned_for lent bs) (λ x. on_figures (λ y. record { planning = x; recording = y }) (recording_for lent x))

-- ---- What is answered and left

-- The figures that are answered.
abbrev pub answer_of : Steps → Booking
answer_of s = booking_of s.recording

-- What is lent afterwards: each front is filled; what lies after it, and everything on a refusal, is as it was.
abbrev pub lent_after : Answer Steps → Lent → Lent
lent_after a old =
    record {
      demands = filled (on_figures (λ s. s.planning.demands) a) old.demands;
      plan = filled (on_figures (λ s. s.planning.cutting) a) old.plan;
      bytes = filled (on_figures (λ s. s.recording.file) a) old.bytes;
      back = filled (on_figures (λ s. s.recording.plan.buckets) a) old.back;
    }

-- A plan recorded: written, read back, and each of its runs metered (00, demand 3; 01, "Series").
-- Assumes nothing.
use Rattle.std.specs.Prelude.{ℕ, List, [], ◌∷◌, leb, length, take, drop}
use Rattle.terms.specs.declared.Factor.{Factor}
use Rattle.terms.specs.Answer.{Answer, figures, weigh, on_figures, and_then}
use Rattle.terms.specs.Ranges.{factor_ok}
use Rattle.terms.specs.Records.{Cutting, run_length, total}
use Rattle.meter.specs.declared.meters.Meter.{Meter}
use Rattle.meter.specs.Meter.{meter_run}
use Rattle.plan_file.specs.declared.answers.PlanFigures.{PlanFigures}
use Rattle.plan_file.specs.declared.answers.Recorded.{Recorded}
use Rattle.plan_file.specs.Plan.{read_plan}
use Rattle.recording.specs.declared.metering.MeterTotals.{MeterTotals}
use Rattle.recording.specs.declared.recorded.Booking.{Booking}
use Rattle.recording.specs.declared.recorded.BookingRecords.{BookingRecords}

-- What recording a plan gives: the bytes written, what is read back from them, and the meters of its runs.
pub record Recording : Type 0 where
  pub file : List ℕ
  pub plan : Recorded
  pub meters : List Meter

-- The plan is written; `file` is what writing it gives. That a meter can be opened with the factor, and that the
-- records can be read back into `space` entries, is weighed first, so that a refusal comes before anything is written.
abbrev pub written : ℕ → Factor → PlanFigures → Answer (List ℕ) → Answer (List ℕ)
written space f x file = weigh (factor_ok f) 5 (weigh (leb x.buckets space) 6 file)

-- Run by run a meter is opened on the recorded bucket with the factor and is offered the run's demands, first to last.
unfoldable pub meters_of : Factor → List ℕ → Cutting → Answer (List Meter)
meters_of f ds [] = figures []
meters_of f ds (x ∷ xs) = and_then (meter_run x.bucket f (take (run_length x) ds)) (λ m. on_figures (m ∷◌) (meters_of f (drop (run_length x) ds) xs))

-- The plan is read back and its runs are metered, with the order's p and q and its demands.
abbrev pub read_back : ℕ → Factor → List ℕ → List ℕ → Answer Recording
read_back space f ds file = and_then (read_plan space file) (λ y. on_figures (λ ms. record { file = file; plan = y; meters = ms }) (meters_of f ds y.buckets))

-- … all of these, one after the other.
abbrev pub recording : ℕ → PlanFigures → Answer (List ℕ) → Factor → List ℕ → Answer Recording
recording space x file f ds = and_then (written space f x file) (read_back space f ds)

-- ---- What is answered

-- What the meters ended with, summed over the runs.
abbrev pub totals_of : List Meter → MeterTotals
totals_of ms = record { sent = total (λ m. m.sent) ms; over = total (λ m. m.over) ms; lost = total (λ m. m.lost) ms; held = total (λ m. m.held) ms }

-- The figures that are answered: those of the plan read back, the file's length, and what the meters ended with.
abbrev pub booking_of : Recording → Booking
booking_of x =
    record {
      plan = record { periods = x.plan.periods; buckets = length x.plan.buckets; cost = x.plan.cost };
      length = length x.file;
      meters = totals_of x.meters;
    }

-- That booking, with the records read back.
abbrev pub booking_records : Recording → BookingRecords
booking_records x = record { booking = booking_of x; records = x.plan.buckets }

-- What the exported calls answer and leave, on numbers and lists alone: each definition is that of a call, from an
-- order's or a plan's bytes, with 512 entries for whatever a call needs and the caller does not lend.
-- Assumes nothing.
use Rattle.std.specs.Prelude.{ℕ, ◌+◌, List, [], ◌∷◌, leb, eqb, length}
use Rattle.terms.specs.declared.Bucket.{Bucket}
use Rattle.terms.specs.declared.Factor.{Factor}
use Rattle.terms.specs.Answer.{Answer, figures, refused, weigh, on_figures, and_then}
use Rattle.terms.specs.Limits.{trace_limit}
use Rattle.terms.specs.Ranges.{fresh_ok, periods_ok}
use Rattle.meter.specs.declared.meters.Meter.{Meter}
use Rattle.meter.specs.Meter.{meter_run}
use Rattle.series.specs.Series.{true_cost_of}
use Rattle.order_file.specs.Order.{write_order}
use Rattle.plan_file.specs.declared.answers.Recorded.{Recorded}
use Rattle.plan_file.specs.Plan.{plan_file, read_plan}
use Rattle.planning.specs.Planning.{planned}
use Rattle.booking.specs.Booking.{plan_figures}
use Rattle.causes.specs.Cause.{SetBy, nothing, opening, stretch}
use Rattle.checking.specs.declared.verdicts.Verdict.{Verdict}
use Rattle.checking.specs.declared.verdicts.Verdict.TheVariants.{Yes, No}
use Rattle.typed_figures.specs.Figures.{tariff_figures, tariff_of}
use Rattle.exports.specs.declared.explaining.CauseNumbers.{CauseNumbers}
use Rattle.exports.specs.Lists.{RecordLists, room_of}

-- ---- An answer as one number

-- Above every figure that is answered.
abbrev pub refused_from : ℕ
refused_from = 1000000000000000000

-- The figure itself, or the refusal's number from there on.
abbrev pub coded : Answer ℕ → ℕ
coded (figures n) = n
coded (refused n) = refused_from + n

-- The starting factor p/q.
abbrev pub factor_of : ℕ → ℕ → Factor
factor_of p q = record { p = p; q = q }

-- ---- Orders

-- An order's file from the tariff's seven figures and the demands (01, "The two files"). 3: T; 5: another number of
-- figures than seven, or the tariff; 6: bytes fewer than the file.
unfoldable pub order_from : ℕ → List ℕ → List ℕ → Answer (List ℕ)
order_from room fs ds = weigh (periods_ok (length ds)) 3 (weigh (eqb (length fs) tariff_figures) 5 (write_order room (tariff_of fs) ds))

-- ---- Plans

-- The cost of the cheapest plan for an order (01, "Series"): 1 to 5 as reading gives it, 7 where there is none.
abbrev pub planned_cost : List ℕ → Answer ℕ
planned_cost bs = on_figures (λ x. true_cost_of x.order.tariff x.cutting) (planned trace_limit trace_limit bs)

-- The file of that plan in `room` bytes (01, "The two files"): the same, then 6.
abbrev pub plan_file_in : ℕ → List ℕ → Answer (List ℕ)
plan_file_in room bs = and_then (planned trace_limit trace_limit bs) (λ x. plan_file trace_limit room (plan_figures x) x.cutting)

-- A plan file read into three lists of the caller's (01, "The two files"): 1 to 5, then 6 for a list with fewer entries
-- than buckets.
abbrev pub read_in : List ℕ → RecordLists → Answer Recorded
read_in bs l = read_plan (room_of l.runs l.rates l.depths) bs

-- ---- What sets a depth

-- As numbers (02, job 3): 0 for nothing, 1 for an opening, 2 for a stretch; then the first and the last of its periods.
abbrev pub cause_numbers : SetBy → CauseNumbers
cause_numbers nothing = record { cause = 0; first = 0; last = 0 }
cause_numbers (opening v) = record { cause = 1; first = 1; last = v }
cause_numbers (stretch u v) = record { cause = 2; first = u; last = v }

-- ---- Checks

-- A verdict as a number: 1 for yes, 0 for no (02, job 1).
abbrev pub verdict_code : Verdict → ℕ
verdict_code (Yes excess) = 1
verdict_code No = 0

-- What a lent number holds after a check: with a yes the excess, else what it held.
abbrev pub excess_or : Answer Verdict → ℕ → ℕ
excess_or (figures (Yes excess)) old = excess
excess_or (figures No) old = old
excess_or (refused n) old = old

-- ---- Meters

-- Tokens held, periods, and the totals of sent, over and lost (01, "The bucket").
abbrev pub meter_figures : Meter → List ℕ
meter_figures m = m.held ∷ m.periods ∷ m.sent ∷ m.over ∷ m.lost ∷ []

-- A meter opened and offered a list of demands, its figures in a list of `room` entries. 5: the bucket or the factor;
-- 6: fewer entries than five; 9: more demands than a meter takes.
unfoldable pub meter_in : ℕ → Bucket → Factor → List ℕ → Answer Meter
meter_in room b f ds = weigh (fresh_ok b f) 5 (weigh (leb 5 room) 6 (meter_run b f ds))

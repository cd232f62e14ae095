-- Demand 3 of the service sheet as one claim about the list of calls, sentence by sentence (00, demand 3; 01, "Series",
-- which says what a cutting, carried, true cost, recorded and "as long as the work needs" are).
-- docs/CLAIM.md lays the two side by side.
-- Assumes nothing.
use Rattle.std.specs.Prelude.{ℕ, ◌≤◌, ◌≡◌, List, length, take}
use Rattle.terms.specs.declared.BucketRecord.{BucketRecord}
use Rattle.terms.specs.Answer.{Answer, figures, refused, on_figures}
use Rattle.terms.specs.Records.{Cutting, run_rate, run_depth, Each}
use Rattle.series.specs.Series.{Carried, Cheapest, true_cost_of}
use Rattle.encoding.specs.Number.{number_at, items_at}
use Rattle.order_file.specs.declared.orders.Order.{Order}
use Rattle.order_file.specs.Order.{trace_offset, tariff_in, order_in, read_order, OrderRules}
use Rattle.plan_file.specs.Plan.{plan_in, plan_length}
use Rattle.recording.specs.declared.recorded.Booking.{Booking}
use Rattle.recording.specs.Recording.{meters_of}
use Rattle.booking.specs.Booking.{Lent, Steps, booked, answer_of, lent_after}

-- ---- What the sentences speak of, in the bytes of an order file

-- T
abbrev pub periods_in : List ℕ → ℕ
periods_in bs = number_at 4 bs 4

-- The demands: T numbers of 2 bytes, from the offset of trace on. (The tariff is `tariff_in`,
-- figure by figure at its place.)
abbrev pub demands_at : List ℕ → List ℕ
demands_at bs = items_at (number_at 2 bs) 2 (periods_in bs) trace_offset

-- A cutting of the periods is carried: its runs make up the demands in the file, no rate or depth is above its cap, and
-- each bucket, fresh with the order's p/q, has nothing over in any period of its run.
abbrev pub CarriedIn : List ℕ → Cutting → Type 0
CarriedIn bs = Carried (tariff_in bs) (demands_at bs)

-- Its true cost: from its run lengths, rates and depths and the order's tariff.
abbrev pub cost_in : List ℕ → Cutting → ℕ
cost_in bs = true_cost_of (tariff_in bs)

-- The series answer of document 01: carried, each bucket the single answer for its run, no carried cutting cheaper, and
-- none as cheap with fewer buckets, or with as many and a longer first run, and so on.
abbrev pub IsSeriesAnswer : List ℕ → Cutting → Type 0
IsSeriesAnswer bs = Cheapest (tariff_in bs) (demands_at bs)

-- As long as the work needs: T entries for spreading and planning; k for the list read into, and the file length for
-- the bytes, where there is a series answer, k being its number of buckets.
pub record LongEnough (bs : List ℕ) (lent : Lent) : Type 0 where
  pub spreading : periods_in bs ≤ length lent.demands
  pub planning : periods_in bs ≤ length lent.plan
  pub writing : (xs : Cutting) → IsSeriesAnswer bs xs → plan_length (length xs) ≤ length lent.bytes
  pub reading : (xs : Cutting) → IsSeriesAnswer bs xs → length xs ≤ length lent.back

-- ---- What is found afterwards

-- A rate and a depth inside the caps.
pub record InsideCaps (bs : List ℕ) (x : BucketRecord) : Type 0 where
  pub rate : run_rate x ≤ (tariff_in bs).rate_cap.0
  pub depth : run_depth x ≤ (tariff_in bs).depth_cap.0

-- "Otherwise ..": the calls gave s, and `after` is what they left in what was lent.
pub record Kept (bs : List ℕ) (lent after : Lent) (answer : Answer Booking) (s : Steps) : Type 0 where
  -- "no step refuses":
  pub no_step_refuses : booked lent bs ≡ figures s
  pub answered : answer ≡ figures (answer_of s)
  -- what is recorded is what reading back the front of the bytes gives, and the list read into begins with its buckets
  pub recorded : plan_in (take (length s.recording.file) after.bytes) ≡ figures s.recording.plan
  pub recorded_list : let xs = s.recording.plan.buckets in take (length xs) after.back ≡ xs
  pub recorded_periods : s.recording.plan.periods ≡ periods_in bs
  -- "the recorded plan is the series answer of document 01"
  pub is_series_answer : IsSeriesAnswer bs s.recording.plan.buckets
  -- "and is itself carried in that way,"
  pub carried : CarriedIn bs s.recording.plan.buckets
  -- "and the meters discard nothing.": those on the recorded buckets, with the order's p and q,
  -- offered the demands in the file
  pub metered : meters_of (tariff_in bs).factor (demands_at bs) s.recording.plan.buckets ≡ figures s.recording.meters
  pub nothing_discarded : Each (λ m. m.over ≡ 0) s.recording.meters
  -- "Every recorded rate and depth is inside the caps,"
  pub inside_caps : Each (InsideCaps bs) s.recording.plan.buckets
  -- "and the recorded cost is the plan's true cost."
  pub true_cost : s.recording.plan.cost ≡ cost_in bs s.recording.plan.buckets
  -- "Every other cutting carried in that way, the same runs with other such buckets included,
  -- has a true cost at least as high."
  pub no_dearer_than_any : (ys : Cutting) → CarriedIn bs ys → s.recording.plan.cost ≤ cost_in bs ys

pub record Demand3 (bs : List ℕ) (lent after : Lent) (answer : Answer Booking) : Type 0 where
  -- "'No plan' stands exactly when there is no cutting of the periods into runs with a bucket for each, of whole-number
  -- rate and depth inside the caps, that carries its run."
  pub no_plan_only : answer ≡ refused 7 → (xs : Cutting) → CarriedIn bs xs → ⊥
  pub no_plan_always : ((xs : Cutting) → CarriedIn bs xs → ⊥) → answer ≡ refused 7
  -- "Otherwise .."
  pub otherwise : (answer ≡ refused 7 → ⊥) → (s : Steps) × Kept bs lent after answer s

-- ---- The claim

-- What one call promises of the order file's bytes, of what was lent,
-- of what it answers and of what is lent afterwards.
pub record Claim (bs : List ℕ) (lent after : Lent) (answer : Answer Booking) : Type 0 where
  -- for every input: the whole result and everything lent
  pub answers : answer ≡ on_figures answer_of (booked lent bs)
  pub leaves : after ≡ lent_after (booked lent bs) lent
  -- "(every one that breaks no rule of its format is)"
  pub reads_every_order : OrderRules bs → read_order bs ≡ figures (order_in bs)
  -- "Take any order file that is read and any lent lists and bytes as long as the work needs,
  -- whatever they held before."
  pub demand_3 : (o : Order) → read_order bs ≡ figures o → LongEnough bs lent → Demand3 bs lent after answer

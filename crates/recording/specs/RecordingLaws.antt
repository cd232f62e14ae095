-- What recording a plan leaves, call by call.
-- Assumes nothing.
use Rattle.std.specs.Prelude.{ℕ, suc, ◌≤◌, ◌<◌, ◌≡◌, refl, Bool, true, false, List, [], ◌∷◌, leb, length, take, drop, get_or}
use Rattle.std.proofs.Common.{arith, sym, ap, ap₂, subst, ◌∙◌, le-leb, length-take, length-drop, length-take-le}
use Rattle.terms.specs.declared.Factor.{Factor}
use Rattle.terms.specs.Answer.{Answer, figures, refused, weigh, on_figures}
use Rattle.terms.specs.AnswerLaws.{figures-refused, same-figures, on_refused, then_figures, then_refused}
use Rattle.terms.specs.Lent.{filled}
use Rattle.terms.specs.LentLaws.{fills_front, front-count}
use Rattle.terms.specs.Limits.{trace_limit}
use Rattle.terms.specs.RangeLaws.{factor_range}
use Rattle.terms.specs.RangeRules.{FactorRange, FreshRange, RecordRange}
use Rattle.terms.specs.Ranges.{factor_ok}
use Rattle.terms.specs.Records.{Cutting, run_length, total}
use Rattle.bucket.specs.Laws.{demands-take, demands-drop}
use Rattle.bucket.specs.Trace.{Demands}
use Rattle.meter.specs.declared.meters.Meter.{Meter}
use Rattle.meter.specs.Meter.{meter_on}
use Rattle.meter.specs.MeterRuns.{run-metered}
use Rattle.plan_file.specs.declared.answers.PlanFigures.{PlanFigures}
use Rattle.plan_file.specs.declared.answers.Recorded.{Recorded}
use Rattle.plan_file.specs.Plan.{figures_in, read_plan, write_plan}
use Rattle.plan_file.specs.PlanLaws.{file-read}
use Rattle.plan_file.specs.PlanRules.{CountsRange, WriteRules, write_rules}
use Rattle.record_list.specs.Held.{no_record}
use Rattle.recording.specs.declared.recorded.BookingRecords.{BookingRecords}
use Rattle.recording.specs.declared.metering.MeterTotals.{MeterTotals}
use Rattle.recording.specs.Recording.{Recording, written, read_back, meters_of, totals_of, recording, booking_records}

-- What recording a plan answers that is read back into a list of `space` records: the booking and the records read
-- back; and what the bytes then hold, after a refusal what they held. `file` is what writing it gives.
pub record RecordsPlan (x : PlanFigures) (file : Answer (List ℕ)) (f : Factor) (ds : List ℕ) (bytes : List ℕ) (space : ℕ) (bytes' : List ℕ) (answer : Answer BookingRecords) : Type 0 where
  pub answers : answer ≡ on_figures booking_records (recording space x file f ds)
  pub writes : bytes' ≡ filled (on_figures (λ y. y.file) (recording space x file f ds)) bytes

-- The booking of a plan read back, with what the meters ended with, and the records read.
abbrev pub with_meters : Recorded → ℕ → MeterTotals → BookingRecords
with_meters y n t = record { booking = record { plan = figures_in y; length = n; meters = t }; records = y.buckets }

-- What recording gives is what is promised of what it has filled.
module _ (x : PlanFigures) (file : Answer (List ℕ)) (f : Factor) (ds bytes : List ℕ) (space : ℕ) where
  abbrev Records : List ℕ → Answer BookingRecords → Type 0
  Records = RecordsPlan x file f ds bytes space

  records_as : (a : Answer Recording) → recording space x file f ds ≡ a → (bytes' : List ℕ) → bytes' ≡ filled (on_figures (λ y. y.file) a) bytes
      → (r : Answer BookingRecords) → r ≡ on_figures booking_records a → Records bytes' r
  records_as a e bytes' b r h =
      record {
        answers = h ∙ ap (on_figures booking_records) (sym e);
        writes = b ∙ ap (λ (c : Answer Recording). filled (on_figures (λ y. y.file) c) bytes) (sym e);
      }

  refuses : (n : ℕ) → written space f x file ≡ refused n → Records bytes (refused n)
  refuses n e = records_as (refused n) (sym (then_refused (written space f x file) _ e)) bytes refl (refused n) refl

  -- A factor outside its range, a second list with too little room and a refusal to write leave the bytes as they are.
  pub no-factor : factor_ok f ≡ false → Records bytes (refused 5)
  no-factor h = refuses 5 (ap (λ (ok : Bool). weigh ok 5 (weigh (leb x.buckets space) 6 file)) h)

  module _ (opens : factor_ok f ≡ true) where
    pub no_room : leb x.buckets space ≡ false → Records bytes (refused 6)
    no_room h = refuses 6 (ap₂ (λ (a b : Bool). weigh a 5 (weigh b 6 file)) opens h)

    module _ (h : leb x.buckets space ≡ true) where
      file-is : written space f x file ≡ file
      file-is = ap₂ (λ (c d : Bool). weigh c 5 (weigh d 6 file)) opens h

      pub write_refused : (bytes' : List ℕ) → bytes' ≡ filled file bytes → (n : ℕ) → refused n ≡ on_figures length file → Records bytes' (refused n)
      write_refused bytes' b n e =
          let g = on_refused length file (sym e) in
          let same : bytes ≡ bytes' = sym (b ∙ ap (λ (a : Answer (List ℕ)). filled a bytes) g) in
          subst (λ (bs : List ℕ). Records bs (refused n)) same (refuses n (file-is ∙ g))

-- The meters of records in their ranges, opened with a factor in its own, refuse nothing.
meters_run : (f : Factor) → FactorRange f → (ds : List ℕ) → Demands ds → length ds ≤ trace_limit → (xs : Cutting)
    → ((i : ℕ) → i < length xs → RecordRange (get_or xs i no_record)) → (ms : List Meter) × (meters_of f ds xs ≡ figures ms)
unfolding meters_of
meters_run f r ds d l [] h = ([], refl)
meters_run f r ds d l (x ∷ xs) h =
    let n = run_length x in
    let range : FreshRange x.bucket f = record { bucket = (h 0 (omega arith)).bucket; factor = r } in
    let m = run-metered x.bucket f range (take n ds) (demands-take n ds d) (omega (arith, length-take n ds)) in
    let rest = meters_run f r (drop n ds) (demands-drop n ds d) (omega (arith, length-drop n ds)) xs (λ i k. h (suc i) (omega arith)) in
    (meter_on x.bucket f (take n ds) ∷ rest.0, rw (m, rest.1) refl)

-- A plan that was written: n bytes stand at the front of those that were lent.
module _ (x : PlanFigures) (list : Cutting) (bytes bytes' : List ℕ) (n : ℕ)
    (e : figures n ≡ on_figures length (write_plan (length bytes) x list)) (b : bytes' ≡ filled (write_plan (length bytes) x list) bytes) where
  abbrev xs : Cutting
  xs = take x.buckets list

  abbrev front : List ℕ
  front = take n bytes'

  written-front : write_plan (length bytes) x list ≡ figures front
  written-front = fills_front (write_plan (length bytes) x list) bytes bytes' n e b

  rules : WriteRules (length list) (length bytes) x xs front
  rules = write_rules (length list) (length bytes) x xs front written-front

  count : length xs ≡ x.buckets
  count = length-take-le x.buckets list rules.list

  module _ (space : ℕ) (fits : x.buckets ≤ space) where
    -- what was written is read back
    reads-front : read_plan space front ≡ figures (record { periods = x.periods; cost = x.cost; buckets = xs })
    reads-front = file-read (length list) (length bytes) x xs front count written-front space fits

    pub read_taken : (m : ℕ) → refused m ≡ read_plan space front → ⊥
    read_taken m g = figures-refused (sym (g ∙ reads-front))

    module _ (back : Recorded) (g : figures back ≡ read_plan space front) (ds : List ℕ) (q : x.periods ≡ length ds) where
      back-records : back.buckets ≡ xs
      back-records = ap (λ (z : Recorded). z.buckets) (same-figures (g ∙ reads-front))

      -- so the records read can be metered on a trace of T periods
      pub back_ready : CountsRange (length ds) (length back.buckets) × (total run_length back.buckets ≡ length ds)
      back_ready = (
        subst (λ (T : ℕ). CountsRange T (length back.buckets)) q (subst (CountsRange x.periods) (sym (ap length back-records ∙ count)) rules.counts),
        ap (total run_length) back-records ∙ rules.records.sum ∙ q,
      )

      -- and no meter refuses
      pub meters_taken : (f : Factor) → factor_ok f ≡ true → Demands ds → (m : ℕ) → refused m ≡ on_figures totals_of (meters_of f ds back.buckets) → ⊥
      meters_taken f opens d m h =
          let metered = meters_run f (factor_range f opens) ds d (omega (arith, q, rules.counts.periods.few)) xs rules.records.each in
          let totals = ap (λ (ys : Cutting). on_figures totals_of (meters_of f ds ys)) back-records ∙ ap (on_figures totals_of) metered.1 in
          figures-refused (sym (h ∙ totals))

      -- so recording is whole once the plan is written, with what the meters ended with
      pub plan-metered : (f : Factor) → factor_ok f ≡ true → Demands ds → (t : Answer MeterTotals) → t ≡ on_figures totals_of (meters_of f ds back.buckets)
          → RecordsPlan x (write_plan (length bytes) x list) f ds bytes space bytes' (on_figures (with_meters back n) t)
      plan-metered f opens d t m =
          let writing = write_plan (length bytes) x list in
          let plan : Recorded = record { periods = x.periods; cost = x.cost; buckets = xs } in
          let metered = meters_run f (factor_range f opens) ds d (omega (arith, q, rules.counts.periods.few)) xs rules.records.each in
          let made : Recording = record { file = front; plan = plan; meters = metered.0 } in
          let so : recording space x writing f ds ≡ figures made =
          sym (then_figures (written space f x writing) (read_back space f ds) (file-is x writing f ds bytes space opens (le-leb _ _ fits) ∙ written-front))
          ∙ sym (then_figures (read_plan space front) _ reads-front)
          ∙ ap (on_figures (λ ms. record { file = front; plan = plan; meters = ms })) metered.1 in
          let totals = m ∙ ap (λ (ys : Cutting). on_figures totals_of (meters_of f ds ys)) back-records ∙ ap (on_figures totals_of) metered.1 in
          let back-is : back ≡ plan = same-figures (g ∙ reads-front) in
          let answer : figures (with_meters back n (totals_of metered.0)) ≡ figures (booking_records made) =
          ap₂ (λ (y : Recorded) (k : ℕ). figures (with_meters y k (totals_of metered.0))) back-is (sym (front-count writing bytes bytes' n e b)) in
          records_as x writing f ds bytes space (figures made) so bytes' (b ∙ ap (λ (a : Answer (List ℕ)). filled a bytes) written-front) _
          (ap (on_figures (with_meters back n)) totals ∙ answer)

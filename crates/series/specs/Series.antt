-- The cheapest cutting of a trace into runs with a bucket each (01, "Series"; refusals 3, 5, 6 and 7).
-- The search goes from the end of the trace to its start. That no carried cutting does better, whatever its runs and
-- its buckets, is a law (`SeriesLaws.series-cheapest`).
-- Assumes nothing.
use Rattle.std.specs.Prelude.{ℕ, ◌≤◌, ◌≡◌, Bool, false, List, leb, length}
use Rattle.terms.specs.declared.BucketRecord.{BucketRecord}
use Rattle.terms.specs.declared.Tariff.{Tariff}
use Rattle.terms.specs.Answer.{Answer, weigh, on_figures}
use Rattle.terms.specs.Ranges.{periods_ok, tariff_ok}
use Rattle.terms.specs.Records.{Cutting, run_length, total}
use Rattle.single.specs.declared.costs.Priced.{Priced}
use Rattle.single.specs.Cost.{cost_of}
use Rattle.single.specs.Single.{Serves, cheapest_of}
use Rattle.series.specs.declared.answers.Plan.{Plan}
use Rattle.series.specs.declared.answers.SeriesRecords.{SeriesRecords}
use Rattle.series.specs.Cutting.{Cuts, Choices, wins, best}

-- A run is billed for its exact length, with its own fee.
abbrev pub run_cost : Tariff → BucketRecord → ℕ
run_cost t x = cost_of t x.periods x.bucket

-- True cost, document 01's term.
abbrev pub true_cost_of : Tariff → Cutting → ℕ
true_cost_of t = total (run_cost t)

-- The bucket of a record is inside the caps and, fresh, carries the run.
abbrev pub ServesRun : Tariff → List ℕ → BucketRecord → Type 0
ServesRun t run x = Serves t run x.bucket

-- Carried, document 01's term: the runs make up the trace, and each bucket serves its run.
abbrev pub Carried : Tariff → List ℕ → Cutting → Type 0
Carried t = Cuts run_length (ServesRun t)

-- xs is chosen before ys: the least cost; then fewer buckets; then the longer first run, the longer second and so on.
abbrev pub cutting_preferred : Tariff → Cutting → Cutting → Bool
cutting_preferred t = wins run_length (run_cost t)

-- The record of a run of n periods with the bucket found for it.
abbrev pub record_for : ℕ → Answer Priced → Answer BucketRecord
record_for n = on_figures (λ x. record { periods = n; bucket = x.bucket })

-- The record of a run with its single bucket.
abbrev pub run_record : Tariff → List ℕ → Answer BucketRecord
run_record t run = record_for (length run) (cheapest_of t run)

-- Each bucket is the single answer for its run.
abbrev pub Singles : Tariff → List ℕ → Cutting → Type 0
Singles t = Choices run_length (run_record t)

-- xs is the series answer of document 01 for the trace.
pub record Cheapest (t : Tariff) (ds : List ℕ) (xs : Cutting) : Type 0 where
  pub carried : Carried t ds xs
  pub singles : Singles t ds xs
  pub cheapest : (ys : Cutting) → Carried t ds ys → true_cost_of t xs ≤ true_cost_of t ys
  pub none_preferred : (ys : Cutting) → Carried t ds ys → cutting_preferred t ys xs ≡ false

-- The best cutting of a trace, by a search.
abbrev pub cheapest_cut : Tariff → List ℕ → Answer Cutting
cheapest_cut t = best run_length (run_cost t) (run_record t)

-- 3: the trace's length; 5: the tariff; 6: a lent list with fewer entries than periods; 7: no cutting.
unfoldable pub series_of : Tariff → ℕ → List ℕ → Answer Cutting
series_of t room ds = weigh (periods_ok (length ds)) 3 (weigh (tariff_ok t) 5 (weigh (leb (length ds) room) 6 (cheapest_cut t ds)))

-- The figures that are answered: the number of buckets and the cost.
abbrev pub plan_of : Tariff → Answer Cutting → Answer Plan
plan_of t = on_figures (λ xs. record { buckets = length xs; cost = true_cost_of t xs })

-- The same with the records, as a plan travels below the offered calls.
abbrev pub found_of : Tariff → Cutting → SeriesRecords
found_of t xs = record { plan = record { buckets = length xs; cost = true_cost_of t xs }; records = xs }

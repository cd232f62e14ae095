-- The single bucket: the pair inside the caps that carries the trace at least cost (01, "Single"; refusals 3, 5 and 7).
-- Each rate is weighed at its smallest depth. That no other pair does better is a law (`SingleLaws.single_cheapest`).
-- Assumes nothing.
use Rattle.std.specs.Prelude.{ℕ, zero, suc, ◌≤◌, ◌≡◌, true, List, length}
use Rattle.terms.specs.declared.Bucket.{Bucket}
use Rattle.terms.specs.declared.Tariff.{Tariff}
use Rattle.terms.specs.Answer.{Answer, refused, weigh, on_figures, choose}
use Rattle.terms.specs.Ranges.{periods_ok, tariff_ok}
use Rattle.bucket.specs.Trace.{carries}
use Rattle.depth.specs.Depth.{tariff_depth}
use Rattle.single.specs.declared.costs.Priced.{Priced}
use Rattle.single.specs.Cost.{priced_at}
use Rattle.single.specs.Preference.{preferred}
use Rattle.single.specs.Rates.{candidates}

abbrev pub bucket_of : ℕ → ℕ → Bucket
bucket_of r B = record { rate = record { 0 = r }; depth = record { 0 = B } }

-- A bucket inside the caps that carries the trace.
pub record Serves (t : Tariff) (ds : List ℕ) (b : Bucket) : Type 0 where
  pub rates : b.rate.0 ≤ t.rate_cap.0
  pub depths : b.depth.0 ≤ t.depth_cap.0
  pub carried : carries t.factor.p t.factor.q b.rate.0 b.depth.0 ds ≡ true

-- The bucket with rate r and the depth found for it, priced over n periods; a rate with no depth has none.
abbrev pub at_depth : Tariff → ℕ → ℕ → Answer ℕ → Answer Priced
at_depth t n r = on_figures (λ B. priced_at t n (bucket_of r B))

-- The bucket that a rate is weighed by: its smallest depth inside the cap.
abbrev pub at_rate : Tariff → List ℕ → ℕ → Answer Priced
at_rate t ds r = at_depth t (length ds) r (tariff_depth t r ds)

-- What was found so far, or the new one where that is preferred; a rate with no depth is passed over.
abbrev pub better : Answer Priced → Answer Priced → Answer Priced
better = choose preferred

-- The best of the first k candidate rates.
unfoldable pub best_of : Tariff → List ℕ → ℕ → Answer Priced
best_of t ds zero = refused 7
best_of t ds (suc k) = better (best_of t ds k) (at_rate t ds k)

-- … and of all of them: the single bucket of a trace, or of a run.
abbrev pub cheapest_of : Tariff → List ℕ → Answer Priced
cheapest_of t ds = best_of t ds (candidates t)

-- 3: the trace's length; 5: the tariff; 7: no bucket.
unfoldable pub single_of : Tariff → List ℕ → Answer Priced
single_of t ds = weigh (periods_ok (length ds)) 3 (weigh (tariff_ok t) 5 (cheapest_of t ds))

-- The printed sheet of an order (01, "The printed sheet").
-- Assumes nothing.
use Rattle.std.specs.Prelude.{ℕ, ◌+◌, ◌-◌, List, [], ◌∷◌, ◌++◌, length, take, drop}
use Rattle.terms.specs.declared.Bucket.{Bucket}
use Rattle.terms.specs.declared.Factor.{Factor}
use Rattle.terms.specs.Answer.{Answer, and_then}
use Rattle.terms.specs.Limits.{trace_limit}
use Rattle.terms.specs.Records.{Cutting, run_length}
use Rattle.bucket.specs.Trial.{trial_figures}
use Rattle.series.specs.Series.{true_cost_of}
use Rattle.text.specs.Lines.{plan_line, bucket_line}
use Rattle.text.specs.Fitted.{fitted}
use Rattle.planning.specs.Planning.{Planned, planned}

-- A run's line: its first and last period, its bucket, and the spare of that bucket, fresh with the factor,
-- on the run's own demands.
abbrev pub run_line : Factor → ℕ → Bucket → List ℕ → List ℕ
run_line f first b ds = bucket_line first (first + length ds - 1) b (trial_figures b f ds).spare

-- The lines of the runs that begin at period `first`, one behind the other.
unfoldable pub run_lines : Factor → ℕ → List ℕ → Cutting → List ℕ
run_lines f first ds [] = []
run_lines f first ds (x ∷ xs) = run_line f first x.bucket (take (run_length x) ds) ++ run_lines f (first + run_length x) (drop (run_length x) ds) xs

-- The first line and the runs' lines. Periods count from 1.
abbrev pub sheet_text : Planned → List ℕ
sheet_text x =
    plan_line x.order.periods (length x.cutting) (true_cost_of x.order.tariff x.cutting) ++ run_lines x.order.tariff.factor 1 x.demands x.cutting

-- The sheet of an order's bytes, in `room` bytes: 1 to 5 as reading gives it, 7 where there is no cutting, then 6. The
-- plan has the 512 entries that any order needs.
abbrev pub sheet_in : ℕ → List ℕ → Answer (List ℕ)
sheet_in room bs = and_then (planned trace_limit trace_limit bs) (λ x. fitted room (sheet_text x))

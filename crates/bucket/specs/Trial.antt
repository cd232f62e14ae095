-- The trial of a bucket and factor on a trace (01, "The bucket"; refusals 3 and 5).
-- Assumes nothing.
use Rattle.std.specs.Prelude.{ℕ, List, length}
use Rattle.terms.specs.declared.Bucket.{Bucket}
use Rattle.terms.specs.declared.Factor.{Factor}
use Rattle.terms.specs.Answer.{Answer, figures, weigh}
use Rattle.terms.specs.Ranges.{fresh_ok, periods_ok}
use Rattle.bucket.specs.declared.trials.TrialFigures.{TrialFigures}
use Rattle.bucket.specs.Step.{start_of}
use Rattle.bucket.specs.Trace.{over_all, spare_from}

-- A trial answers with the spare and the sum of over, of the bucket fresh with the factor.
unfoldable pub trial_figures : Bucket → Factor → List ℕ → TrialFigures
trial_figures b f ds =
    let y = start_of f.p f.q b.depth.0 in
    record { spare = spare_from b.rate.0 b.depth.0 y ds; over = over_all b.rate.0 b.depth.0 y ds }

-- 3: the trace's length; 5: the bucket or the factor. The tariff's caps do not bind a trial.
abbrev pub trial_of : Bucket → Factor → List ℕ → Answer TrialFigures
trial_of b f ds = weigh (periods_ok (length ds)) 3 (weigh (fresh_ok b f) 5 (figures (trial_figures b f ds)))

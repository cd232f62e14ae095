-- The depth at a rate, also with what sets it, the single bucket and a trial from an order file, as figures and as a
-- line each (00, the first two services; 02, jobs 2 and 3).
-- Assumes nothing.
use Rattle.std.specs.Prelude.{ℕ, List, ◌++◌}
use Rattle.terms.specs.declared.Bucket.{Bucket}
use Rattle.terms.specs.Answer.{Answer, and_then}
use Rattle.terms.specs.Limits.{trace_limit}
use Rattle.bucket.specs.declared.trials.TrialFigures.{TrialFigures}
use Rattle.bucket.specs.Trial.{trial_of}
use Rattle.depth.specs.Depth.{depth_from_end, depth_of}
use Rattle.causes.specs.Cause.{Explanation, SetBy, nothing, opening, stretch, explain_of}
use Rattle.single.specs.declared.costs.Priced.{Priced}
use Rattle.single.specs.Single.{single_of}
use Rattle.order_file.specs.Ordered.{ordered}
use Rattle.text.specs.Lines.{depth_fields, depth_line, nothing_fields, opening_fields, single_line, space, stretch_fields, trial_line}
use Rattle.text.specs.Fitted.{fitted}

-- ---- Figures

-- The smallest depth for an order's demands at a rate (01, "Depth at a rate"): 1 to 5 as reading gives it, 5 for the
-- rate, 7 for none.
abbrev pub depth_for : ℕ → List ℕ → Answer ℕ
depth_for r bs = and_then (ordered trace_limit bs) (λ x. depth_of x.order.tariff r x.demands)

-- The same where the order's demands stand in archive order, last period first (02, job 2).
abbrev pub depth_from_end_for : ℕ → List ℕ → Answer ℕ
depth_from_end_for r bs = and_then (ordered trace_limit bs) (λ x. depth_from_end x.order.tariff r x.demands)

-- The depth for an order's demands with what sets it (02, job 3); refusals as those of the depth.
abbrev pub explain_for : ℕ → List ℕ → Answer Explanation
explain_for r bs = and_then (ordered trace_limit bs) (λ x. explain_of x.order.tariff r x.demands)

-- The single bucket for an order's demands: 1 to 5 as reading gives it, 7 where there is none.
abbrev pub single_for : List ℕ → Answer Priced
single_for bs = and_then (ordered trace_limit bs) (λ x. single_of x.order.tariff x.demands)

-- The trial of a bucket on an order's demands, with the order's factor: 1 to 5 as reading gives it, 5 for the bucket.
abbrev pub trial_for : Bucket → List ℕ → Answer TrialFigures
trial_for b bs = and_then (ordered trace_limit bs) (λ x. trial_of b x.order.tariff.factor x.demands)

-- ---- Lines, in `room` bytes: the same refusals, then 6

-- The line of a depth that was answered, by either call.
abbrev pub depth_in : ℕ → Answer ℕ → Answer (List ℕ)
depth_in room a = and_then a (λ B. fitted room (depth_line B))

-- What sets a depth, and the line of the depth with it.
abbrev pub cause_fields : SetBy → List ℕ
cause_fields nothing = nothing_fields
cause_fields (opening v) = opening_fields v
cause_fields (stretch u v) = stretch_fields u v

abbrev pub explained_line : Explanation → List ℕ
explained_line x = depth_fields x.depth space ++ cause_fields x.cause

abbrev pub explain_in : ℕ → ℕ → List ℕ → Answer (List ℕ)
explain_in room r bs = and_then (explain_for r bs) (λ x. fitted room (explained_line x))

abbrev pub single_in : ℕ → List ℕ → Answer (List ℕ)
single_in room bs = and_then (single_for bs) (λ s. fitted room (single_line s.bucket s.cost))

abbrev pub trial_in : ℕ → Bucket → List ℕ → Answer (List ℕ)
trial_in room b bs = and_then (trial_for b bs) (λ t. fitted room (trial_line t.spare t.over))

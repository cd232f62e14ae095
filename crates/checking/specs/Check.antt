-- A plan checked against an order, whichever planning house made it (02, job 1; refusal 10).
-- Assumes nothing.
use Rattle.std.specs.Prelude.{ℕ, ◌-◌, Bool, true, cond, ◌&&◌, List, [], ◌∷◌, leb, eqb, take, drop}
use Rattle.terms.specs.declared.Bucket.{Bucket}
use Rattle.terms.specs.declared.Tariff.{Tariff}
use Rattle.terms.specs.Answer.{Answer, figures, refused, weigh, on_figures, and_then}
use Rattle.terms.specs.Limits.{trace_limit}
use Rattle.terms.specs.Records.{Cutting, run_length}
use Rattle.bucket.specs.Trace.{carries}
use Rattle.series.specs.Series.{true_cost_of, series_of}
use Rattle.order_file.specs.Order.{order_end}
use Rattle.order_file.specs.Ordered.{Ordered, ordered}
use Rattle.plan_file.specs.declared.answers.Recorded.{Recorded}
use Rattle.plan_file.specs.Plan.{plan_in}
use Rattle.text.specs.Lines.{yes_line, no_line}
use Rattle.text.specs.Fitted.{fitted}
use Rattle.checking.specs.declared.verdicts.Verdict.{Verdict}
use Rattle.checking.specs.declared.verdicts.Verdict.TheVariants.{Yes, No}

-- ---- Whether a plan holds

-- A bucket keeps to the caps and, fresh with the tariff's factor, carries its run.
abbrev pub run_ok : Tariff → List ℕ → Bucket → Bool
run_ok t run b =
    leb b.rate.0 t.rate_cap.0 && leb b.depth.0 t.depth_cap.0 && carries t.factor.p t.factor.q b.rate.0 b.depth.0 run

-- … each bucket of a cutting, the runs one after the other.
unfoldable pub runs_ok : Tariff → List ℕ → Cutting → Bool
runs_ok t ds [] = true
runs_ok t ds (x ∷ xs) = run_ok t (take (run_length x) ds) x.bucket && runs_ok t (drop (run_length x) ds) xs

-- The plan carries each run, keeps to the caps and states its true cost.
abbrev pub plan_ok : Tariff → List ℕ → Recorded → Bool
plan_ok t ds plan = runs_ok t ds plan.buckets && eqb plan.cost (true_cost_of t plan.buckets)

-- ---- By how much it is dearer than the least

-- The least cost: that of the series answer.
abbrev pub least_cost : Tariff → List ℕ → Answer ℕ
least_cost t ds = on_figures (true_cost_of t) (series_of t trace_limit ds)

-- The excess over the least; where there is no least there is no plan, and none holds.
abbrev pub excess_over : Answer ℕ → ℕ → Verdict
excess_over (figures least) cost = Yes (cost - least)
excess_over (refused n) cost = No

-- A yes is given exactly when the plan holds, and the excess with a yes only.
abbrev pub verdict_of : Tariff → List ℕ → Recorded → Verdict
verdict_of t ds plan = cond (plan_ok t ds plan) (excess_over (least_cost t ds) plan.cost) No

-- ---- The two files

-- 10: the period counts differ.
abbrev pub compared : Ordered → Recorded → Answer Verdict
compared x plan = weigh (eqb plan.periods x.order.periods) 10 (figures (verdict_of x.order.tariff x.demands plan))

-- The order is read, with its demands; then the plan; then the two are compared. The first refusal ends it.
abbrev pub check_of : List ℕ → List ℕ → Answer Verdict
check_of order plan = and_then (ordered trace_limit order) (λ x. and_then (plan_in plan) (compared x))

-- ---- As a line

-- The word yes, a space and the excess, or no.
abbrev pub verdict_line : Verdict → List ℕ
verdict_line (Yes excess) = yes_line excess
verdict_line No = no_line

-- The line in `room` bytes: the same refusals, then 6.
abbrev pub check_in : ℕ → List ℕ → List ℕ → Answer (List ℕ)
check_in room order plan = and_then (check_of order plan) (λ v. fitted room (verdict_line v))

-- The line of two files, the plan behind the order: the order as far as its stated length, then the plan.
abbrev pub check_files : ℕ → List ℕ → Answer (List ℕ)
check_files room bs = check_in room (take (order_end bs) bs) (drop (order_end bs) bs)

-- That a plan that is read fits its list, and that a plan is written alike from any list with its records in front.
-- Assumes nothing.
use Rattle.std.specs.Prelude.{ℕ, ◌≤◌, ◌≡◌, refl, List, leb, length}
use Rattle.std.proofs.Common.{sym, ap, subst, leb-true, le-leb}
use Rattle.terms.specs.Answer.{figures}
use Rattle.terms.specs.AnswerLaws.{same-figures, then_found, weigh-figures}
use Rattle.terms.specs.Limits.{trace_limit}
use Rattle.terms.specs.Records.{Cutting}
use Rattle.plan_file.specs.declared.answers.PlanFigures.{PlanFigures}
use Rattle.plan_file.specs.declared.answers.Recorded.{Recorded}
use Rattle.plan_file.specs.Plan.{figures_in, fitting, plan_file, plan_in, read_plan, recorded_figures}
use Rattle.plan_file.specs.PlanRules.{plan-few}

-- The records of a plan that is read fit the list that it was read for, and the longest plan.
pub read-fits : (room : ℕ) (bs : List ℕ) (x : Recorded) → figures x ≡ read_plan room bs → (length x.buckets ≤ room) × (length x.buckets ≤ trace_limit)
read-fits room bs x e =
    let g = then_found (plan_in bs) (fitting room) (sym e) in
    let w = weigh-figures (leb (length g.0.buckets) room) 6 (figures g.0) g.2 in
    let few = plan-few bs (figures_in g.0) (sym (ap recorded_figures g.1)) in
    subst (λ (y : Recorded). (length y.buckets ≤ room) × (length y.buckets ≤ trace_limit)) (same-figures w.1) (leb-true _ _ w.0, few)

-- A list that has as many entries as the plan has buckets is long enough, however long it is.
pub any-list : (a b room : ℕ) (x : PlanFigures) (xs : Cutting) → x.buckets ≤ a → x.buckets ≤ b → plan_file a room x xs ≡ plan_file b room x xs
unfolding plan_file
any-list a b room x xs h k = rw (le-leb _ _ h, le-leb _ _ k) refl

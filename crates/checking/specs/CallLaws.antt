-- A plan that is refused behind an order that is read, and one that is read and can be weighed.
-- Assumes nothing.
use Rattle.std.specs.Prelude.{ℕ, ◌≡◌, List}
use Rattle.std.proofs.Common.{sym, subst, ◌∙◌}
use Rattle.terms.specs.Answer.{figures, refused, and_then}
use Rattle.terms.specs.AnswerLaws.{then_figures, then_refused}
use Rattle.terms.specs.Limits.{trace_limit}
use Rattle.order_file.specs.Ordered.{Ordered, ordered}
use Rattle.order_file.specs.OrderedLaws.{is-ordered, ordered-count, ordered_range}
use Rattle.plan_file.specs.declared.answers.Recorded.{Recorded}
use Rattle.plan_file.specs.Plan.{plan_in, read_plan}
use Rattle.plan_file.specs.PlanRules.{read_range, read_whole}
use Rattle.plan_file.specs.RecordLaws.{RecordsRange}
use Rattle.checking.specs.Check.{compared, check_of}
use Rattle.checking.specs.WeighLaws.{Weighable}

module _ (order plan : List ℕ) (x : Ordered) (e : figures x ≡ ordered trace_limit order) where
  pub plan_unread : (n : ℕ) → refused n ≡ read_plan trace_limit plan → refused n ≡ check_of order plan
  plan_unread n f =
      then_refused (plan_in plan) (compared x) (sym (f ∙ read_whole plan))
      ∙ then_figures (ordered trace_limit order) (λ y. and_then (plan_in plan) (compared y)) (sym e)

  pub weighable : (y : Recorded) → figures y ≡ read_plan trace_limit plan → y.periods ≡ x.order.periods → Weighable x.order.tariff x.demands y
  weighable y f h =
      let p = is-ordered trace_limit order x (sym e) in
      let r = ordered_range p in
      let ranges = subst (λ (T : ℕ). RecordsRange T y.buckets) (h ∙ sym (ordered-count p)) (read_range plan y (sym (f ∙ read_whole plan))) in
      record { tariff = r.1; periods = r.0; ranges = ranges }

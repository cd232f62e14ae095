-- What a check says is true of the two files: a yes is given exactly when each run is carried inside the caps and the
-- stated cost is the true one, and the excess is the distance from the least cost over all carried cuttings.
-- Assumes nothing.
use Rattle.std.specs.Prelude.{ℕ, ◌+◌, ◌-◌, ◌≤◌, ◌≡◌, refl, Bool, true, false, cond, List, ◌++◌, eqb, length}
use Rattle.std.proofs.Common.{arith, sym, ap, ap₂, subst, ◌∙◌, eqb-true, eq-eqb}
use Rattle.terms.specs.declared.Tariff.{Tariff}
use Rattle.terms.specs.Answer.{Answer, figures, and_then, weigh}
use Rattle.terms.specs.AnswerLaws.{same-figures, weigh-figures, then_figures, then_found}
use Rattle.terms.specs.Limits.{trace_limit}
use Rattle.terms.specs.Records.{Cutting}
use Rattle.series.specs.Series.{true_cost_of}
use Rattle.order_file.specs.declared.orders.Order.{Order}
use Rattle.order_file.specs.Order.{order_in, read_order, tariff_in}
use Rattle.order_file.specs.Ordered.{Ordered, ordered}
use Rattle.order_file.specs.OrderLaws.{first_file, second-file}
use Rattle.order_file.specs.OrderRules.{read_rules}
use Rattle.order_file.specs.OrderedLaws.{IsOrdered, is-ordered, ordered_as, ordered-count, ordered_range}
use Rattle.plan_file.specs.declared.answers.Recorded.{Recorded}
use Rattle.plan_file.specs.Plan.{plan_in}
use Rattle.plan_file.specs.PlanRules.{read_range}
use Rattle.plan_file.specs.RecordLaws.{RecordsRange}
use Rattle.booking.specs.BookingLaws.{order-spread}
use Rattle.booking.specs.Claim.{periods_in, demands_at, CarriedIn, cost_in}
use Rattle.checking.specs.declared.verdicts.Verdict.{Verdict}
use Rattle.checking.specs.declared.verdicts.Verdict.TheVariants.{Yes, No}
use Rattle.checking.specs.Check.{plan_ok, least_cost, excess_over, verdict_of, compared, check_of, check_in, check_files}
use Rattle.checking.specs.VerdictLaws.{IsLeast, holds-is, holds-least, is-holds, least-found, least-is, no-yes, yes_of}

module _ (order : List ℕ) where
  abbrev t : Tariff
  t = tariff_in order

  abbrev ds : List ℕ
  ds = demands_at order

  -- An order that is read, with its demands.
  abbrev spread : Ordered
  spread = record { order = order_in order; demands = ds }

  module _ (o : Order) (e : read_order order ≡ figures o) where
    order-found : ordered trace_limit order ≡ figures spread
    order-found = order-spread order o e trace_limit (read_rules order o e).0.periods.few

    is-spread : IsOrdered trace_limit order spread
    is-spread = is-ordered trace_limit order spread order-found

  module _ (plan : List ℕ) where
    -- The plan's file is right for the order's: it carries each run of the demands in the order file and keeps to the
    -- caps there, and the cost that it states is its true cost under the tariff there.
    pub record Right : Type 0 where
      pub stated : Recorded
      pub is_read : plan_in plan ≡ figures stated
      pub same_periods : stated.periods ≡ periods_in order
      pub carried : CarriedIn order stated.buckets
      pub true_cost : stated.cost ≡ cost_in order stated.buckets

    -- The files that a verdict was given on.
    record Judged (v : Verdict) : Type 0 where
      is_order : read_order order ≡ figures (order_in order)
      stated : Recorded
      is_plan : plan_in plan ≡ figures stated
      same_periods : stated.periods ≡ periods_in order
      verdict : verdict_of t ds stated ≡ v

    judged : (v : Verdict) → check_of order plan ≡ figures v → Judged v
    judged v e =
        let a = then_found (ordered trace_limit order) (λ x. and_then (plan_in plan) (compared x)) e in
        let x = a.0 in
        let p = is-ordered trace_limit order x a.1 in
        let is : x ≡ spread = same-figures (sym a.1 ∙ order-found x.order p.read) in
        let b = then_found (plan_in plan) (compared x) a.2 in
        let c = weigh-figures (eqb b.0.periods x.order.periods) 10 _ b.2 in
        record {
          is_order = p.read ∙ ap figures (ordered_as p);
          stated = b.0;
          is_plan = b.1;
          same_periods = eqb-true _ _ c.0 ∙ ap (λ (y : Ordered). y.order.periods) is;
          verdict = ap (λ (y : Ordered). verdict_of y.order.tariff y.demands b.0) (sym is) ∙ same-figures c.1;
        }

    -- A plan of as many periods as the order's demands.
    module _ (o : Order) (e : read_order order ≡ figures o) (y : Recorded) (f : plan_in plan ≡ figures y) (g : y.periods ≡ periods_in order) where
      pub plan_range : RecordsRange (length ds) y.buckets
      plan_range =
          let n : length ds ≡ periods_in order = ordered-count (is-spread o e) in
          subst (λ (T : ℕ). RecordsRange T y.buckets) (g ∙ sym n) (read_range plan y f)

      check_is : check_of order plan ≡ figures (verdict_of t ds y)
      check_is =
          sym (then_figures (ordered trace_limit order) (λ x. and_then (plan_in plan) (compared x)) (order-found o e))
          ∙ sym (then_figures (plan_in plan) (compared spread) f)
          ∙ ap (λ (ok : Bool). weigh ok 10 (figures (verdict_of t ds y))) (eq-eqb _ _ g)

      -- An order without any plan says no to every plan, and never 7.
      pub none_no : ((xs : Cutting) → CarriedIn order xs → ⊥) → check_of order plan ≡ figures No
      none_no none = check_is ∙ ap figures (go (plan_ok t ds y) refl)
        where
          go : (ok : Bool) → plan_ok t ds y ≡ ok → verdict_of t ds y ≡ No
          go true h = absurd (none y.buckets (holds-is t ds y plan_range h).carried)
          go false h = ap (λ (ok : Bool). cond ok (excess_over (least_cost t ds) y.cost) No) h

    -- ---- A yes is given exactly when all of it holds

    module _ (n : ℕ) (e : check_of order plan ≡ figures (Yes n)) where
      abbrev given : Judged (Yes n)
      given = judged (Yes n) e

      found : (plan_ok t ds given.stated ≡ true) × ((m : ℕ) × (least_cost t ds ≡ figures m) × (given.stated.cost - m ≡ n))
      found = yes_of t ds given.stated (plan_ok t ds given.stated) (least_cost t ds) n given.verdict

      range : RecordsRange (length ds) given.stated.buckets
      range = plan_range (order_in order) given.is_order given.stated given.is_plan given.same_periods

      pub yes_only : (read_order order ≡ figures (order_in order)) × Right
      yes_only =
          let h = holds-is t ds given.stated range found.0 in
          (given.is_order, record { stated = given.stated; is_read = given.is_plan; same_periods = given.same_periods; carried = h.carried; true_cost = h.true_cost })

      -- The excess is what the plan's true cost has over the least.
      pub yes_excess : (y : Recorded) → plan_in plan ≡ figures y → (m : ℕ) × (cost_in order y.buckets ≡ m + n) × IsLeast t ds m
      yes_excess y f =
          let x = given.stated in
          let m = found.1.0 in
          let l = found.1.1 in
          let same : x ≡ y = same-figures (sym given.is_plan ∙ f) in
          let cost : true_cost_of t x.buckets ≡ m + n = omega (arith, (holds-is t ds x range found.0).true_cost, found.1.2, holds-least t ds x range found.0 m l) in
          (m, ap (λ (z : Recorded). cost_in order z.buckets) (sym same) ∙ cost, least-is t ds m l)

    module _ (o : Order) (e : read_order order ≡ figures o) (r : Right) where
      pub yes_always : (n : ℕ) × (check_of order plan ≡ figures (Yes n))
      yes_always =
          let y = r.stated in
          let range = ordered_range (is-spread o e) in
          let l = least-found t ds range.0 range.1 y.buckets r.carried in
          let h = is-holds t ds y (record { carried = r.carried; true_cost = r.true_cost }) in (
            y.cost - l.0,
            check_is o e y r.is_read r.same_periods
                ∙ ap₂ (λ (ok : Bool) (a : Answer ℕ). figures (cond ok (excess_over a y.cost) No)) h l.1,
          )

      pub no_only : check_of order plan ≡ figures No → ⊥
      no_only f = no-yes (same-figures (sym f ∙ yes_always.1))

      -- A plan that is right, and no dearer than any that is carried, has no excess.
      pub least-yes : ((ys : Cutting) → CarriedIn order ys → r.stated.cost ≤ cost_in order ys) → check_of order plan ≡ figures (Yes 0)
      least-yes no-dearer =
          let a = yes_always in
          let n = a.0 in
          let b = yes_excess n a.1 r.stated r.is_read in
          let m = b.0 in
          let cost : r.stated.cost ≡ m + n = r.true_cost ∙ b.1 in
          let x = b.2.reached in
          let zero : n ≡ 0 = omega (arith, cost, x.2, no-dearer x.0 x.1) in
          a.1 ∙ ap (λ (k : ℕ). figures (Yes k)) zero

-- ---- One file behind the other

-- An order that is read, and the plan behind it, are checked as the two files.
pub files_parted : (room : ℕ) (order plan : List ℕ) (o : Order) → read_order order ≡ figures o → check_files room (order ++ plan) ≡ check_in room order plan
files_parted room order plan o e = ap₂ (check_in room) (first_file order plan o e) (second-file order plan o e)

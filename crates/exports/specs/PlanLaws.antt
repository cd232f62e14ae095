-- Calls that begin with planning an order, and a plan file read into numbers and lists of the caller's.
-- Assumes nothing.
use Rattle.std.specs.Prelude.{ℕ, ◌≤◌, ◌≡◌, List, length}
use Rattle.std.proofs.Common.{arith, sym, ap, subst, ◌∙◌}
use Rattle.terms.specs.Answer.{Answer, figures, refused, on_figures, figure_or}
use Rattle.terms.specs.AnswerLaws.{then_figures, then_refused}
use Rattle.terms.specs.Limits.{trace_limit}
use Rattle.terms.specs.Records.{Cutting}
use Rattle.encoding.specs.FillLaws.{Fills, fill_refused}
use Rattle.series.specs.Series.{true_cost_of}
use Rattle.plan_file.specs.declared.answers.Recorded.{Recorded}
use Rattle.plan_file.specs.Plan.{buckets_of, plan_file, read_plan, write_plan}
use Rattle.plan_file.specs.CallLaws.{read-fits}
use Rattle.planning.specs.declared.planned_orders.PlannedOrder.{PlannedOrder}
use Rattle.planning.specs.Planning.{planned, planned_order}
use Rattle.planning.specs.CallLaws.{plan-refused, plan-found, plan_order_lem}
use Rattle.booking.specs.Booking.{plan_figures}
use Rattle.booking.specs.CallLaws.{figures_for, file-is}
use Rattle.exports.specs.Answers.{coded, plan_file_in, planned_cost, read_in}
use Rattle.exports.specs.ListLaws.{lists-kept}
use Rattle.exports.specs.Lists.{RecordLists, Filled, room_of}
use Rattle.exports.specs.LentNumberLaws.{code_refused, code_found, number_kept, number_found}

-- ---- An order planned

module _ (bs : List ℕ) where
  -- what planning answers
  abbrev pub all : Answer PlannedOrder
  all = on_figures planned_order (planned trace_limit trace_limit bs)

  pub cost-refused : (n : ℕ) → refused n ≡ all → refused n ≡ planned_cost bs
  cost-refused n f = sym (ap (on_figures (λ x. true_cost_of x.order.tariff x.cutting)) (plan-refused bs trace_limit trace_limit n f))

  pub file-refused : (n : ℕ) → refused n ≡ all → (old : List ℕ) → Fills (plan_file_in (length old) bs) old (refused n) old
  file-refused n f old = fill_refused (plan_file_in (length old) bs) old n (sym (then_refused (planned trace_limit trace_limit bs) _ (plan-refused bs trace_limit trace_limit n f)))

  module _ (p : PlannedOrder) (k : figures p ≡ all) where
    pub cost-found : figures p.plan.cost ≡ planned_cost bs
    cost-found =
        ap (λ (z : PlannedOrder). figures z.plan.cost) (sym (plan_order_lem bs trace_limit trace_limit p k))
        ∙ sym (ap (on_figures (λ x. true_cost_of x.order.tariff x.cutting)) (plan-found bs trace_limit trace_limit p k))

    -- a file written from the records is the definition's
    pub file-found : (old new : List ℕ) (a : Answer ℕ) → Fills (write_plan (length old) (figures_for p) p.records) old a new
        → Fills (plan_file_in (length old) bs) old a new
    file-found old new a h =
        let e : write_plan (length old) (figures_for p) p.records ≡ plan_file_in (length old) bs =
        file-is bs trace_limit trace_limit old 0 p k
        ∙ then_figures (planned trace_limit trace_limit bs) (λ z. plan_file trace_limit (length old) (plan_figures z) z.cutting) (plan-found bs trace_limit trace_limit p k) in
        subst (λ (b : Answer (List ℕ)). Fills b old a new) e h

-- ---- A plan read

module _ (bs : List ℕ) (old new : RecordLists) where
  abbrev reading : Answer Recorded
  reading = read_in bs old

  -- r is answered; of two numbers that held T and k the one holds t and the other n; the lists hold the records.
  abbrev pub ReadsCoded : (T k r t n : ℕ) → Type 0
  ReadsCoded T k r t n =
      (r ≡ coded (on_figures (λ x. x.cost) reading))
      × ((t ≡ figure_or (on_figures (λ x. x.periods) reading) T) × ((n ≡ figure_or (on_figures (λ x. length x.buckets) reading) k) × Filled (buckets_of reading) old new))

-- What was read with just so much room.
module _ (bs : List ℕ) (old : RecordLists) (room : ℕ) (size : room ≡ room_of old.runs old.rates old.depths) where
  read_as : read_plan room bs ≡ reading bs old old
  read_as = ap (λ (n : ℕ). read_plan n bs) size

  pub plan_unread : (T k n : ℕ) → refused n ≡ read_plan room bs → (r : ℕ) → r ≡ coded (refused n) → ReadsCoded bs old old T k r T k
  plan_unread T k n f r e =
      let g : reading bs old old ≡ refused n = sym (f ∙ read_as) in (
        code_refused (reading bs old old) (λ x. x.cost) n r g e,
        (
          number_kept (reading bs old old) (λ x. x.periods) T n g,
          (
            number_kept (reading bs old old) (λ x. length x.buckets) k n g,
            lists-kept (buckets_of (reading bs old old)) old n (ap buckets_of g),
          ),
        ),
      )

  module _ (y : Recorded) (f : figures y ≡ read_plan room bs) where
    pub buckets_fit : (length y.buckets ≤ room_of old.runs old.rates old.depths) × (length y.buckets ≤ trace_limit)
    buckets_fit = let fits = read-fits room bs y f in (omega (arith, size, fits.0), fits.1)

    pub plan-read : (new : RecordLists) → Filled (figures y.buckets) old new → (T k : ℕ) → ReadsCoded bs old new T k y.cost y.periods (length y.buckets)
    plan-read new e T k =
        let g : reading bs old old ≡ figures y = sym (f ∙ read_as) in (
          code_found (reading bs old old) (λ x. x.cost) y g,
          (
            number_found (reading bs old old) (λ x. x.periods) T y g,
            (number_found (reading bs old old) (λ x. length x.buckets) k y g, subst (λ (a : Answer Cutting). Filled a old new) (sym (ap buckets_of g)) e),
          ),
        )

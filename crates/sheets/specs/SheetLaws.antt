-- The sheet of a plan that was found: its runs can be printed, it fits the longest text,
-- and what is printed is the definition's.
-- Assumes nothing.
use Rattle.std.specs.Prelude.{ℕ, ◌≤◌, ◌≡◌, List, ◌++◌, length}
use Rattle.std.proofs.Common.{arith, sym, ap, subst, ◌∙◌, length-append}
use Rattle.terms.specs.declared.Tariff.{Tariff}
use Rattle.terms.specs.Answer.{Answer, figures, on_figures}
use Rattle.terms.specs.AnswerLaws.{then_figures}
use Rattle.terms.specs.Limits.{trace_limit}
use Rattle.terms.specs.RangeRules.{RecordRange, TariffRange}
use Rattle.terms.specs.Records.{Cutting, Each}
use Rattle.series.specs.Cutting.{none, run}
use Rattle.series.specs.Series.{Carried, true_cost_of}
use Rattle.series.specs.OutlineLaws.{carried-count, carried-cost}
use Rattle.encoding.specs.FillLaws.{Fills}
use Rattle.order_file.specs.OrderedLaws.{ordered-count, ordered_range}
use Rattle.text.specs.Fitted.{fitted}
use Rattle.text.specs.Lines.{plan_line}
use Rattle.text.specs.PutLaws.{Puts}
use Rattle.text.specs.ChainLaws.{two}
use Rattle.planning.specs.declared.planned_orders.PlannedOrder.{PlannedOrder}
use Rattle.planning.specs.Planning.{Planned, planned, planned_order}
use Rattle.planning.specs.PlannedLaws.{IsPlanned, planned-cheapest, carried-sum, served_range}
use Rattle.planning.specs.CallLaws.{the_plan, plan-found, plan_order_lem, plan-is}
use Rattle.sheets.specs.Sheet.{run_lines, sheet_text, sheet_in}
use Rattle.sheets.specs.RunLaws.{Printable}
use Rattle.sheets.specs.LengthLaws.{longest_sheet, plan-line-short, runs-short}

-- What is printed of a plan found.
abbrev pub shown_text : PlannedOrder → List ℕ
shown_text r =
    plan_line r.order.order.periods r.plan.buckets r.plan.cost
    ++ run_lines r.order.order.tariff.factor 1 r.order.demands r.records

-- A plan that can be printed.
pub record Shown (r : PlannedOrder) : Type 0 where
  pub buckets : r.plan.buckets ≤ trace_limit
  pub printable : Printable r.order.order.tariff.factor r.order.demands r.records
  pub short : length (shown_text r) ≤ longest_sheet

-- ---- A carried cutting

module _ (t : Tariff) (h : TariffRange t) where
  carried-ranges : {ds : List ℕ} {xs : Cutting} → Carried t ds xs → Each RecordRange xs
  carried-ranges none = tt
  carried-ranges (run f c) = (served_range t h f, carried-ranges c)

-- The sheet of an order has a first line and a line for each of at most 512 buckets.
pub sheet_short : {space room : ℕ} {bs : List ℕ} {x : Planned} → IsPlanned space room bs x → length (sheet_text x) ≤ longest_sheet
sheet_short {space} {room} {bs} {x} p =
    let r = ordered_range p.as_ordered in
    let t = x.order.tariff in
    let c = (planned-cheapest p).carried in
    let few = carried-count t c in
    let n : x.order.periods ≡ length x.demands = sym (ordered-count p.as_ordered) in
    let first = plan_line x.order.periods (length x.cutting) (true_cost_of t x.cutting) in
    let lines = run_lines t.factor 1 x.demands x.cutting in
    let short = plan-line-short x.order.periods (length x.cutting) (true_cost_of t x.cutting) (omega (arith, n, r.0.few)) (omega (arith, few, r.0.few)) (omega (arith, carried-cost t r.1 c, r.0.few)) in
    omega (arith, length-append first lines, short, runs-short t r.1 c 1 (omega (arith, r.0.few)), few, r.0.few)

-- ---- A plan that was found

module _ (bs : List ℕ) where
  -- what planning answers
  abbrev answer : Answer PlannedOrder
  answer = on_figures planned_order (planned trace_limit trace_limit bs)

  module _ (r : PlannedOrder) (p : figures r ≡ answer) where
    text_is : shown_text r ≡ sheet_text (the_plan bs trace_limit trace_limit r p)
    text_is = ap shown_text (sym (plan_order_lem bs trace_limit trace_limit r p))

    pub shown : Shown r
    shown =
        let is = plan-is bs trace_limit trace_limit r p in
        let t = r.order.order.tariff in
        let range = ordered_range is.as_ordered in
        let c = (planned-cheapest is).carried in
        let figures-are = ap (λ (z : PlannedOrder). z.plan.buckets) (plan_order_lem bs trace_limit trace_limit r p) in
        record {
          buckets = omega (arith, figures-are, carried-count t c, range.0.few);
          printable = record { factor = range.1.factor; few = range.0.few; sum = carried-sum t c; each = carried-ranges t range.1 c };
          short = subst (λ (zs : List ℕ). length zs ≤ longest_sheet) (sym text_is) (sheet_short is);
        }

    -- a text filled with what is printed is filled with the definition's sheet
    pub sheet_filled : (old new : List ℕ) (a : Answer ℕ) → Fills (fitted (length old) (shown_text r)) old a new → Fills (sheet_in (length old) bs) old a new
    sheet_filled old new a =
        subst (λ (b : Answer (List ℕ)). Fills b old a new)
        (ap (fitted (length old)) text_is ∙ then_figures _ (λ z. fitted (length old) (sheet_text z)) (plan-found bs trace_limit trace_limit r p))

-- ---- The first line, and behind it the runs' lines

module _ {r : PlannedOrder} (s : Shown r) (text : List ℕ) (size : length text ≡ longest_sheet) where
  abbrev first_line : List ℕ
  first_line = plan_line r.order.order.periods r.plan.buckets r.plan.cost

  abbrev all_run_lines : List ℕ
  all_run_lines = run_lines r.order.order.tariff.factor 1 r.order.demands r.records

  -- a text of that length holds what is printed
  pub sheet_room : length (shown_text r) ≤ length text
  sheet_room = subst (λ (n : ℕ). length (shown_text r) ≤ n) (sym size) s.short

  module _ (new : List ℕ) (next : ℕ) (p : Puts text 0 first_line new next) where
    pub sheet_put : (newer : List ℕ) (end : ℕ) → Puts new next all_run_lines newer end → Puts text 0 (shown_text r) newer end
    sheet_put newer end q = two text 0 first_line all_run_lines p q

-- What the list of calls gives: the order's own figures and demands, the series answer for them, the same plan read
-- back, and meters that refuse and discard nothing.
-- Assumes nothing.
use Rattle.std.specs.Prelude.{ℕ, zero, suc, ◌+◌, ◌/◌, ◌^◌, ◌≤◌, ◌<◌, ◌≡◌, List, [], ◌∷◌, length, take, drop, get_or}
use Rattle.std.proofs.Common.{arith, pow-suc, sym, ap, ap₂, subst, ◌∙◌, drop-drop}
use Rattle.std.proofs.Math.Path.{refl}
use Rattle.std.proofs.Math.ListN.{length-take, length-drop}
use Rattle.terms.specs.declared.Tariff.{Tariff}
use Rattle.terms.specs.Answer.{figures}
use Rattle.terms.specs.Limits.{demand_limit, trace_limit, cost_limit}
use Rattle.terms.specs.RangeRules.{TariffRange, PeriodsRange, RecordRange, FreshRange}
use Rattle.terms.specs.Records.{Cutting, Each}
use Rattle.bucket.specs.Laws.{carried-over, demands-take, demands-drop}
use Rattle.bucket.specs.Step.{start_of}
use Rattle.bucket.specs.Trace.{Demands}
use Rattle.meter.specs.declared.meters.Meter.{Meter}
use Rattle.meter.specs.Meter.{meter_on}
use Rattle.meter.specs.MeterRuns.{run-metered}
use Rattle.series.specs.Cutting.{none, run}
use Rattle.series.specs.Series.{Carried, Cheapest, true_cost_of}
use Rattle.series.specs.OutlineLaws.{carried-count, carried-cost}
use Rattle.encoding.specs.Number.{value_of, number_at, items_at}
use Rattle.encoding.specs.NumberLaws.{Bytes, fit_head, fit_tail, fit_drop}
use Rattle.order_file.specs.declared.orders.Order.{Order}
use Rattle.order_file.specs.Order.{trace_offset, tariff_in, order_in, read_order, trace_part, demands_in}
use Rattle.order_file.specs.OrderLaws.{demands-count, read-spread}
use Rattle.order_file.specs.OrderRules.{read_rules, part-read, length-demands}
use Rattle.order_file.specs.Ordered.{ordered}
use Rattle.order_file.specs.OrderedLaws.{found-ordered, spread-demands, ordered_as}
use Rattle.plan_file.specs.PlanRules.{CountsRange}
use Rattle.plan_file.specs.RecordLaws.{RecordsRange}
use Rattle.record_list.specs.Held.{no_record}
use Rattle.planning.specs.Planning.{Planned}
use Rattle.planning.specs.PlannedLaws.{IsPlanned, planned-cheapest, carried-sum, carried_some, served_range}
use Rattle.recording.specs.Recording.{meters_of}
use Rattle.booking.specs.Claim.{periods_in, demands_at, IsSeriesAnswer}

-- ---- The demands in the file

-- Items read from a place on are those of the part that begins there.
items_part : {A : Type 0} (read : ℕ → A) (from : ℕ → A) (k width n at : ℕ) → ((i : ℕ) → from i ≡ read (k + i)) → items_at from width n at ≡ items_at read width n (k + at)
unfolding items_at
items_part read from k width zero at h = refl
items_part read from k width (suc n) at h =
    let e : k + (at + width) ≡ k + at + width = omega arith in
    ap₂ (λ (x : _) (xs : List _). x ∷ xs) (h at) (items_part read from k width n (at + width) h ∙ ap (items_at read width n) e)

-- A number of w bytes is below 256 to the power w.
value-below : (w : ℕ) (bs : List ℕ) → Bytes bs → value_of (take w bs) < 256 ^ w
unfolding value_of
value-below zero bs h = omega arith
value-below (suc w) [] h = omega (arith, pow-suc 256 w, value-below w [] h)
value-below (suc w) (b ∷ bs) h =
    let l : b < 256 = fit_head h in
    omega (arith, pow-suc 256 w, value-below w bs (fit_tail h))

-- Items that are 16-bit numbers.
items_demands : (read : ℕ → ℕ) (width n at : ℕ) → ((i : ℕ) → read i ≤ demand_limit) → (i : ℕ) → get_or (items_at read width n at) i 0 ≤ demand_limit
unfolding items_at
items_demands read width zero at h i = omega arith
items_demands read width (suc n) at h zero = h at
items_demands read width (suc n) at h (suc i) = items_demands read width n (at + width) h i

pub file-demands : (bs : List ℕ) → Bytes bs → Demands (demands_at bs)
file-demands bs h = record { each = items_demands (number_at 2 bs) 2 (periods_in bs) trace_offset below }
  where
    below : (at : ℕ) → number_at 2 bs at ≤ demand_limit
    below at = omega (arith, value-below 2 (drop at bs) (fit_drop bs at h))

-- An order that is read spreads to them.
module _ (bs : List ℕ) (o : Order) (e : read_order bs ≡ figures o) where
  pub order-demands : demands_in (trace_part bs) ≡ demands_at bs
  order-demands =
      let part = trace_part bs in
      let n : length part / 2 ≡ periods_in bs =
      sym (length-demands part) ∙ demands-count bs o e ∙ ap (λ (x : Order). x.periods) (read_rules bs o e).1 in
      ap₂ (λ (ys : List ℕ) (m : ℕ). items_at (number_at 2 ys) 2 m 0) (part-read bs o e) n
      ∙ items_part (number_at 2 bs) (number_at 2 (drop trace_offset bs)) trace_offset 2 (periods_in bs) 0
      (λ i. ap (λ (ys : List ℕ). value_of (take 2 ys)) (drop-drop i trace_offset bs))

  -- So with room for them reading and spreading give the figures and the demands in the bytes.
  pub order-spread : (space : ℕ) → periods_in bs ≤ space → ordered space bs ≡ figures (record { order = order_in bs; demands = demands_at bs })
  order-spread space l =
      let is : o ≡ order_in bs = (read_rules bs o e).1 in
      let spread = read-spread bs o e space (subst (λ (x : Order). x.periods ≤ space) (sym is) l) ∙ ap figures order-demands in
      found-ordered space bs (record { order = order_in bs; demands = demands_at bs }) (record { read = e ∙ ap figures is; spread = spread })

-- ---- The order read, spread and planned

module _ {space room : ℕ} {bs : List ℕ} {x : Planned} (p : IsPlanned space room bs x) where
  -- the demands are those in the file's bytes
  pub planned-demands : x.demands ≡ demands_at bs
  planned-demands = sym (spread-demands p.as_ordered) ∙ order-demands bs x.order p.as_ordered.read

  pub planned-series : IsSeriesAnswer bs x.cutting
  planned-series =
      subst (λ (ds : List ℕ). Cheapest (tariff_in bs) ds x.cutting) planned-demands
      (subst (λ (o : Order). Cheapest o.tariff x.demands x.cutting) (ordered_as p.as_ordered) (planned-cheapest p))

-- ---- A carried cutting

module _ (t : Tariff) where
  -- The rules of a plan of T periods.
  pub record PlanRange (T : ℕ) (xs : Cutting) : Type 0 where
    pub counts : CountsRange T (length xs)
    pub cost : true_cost_of t xs ≤ cost_limit
    pub records : RecordsRange T xs

  -- Meters that refuse nothing and discard nothing.
  abbrev pub NothingOver : List ℕ → Cutting → Type 0
  NothingOver ds xs = (ms : List Meter) × (meters_of t.factor ds xs ≡ figures ms) × Each (λ m. m.over ≡ 0) ms

  module _ (h : TariffRange t) where
    carried-each : {ds : List ℕ} {xs : Cutting} → Carried t ds xs → (i : ℕ) → i < length xs → RecordRange (get_or xs i no_record)
    carried-each none i l = absurd (omega arith)
    carried-each (run f c) zero l = served_range t h f
    carried-each (run f c) (suc i) l = carried-each c i (omega arith)

    -- Its figures keep the rules of a plan.
    pub carried_plan : {ds : List ℕ} {xs : Cutting} → PeriodsRange (length ds) → Carried t ds xs → PlanRange (length ds) xs
    carried_plan {ds} {xs} p c =
        record {
          counts = record { periods = p; some = carried_some t c p.some; few = carried-count t c };
          cost = omega (arith, carried-cost t h c, p.few);
          records = record { each = carried-each c; sum = carried-sum t c };
        }

    -- Its meters, run by run, refuse nothing and discard nothing.
    pub carried-meters : {ds : List ℕ} {xs : Cutting} → Demands ds → length ds ≤ trace_limit → Carried t ds xs → NothingOver ds xs
    unfolding meters_of
    carried-meters d l none = ([], refl, tt)
    carried-meters d l (run {ds} {x} {xs} f c) =
        let n = x.periods in
        let b = x.bucket in
        let range : FreshRange b t.factor = record { bucket = (served_range t h f).bucket; factor = h.factor } in
        let m = run-metered b t.factor range (take n ds) (demands-take n ds d) (omega (arith, length-take n ds)) in
        let rest = carried-meters (demands-drop n ds d) (omega (arith, length-drop n ds)) c in
        let over = carried-over b.rate.0 b.depth.0 (start_of t.factor.p t.factor.q b.depth.0) (take n ds) f.fits.carried in
        (meter_on b t.factor (take n ds) ∷ rest.0, rw (m, rest.1) refl, (over, rest.2))

-- A plan's runs weighed one after the other beside the trace: those that are left decide, and their costs complete the
-- sum.
-- Assumes nothing.
use Rattle.std.specs.Prelude.{ℕ, ◌+◌, ◌-◌, ◌*◌, ◌≤◌, ◌<◌, ◌≡◌, Bool, false, ◌&&◌, eqb, length, take, drop, get_or}
use Rattle.std.proofs.Common.{arith, ◌∙◌, drop-drop}
use Rattle.std.proofs.Math.Path.{sym, ap, ap₂}
use Rattle.std.proofs.Math.Bool.{true}
use mathlib.Core.List.{List, ◌∷◌}
use Rattle.terms.specs.declared.BucketRecord.{BucketRecord}
use Rattle.terms.specs.declared.Tariff.{Tariff}
use Rattle.terms.specs.Limits.{fee_limit}
use Rattle.terms.specs.RangeRules.{PeriodsRange, RecordRange, TariffRange}
use Rattle.terms.specs.Records.{Cutting, run_length, total}
use Rattle.single.specs.Cost.{cost_of}
use Rattle.single.specs.CostLaws.{period_limit, cost-le}
use Rattle.series.specs.Series.{true_cost_of}
use Rattle.record_list.specs.Held.{no_record}
use Rattle.record_list.specs.PartLaws.{Begins, next_begins, part-is, rest_next, rest_none, run_inside}
use Rattle.plan_file.specs.declared.answers.Recorded.{Recorded}
use Rattle.plan_file.specs.RecordLaws.{RecordsRange}
use Rattle.checking.specs.Check.{plan_ok, run_ok, runs_ok}

-- The plan's runs make up the trace, and all figures are in their ranges.
pub record Weighable (t : Tariff) (ds : List ℕ) (plan : Recorded) : Type 0 where
  pub tariff : TariffRange t
  pub periods : PeriodsRange (length ds)
  pub ranges : RecordsRange (length ds) plan.buckets

module _ (t : Tariff) (ds : List ℕ) (plan : Recorded) where
  abbrev records : Cutting
  records = plan.buckets

  -- i of the runs hold and cost so much together, and the next begins at `start`.
  pub record Weighing (cost start i : ℕ) : Type 0 where
    pub begins : Begins records ds start i
    pub small : cost ≤ (period_limit + fee_limit) * start
    pub costs : cost + true_cost_of t (drop i records) ≡ true_cost_of t records
    pub left : runs_ok t (drop start ds) (drop i records) ≡ runs_ok t ds records

  -- xs are the records as they are gone through
  module _ (xs : Cutting) (e : xs ≡ records) {cost start i : ℕ} (s : Weighing cost start i) where
    module _ (h : Weighable t ds plan) (l : i < length xs) where
      within : i < length records
      within = rw e at l

      abbrev this : BucketRecord
      this = get_or xs i no_record

      abbrev n : ℕ
      n = run_length this

      next_is : drop i records ≡ this ∷ drop (i + 1) records
      next_is = rw e (rest_next records i within)

      pub inside : start + n ≤ length ds
      inside = rw e (run_inside records ds start i s.begins within)

      this_range : RecordRange this
      this_range = rw e (h.ranges.each i within)

      -- a cost that keeps the sum below its limit
      pub cost-small : cost + cost_of t n this.bucket ≤ (period_limit + fee_limit) * (start + n)
      cost-small = omega (arith, s.small, cost-le {t = t} {b = this.bucket} h.tariff this_range.bucket n, this_range.some)

      decides : (ok : Bool) → run_ok t (take n (drop start ds)) this.bucket ≡ ok
          → runs_ok t ds records ≡ ok && runs_ok t (drop (start + n) ds) (drop (i + 1) records)
      unfolding runs_ok
      decides ok f =
          sym s.left
          ∙ ap (runs_ok t (drop start ds)) next_is
          ∙ ap (λ (b : Bool). b && runs_ok t (drop n (drop start ds)) (drop (i + 1) records)) f
          ∙ ap (λ (ys : List ℕ). ok && runs_ok t ys (drop (i + 1) records)) (drop-drop n start ds)

      -- the run's own part of the trace
      module _ (ok : Bool) (f : ok ≡ run_ok t (take (start + n - start) (drop start ds)) this.bucket) where
        run_is : run_ok t (take n (drop start ds)) this.bucket ≡ ok
        run_is = sym (ap (λ (ys : List ℕ). run_ok t ys this.bucket) (part-is ds start n)) ∙ sym f

        pub runs_fail : ok ≡ false → runs_ok t ds records ≡ false
        runs_fail g = decides false (run_is ∙ g)

        pub run_fails : ok ≡ false → false ≡ plan_ok t ds plan
        run_fails g = sym (ap (λ (b : Bool). b && eqb plan.cost (true_cost_of t records)) (runs_fail g))

        pub run-weighed : ok ≡ true → (c : ℕ) → c ≡ cost_of t n this.bucket → Weighing (cost + c) (start + n) (i + 1)
        unfolding total
        run-weighed g c k =
            record {
              begins = rw e (next_begins records ds start i s.begins within);
              small = omega (arith, k, cost-small);
              costs = omega (arith, k, s.costs, ap (true_cost_of t) next_is);
              left = sym (decides true (run_is ∙ g));
            }

    pub runs_weighed : length xs ≤ i → (runs_ok t ds records ≡ true) × (cost ≡ true_cost_of t records)
    unfolding runs_ok total
    runs_weighed l =
        let none = rest_none records i (rw e at l) in
        (sym s.left ∙ ap (runs_ok t (drop start ds)) none, omega (arith, s.costs, ap (true_cost_of t) none))

    pub all_weighed : length xs ≤ i → eqb plan.cost cost ≡ plan_ok t ds plan
    all_weighed l =
        let w = runs_weighed l in
        sym (ap₂ (λ (b : Bool) (c : ℕ). b && eqb plan.cost c) w.0 (sym w.1))

-- The runs that are left decide, and their costs complete the sum; the next run is inside the rest of the
-- trace, since the run lengths sum to its length.
use Rattle.std.specs.Prelude.{ℕ, ◌+◌, ◌-◌, ◌≡◌, List, length, take, drop, get_or}
use Rattle.std.proofs.Common.{arith, zero-add, refl, ◌∙◌, drop-drop, length-drop}
use Rattle.std.proofs.Math.Path.{sym, ap}
use Rattle.record_list.specs.Held.{no_record}
use Rattle.record_list.specs.PartLaws.{first_begins, part-is}
use Rattle.checking.specs.Check.{run_ok}
use Rattle.checking.specs.WeighLaws.{all_weighed, cost-small, inside, run_fails, run-weighed}
use Rattle.checking.proofs.runs.plan_holds.Goals as goal

-- the part taken from the rest, as the law has it
part_of : (ds rest run : List ℕ) (start n : ℕ) → rest ≡ drop start ds → run ≡ take n rest
    → run ≡ take (start + n - start) (drop start ds)
part_of ds rest run start n e f = f ∙ ap (take n) e ∙ sym (part-is ds start n)

pub loop-x-init : goal.loop-x-init
loop-x-init c =
    record {
      start = 0;
      is = refl;
      weighing = record { begins = first_begins _ _ c.requires.ranges.sum; small = omega arith; costs = zero-add _; left = refl };
    }

pub split_at-requires : goal.split_at-requires
split_at-requires c =
    let w = c.loop-x.invariant in
    omega
    (arith, ap length w.is, length-drop w.start c.args.trace.now, inside _ _ _ _ c.as_slice-records.ensures.items w.weighing c.requires c.loop-x-test.true)

pub returns-then-not-run_holds : goal.returns-then-not-run_holds
returns-then-not-run_holds c =
    let w = c.loop-x.invariant in
    let p = part_of c.args.trace.now _ _ w.start _ w.is c.split_at.ensures.front in
    let b = (get_or c.as_slice-records.result.now c.loop-x.x-index no_record).bucket in
    run_fails _ _ _ _ c.as_slice-records.ensures.items w.weighing c.requires c.loop-x-test.true
    _ (c.run_holds.ensures ∙ ap (λ (ys : List ℕ). run_ok c.args.tariff ys b) p) c.if-not-run_holds.true

pub overflow_add-cost : goal.overflow_add-cost
overflow_add-cost c =
    let e = c.as_slice-records.ensures.items in
    let w = c.loop-x.invariant.weighing in
    let l = c.loop-x-test.true in
    omega (arith, c.cost_of-cost.ensures, cost-small _ _ _ _ e w c.requires l, inside _ _ _ _ e w c.requires l, c.requires.periods.few)

pub loop-x-preserved : goal.loop-x-preserved
loop-x-preserved c =
    let w = c.loop-x.invariant in
    let s = c.split_at.ensures in
    let p = part_of c.args.trace.now _ _ w.start _ w.is s.front in
    let b = (get_or c.as_slice-records.result.now c.loop-x.x-index no_record).bucket in
    record {
      start = _;
      is = s.back ∙ ap (drop _) w.is ∙ drop-drop _ w.start c.args.trace.now;
      weighing =
          run-weighed _ _ _ _ c.as_slice-records.ensures.items w.weighing c.requires c.loop-x-test.true
          _ (c.run_holds.ensures ∙ ap (λ (ys : List ℕ). run_ok c.args.tariff ys b) p) c.if-not-run_holds.false _ c.cost_of-cost.ensures;
    }

pub returns : goal.returns
returns c = all_weighed _ _ _ _ c.as_slice-records.ensures.items c.loop-x.invariant.weighing c.loop-x-test.false

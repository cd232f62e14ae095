-- The depth one period on, by cases: none, and the charge stands for none; or one inside the cap.
use Prim.Native.Nat.{◌≤◌, ◌-◌}
use Rattle.first_runs.specs.Charge.{walk_depth}
use Rattle.first_runs.specs.ChargeLaws.{in_range, pushed-stretch}
use Rattle.depth.specs.Depth.{depth_says}
use Rattle.depth.specs.DepthLaws.{walk-within}
use Rattle.depth.specs.WalkRanges.{WalkRange, range_pushed}
use Rattle.depth.specs.declared.walk.Walk.{Walk}
use Rattle.terms.specs.Answer.{figures}
use Rattle.terms.specs.Limits.{trace_limit}
use mathlib.Core.Path.{◌≡◌, sym, ap, subst, ◌∙◌}
use native.Mathlib.Nat.{le_trans}
use native.Mathlib.Omega.{arith}
use Rattle.first_runs.proofs.charges.Charged.push.Goals as goal

pub depth_after-requires : goal.depth_after-requires
depth_after-requires c =
    let t = c.requires.tariff_range in
    record {
      tariff_range = t;
      walk_range =
          subst (WalkRange trace_limit) (sym c.push-walk.ensures)
          (range_pushed _ _ {n = trace_limit - 1} c.requires.walk_range (le_trans c.requires.high_bound t.rate_caps) (omega arith));
      stretch_le_stretch =
          subst (λ (w : Walk). c.args.self.walk.stretch ≤ w.stretch) (sym c.push-walk.ensures) (pushed-stretch _ _ _);
      value = c.requires.walk_value;
    }

pub charge_of-charge-requires : goal.charge_of-charge-requires
charge_of-charge-requires c =
    let found : figures c.in-Ok.depth.0 ≡ walk_depth c.args.tariff c.push-walk.result =
    sym (ap depth_says c.in-Ok.is) ∙ c.depth_after.ensures in
    let inside : c.in-Ok.depth.0 ≤ c.args.tariff.depth_cap.0 =
    walk-within _ _ _ _ c.requires.tariff_range.factor.some (sym (found)) in
    record {
      tariff_range = c.requires.tariff_range;
      bucket_range = in_range c.args.tariff c.requires.tariff_range c.args.low.0 _ c.requires.low_bound (inside);
    }

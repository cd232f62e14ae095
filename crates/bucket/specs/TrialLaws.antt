-- A trial in its ranges is not refused, and it discards nothing exactly where the bucket carries the trace.
-- Assumes nothing.
use Rattle.std.specs.Prelude.{ℕ, ◌≡◌, Bool, List, length}
use Rattle.std.proofs.Math.Path.{refl}
use Rattle.std.proofs.Math.Bool.{true, false}
use borrow.Author.Tests.{eq-eqb, ne_eqb}
use Rattle.std.proofs.Math.Dec.{eqb}
use Rattle.terms.specs.declared.Bucket.{Bucket}
use Rattle.terms.specs.declared.Factor.{Factor}
use Rattle.terms.specs.Answer.{figures}
use Rattle.terms.specs.Bools.{true-false}
use Rattle.terms.specs.RangeLaws.{fresh_ok_lem, periods_ok_lem}
use Rattle.terms.specs.RangeRules.{FreshRange, PeriodsRange}
use Rattle.bucket.specs.Laws.{carried-over, over-carried}
use Rattle.bucket.specs.Step.{start_of}
use Rattle.bucket.specs.Trace.{carries}
use Rattle.bucket.specs.Trial.{trial_figures, trial_of}

module _ (b : Bucket) (f : Factor) (ds : List ℕ) where
  pub tried : FreshRange b f → PeriodsRange (length ds) → trial_of b f ds ≡ figures (trial_figures b f ds)
  tried h k = rw (periods_ok_lem (length ds) k, fresh_ok_lem b f h)

  abbrev carried : Bool
  carried = carries f.p f.q b.rate.0 b.depth.0 ds

  pub nothing-over : eqb (trial_figures b f ds).over 0 ≡ carried
  unfolding trial_figures
  nothing-over = go carried refl
    where
      go : (ok : Bool) → carried ≡ ok → eqb (trial_figures b f ds).over 0 ≡ ok
      go true e = eq-eqb _ 0 (carried-over b.rate.0 b.depth.0 (start_of f.p f.q b.depth.0) ds e)
      go false e = ne_eqb _ 0 (λ z. true-false (over-carried b.rate.0 b.depth.0 (start_of f.p f.q b.depth.0) ds z) e)

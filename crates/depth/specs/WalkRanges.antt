-- The figures of a walk stay in range: no need is above the sum of the demands.
-- Assumes nothing.
use Rattle.std.specs.Prelude.{ℕ, ◌+◌, ◌*◌, ◌≤◌, length, take}
use Rattle.std.proofs.Common.{arith, length-take-le}
use Rattle.std.proofs.Math.Nat.{max-le}
use mathlib.Core.List.{List, [], ◌∷◌, foldl}
use Rattle.terms.specs.Limits.{demand_limit, rate_limit}
use Rattle.bucket.specs.Trace.{Demands}
use Rattle.bucket.specs.Laws.{demands-tail, demands-take}
use Rattle.depth.specs.declared.walk.Walk.{Walk}
use Rattle.depth.specs.Walk.{started, pushed, walk_of}

-- What bounds the figures of a walk after n periods: the limits of demands and rates.
pub record WalkRange (n : ℕ) (w : Walk) : Type 0 where
  pub sums : w.sum ≤ demand_limit * n
  pub gains : w.gained ≤ rate_limit * n
  pub openings : w.opening ≤ w.sum
  pub endings : w.ending ≤ w.sum
  pub stretches : w.stretch ≤ w.sum

pub range_started : WalkRange 0 started
range_started = omega arith

pub range_pushed : (r d : ℕ) {n : ℕ} {w : Walk} → WalkRange n w → r ≤ rate_limit → d ≤ demand_limit
    → WalkRange (n + 1) (pushed r w d)
unfolding pushed
range_pushed r d k hr hd =
    record {
      sums = omega (arith, k.sums);
      gains = omega (arith, k.gains);
      openings = max-le (omega (arith, k.openings)) (omega arith);
      endings = omega (arith, k.endings);
      stretches = max-le (omega (arith, k.stretches)) (omega (arith, k.endings));
    }

pub range_more : {m n : ℕ} {w : Walk} → m ≤ n → WalkRange m w → WalkRange n w
range_more h k = omega (arith, k.sums, k.gains, k.openings, k.endings, k.stretches)

range_on : (r : ℕ) {n : ℕ} {w : Walk} (ds : List ℕ) → r ≤ rate_limit → Demands ds → WalkRange n w
    → WalkRange (n + length ds) (foldl (pushed r) w ds)
range_on r [] hr h k = range_more (omega arith) k
range_on r {n = n} {w = w} (d ∷ ds) hr h k = range_more (omega arith) (range_on r {n = n + 1} {w = pushed r w d} ds hr (demands-tail h) (range_pushed r d k hr (h.each 0)))

pub walk_range : (r : ℕ) (ds : List ℕ) → r ≤ rate_limit → Demands ds → WalkRange (length ds) (walk_of r ds)
unfolding walk_of
walk_range r ds hr h = range_more (omega arith) (range_on r ds hr h range_started)

-- … and of the first n periods of a trace.
pub walk_range_take : (r n : ℕ) (ds : List ℕ) → r ≤ rate_limit → Demands ds → n ≤ length ds
    → WalkRange n (walk_of r (take n ds))
walk_range_take r n ds hr h l =
    range_more (omega (arith, length-take-le n ds l)) (walk_range r (take n ds) hr (demands-take n ds h))

-- What a trial's walk keeps after i periods: the figures so far, carried on over the rest of the trace,
-- are those of the whole.
-- Assumes nothing.
use Prim.Native.Nat.{ℕ, ◌+◌, ◌*◌, ◌≤◌, ◌<◌}
use native.Mathlib.Omega.{arith}
use native.Mathlib.Numerals.{add-one}
use mathlib.Core.Path.{◌≡◌, refl, ap}
use mathlib.Core.Bool.{Bool, true, false, cond}
use mathlib.Core.List.{List, [], ◌∷◌}
use lib.ListN.{length, get_or, drop, drop_of_length-le}
use lib.Seq.{drop-cons}
use Rattle.std.specs.Prelude.{ℤ, pos, negsuc}
use Rattle.std.specs.Int.{int_min}
use lib.Signed.{le_z}
use Rattle.terms.specs.Limits.{demand_limit, depth_limit}
use Rattle.bucket.specs.declared.period.Period.{Period}
use Rattle.bucket.specs.Step.{held, period_of}
use Rattle.bucket.specs.Trace.{sum_of, over_all, gap, gaps, min_z, least_of, spare_from}

-- The library's smaller of two numbers is the definition's.
pub min-is : (a b : ℤ) → int_min a b ≡ min_z a b
min-is (pos a) (pos b) = grind arith
min-is (pos a) (negsuc b) = refl
min-is (negsuc a) (pos b) = refl
min-is (negsuc a) (negsuc b) = grind arith

min-same : (z : ℤ) → min_z z z ≡ z
min-same z = go (le_z z z)
  where
    go : (t : Bool) → cond t z z ≡ z
    go true = refl
    go false = refl

module _ (r B y₀ : ℕ) (ds : List ℕ) where
  pub record Walking (y : ℕ) (least : ℤ) (sum i : ℕ) : Type 0 where
    pub inside : i ≤ length ds
    pub tokens : y ≤ depth_limit
    pub small : sum ≤ demand_limit * i
    pub overs : sum + over_all r B y (drop i ds) ≡ over_all r B y₀ ds
    pub spares : least_of least (gaps r B y (drop i ds)) ≡ spare_from r B y₀ ds

spares_start : (r B y : ℕ) (ds : List ℕ) → 1 ≤ length ds → least_of (gap r y (get_or ds 0 0)) (gaps r B y ds) ≡ spare_from r B y ds
unfolding least_of gaps spare_from
spares_start r B y [] h = absurd (omega arith)
spares_start r B y (d ∷ ds) h = ap (λ (z : ℤ). least_of z (gaps r B (held r B y d) ds)) (min-same (gap r y d))

pub walking_start : (r B y : ℕ) (ds : List ℕ) (z : ℤ) → y ≤ depth_limit → 1 ≤ length ds → z ≡ gap r y (get_or ds 0 0) → Walking r B y ds y z 0 0
walking_start r B y ds z h k e =
    record { inside = omega arith; tokens = h; small = omega arith; overs = omega arith; spares = rw e (spares_start r B y ds k) }

module _ {r B y₀ : ℕ} {ds : List ℕ} {y : ℕ} {least : ℤ} {sum i : ℕ} (k : Walking r B y₀ ds y least sum i) where
  pub walking_step : {p : Period} {z : ℤ} → B ≤ depth_limit → i < length ds → get_or ds i 0 ≤ demand_limit → p ≡ period_of r B y (get_or ds i 0)
      → z ≡ min_z least (gap r y (get_or ds i 0)) → Walking r B y₀ ds p.held z (sum + p.over) (i + 1)
  unfolding sum_of gaps least_of
  walking_step b l h e f =
      rw (e, f)
      (record {
        inside = omega arith;
        tokens = omega arith;
        small = omega arith;
        overs = rw (add-one i) (omega (arith, rw (drop-cons ds i 0 l) at k.overs));
        spares = rw (add-one i) (rw (drop-cons ds i 0 l) at k.spares);
      })

  pub over_end : length ds ≤ i → sum ≡ over_all r B y₀ ds
  unfolding sum_of
  over_end l = omega (arith, rw (drop_of_length-le ds l) at k.overs)

  pub spare_end : length ds ≤ i → least ≡ spare_from r B y₀ ds
  unfolding gaps least_of
  spare_end l = rw (drop_of_length-le ds l) at k.spares

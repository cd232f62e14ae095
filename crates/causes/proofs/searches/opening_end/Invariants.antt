-- After i turns no opening of i periods or fewer is short, and demands and tokens are those of the first i periods.
use Prim.Native.Nat.{ℕ, ◌+◌, ◌-◌, ◌*◌, ◌≤◌}
use mathlib.Core.Path.{◌≡◌}
use mathlib.Core.List.{List}
use lib.ListN.{length, take}
use Rattle.depth.specs.Depth.{first_from}
use Rattle.causes.specs.Cause.{demand_of, opening_end, short}
use Rattle.causes.proofs.searches.opening_end.Given as goal

pub record Opened (r y : ℕ) (ds : List ℕ) (demands tokens i : ℕ) : Type 0 where
  pub inside : i ≤ length ds
  pub sums : demands ≡ demand_of (take i ds)
  pub gains : tokens ≡ y + r * i
  pub so_far : opening_end r y ds ≡ first_from (λ v. short r y ds 1 v) (length ds - i) (i + 1)

abbrev pub invariant-loop-i : goal.invariant-loop-i
invariant-loop-i l = Opened l.rate.0 l.tokens-2 l.trace l.demands l.tokens l.i

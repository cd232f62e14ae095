-- With periods u + 1 to the last gone through, `first` is the first of them from which a stretch is short: each turn
-- back is one step of the search, read from its end.
use Prim.Native.Nat.{ℕ, ◌+◌, ◌-◌, ◌*◌, ◌≤◌}
use mathlib.Core.Path.{◌≡◌}
use mathlib.Core.List.{List}
use lib.Seq.{slice}
use Rattle.terms.specs.Answer.{figure_or}
use Rattle.depth.specs.Depth.{first_from}
use Rattle.causes.specs.Cause.{demand_of, short}
use Rattle.causes.proofs.searches.stretch_start.Given as goal

pub record Started (r C : ℕ) (ds : List ℕ) (v first demands tokens u : ℕ) : Type 0 where
  pub some : 1 ≤ u
  pub inside : u ≤ v
  pub sums : demands ≡ demand_of (slice u v ds)
  pub gains : tokens ≡ C + r * (v - u)
  pub so_far : first ≡ figure_or (first_from (λ n. short r C ds n v) (v - u) (u + 1)) v

abbrev pub invariant-loop-i : goal.invariant-loop-i
invariant-loop-i l = Started l.bucket.rate.0 l.bucket.depth.0 l.trace l.last l.first l.demands l.tokens l.i

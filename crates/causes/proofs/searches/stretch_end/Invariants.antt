-- Up to the last period gone through no stretch is short, and `need` is the ending of the walk from period 2 to it.
use Prim.Native.Nat.{ℕ, ◌+◌, ◌-◌, ◌≤◌}
use mathlib.Core.Path.{◌≡◌}
use mathlib.Core.List.{List}
use lib.ListN.{length}
use lib.Seq.{slice}
use Rattle.depth.specs.Depth.{first_from}
use Rattle.depth.specs.Walk.{walk_of}
use Rattle.causes.specs.Cause.{is_found, stretch_end, stretch_start}
use Rattle.causes.proofs.searches.stretch_end.Given as goal

pub record Ended (r C : ℕ) (ds : List ℕ) (need last : ℕ) : Type 0 where
  pub some : 1 ≤ last
  pub inside : last ≤ length ds
  pub ends : need ≡ (walk_of r (slice 1 last ds)).ending
  pub enough : need ≤ C
  pub so_far : stretch_end r C ds ≡ first_from (λ v. is_found (stretch_start r C ds v)) (length ds - last) (last + 1)

abbrev pub invariant-loop-i : goal.invariant-loop-i
invariant-loop-i l = Ended l.bucket.rate.0 l.bucket.depth.0 l.trace l.need (l.i + 1)

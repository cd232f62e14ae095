-- After each turn the value is the number of the bytes from the place reached to the end; it has as many bytes.
use Prim.Native.Nat.{ℕ, ◌+◌, ◌-◌, ◌^◌, ◌≤◌, ◌<◌}
use mathlib.Core.Path.{◌≡◌}
use mathlib.Core.List.{List}
use Rattle.encoding.specs.Number.{number_at}
use Rattle.encoding.proofs.numbers.number_at.Given as goal

pub record Reading (bs : List ℕ) (at width value k : ℕ) : Type 0 where
  pub few : k ≤ width
  pub is : value ≡ number_at (width - k) bs (at + k)
  pub below : value < 256 ^ (width - k)

abbrev pub invariant-loop-k : goal.invariant-loop-k
invariant-loop-k l = Reading l.bytes l.at l.width l.value l.k

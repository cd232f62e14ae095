-- The bytes still to be stored, stored from the place reached on, give the whole.
use Prim.Native.Nat.{ℕ, suc, ◌+◌, ◌-◌, ◌/◌, ◌%◌, ◌≤◌, ◌<◌}
use native.Mathlib.Omega.{arith}
use mathlib.Core.Path.{◌≡◌, ap, subst}
use mathlib.Core.List.{List}
use lib.ListN.{set}
use lib.Seq.{sets}
use Rattle.encoding.specs.Number.{bytes_of}
use Rattle.encoding.specs.StoreLaws.{Storing, none_stored, one_stored, all_stored}
use Rattle.encoding.proofs.numbers.put_number.Given as goal

module _ (old : List ℕ) (at width value : ℕ) where
  abbrev pub Writing : List ℕ → ℕ → ℕ → Type 0
  Writing new rest k = Storing old at (bytes_of width value) new (at + k) (bytes_of (width - k) rest)

  pub begin : Writing old value 0
  begin =
      let e : at ≡ at + 0 = omega arith in
      let f : width ≡ width - 0 = omega arith in
      subst (λ (n : ℕ). Storing old at (bytes_of width value) old n (bytes_of (width - 0) value)) e
      (subst (λ (n : ℕ). Storing old at (bytes_of width value) old at (bytes_of n value)) f (none_stored old at (bytes_of width value)))

  module _ (new : List ℕ) (rest k : ℕ) (w : Writing new rest k) where
    pub next : k < width → Writing (set new (at + k) (rest % 256)) (rest / 256) (k + 1)
    unfolding bytes_of
    next l =
        let e : width - k ≡ suc (width - (k + 1)) = omega arith in
        let f : at + k + 1 ≡ at + (k + 1) = omega arith in
        subst (λ (n : ℕ). Storing old at (bytes_of width value) (set new (at + k) (rest % 256)) n (bytes_of (width - (k + 1)) (rest / 256))) f
        (one_stored w (rest % 256) (bytes_of (width - (k + 1)) (rest / 256)) (ap (λ (n : ℕ). bytes_of n rest) e))

    pub end : width ≤ k → new ≡ sets old at (bytes_of width value)
    unfolding bytes_of
    end l = let e : width - k ≡ 0 = omega arith in all_stored w (ap (λ (n : ℕ). bytes_of n rest) e)

abbrev pub invariant-loop-k : goal.invariant-loop-k
invariant-loop-k l = Writing l.initial.bytes l.at l.width l.value l.bytes l.rest l.k

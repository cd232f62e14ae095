-- The division law of the starting tokens: N × q / p rounded up is the least depth B with p × B / q, rounded down,
-- at least N.
-- Assumes nothing.
use Rattle.std.specs.Prelude.{ℕ, zero, suc, ◌+◌, ◌-◌, ◌*◌, ◌/◌, ◌≤◌, ◌<◌, ◌≡◌}
use Rattle.std.specs.Int.{div_ceil}
use Rattle.std.proofs.Common.{arith, le-div_iff_mul-le, div-lt_iff_lt-mul}
use Rattle.std.proofs.lemmas.Grind.{div_ceil_times}
use Rattle.std.proofs.Math.Nat.{div-zero}
use Rattle.bucket.specs.Step.{start_of}
use Rattle.depth.specs.Walk.{ceiling}

module _ (p q N B : ℕ) (h : 1 ≤ q) where
  -- N tokens are in a fresh bucket of depth B exactly when N × q ≤ p × B.
  pub start_holds : N ≤ start_of p q B → N * q ≤ p * B
  unfolding start_of
  start_holds k = (le-div_iff_mul-le h).0 k

  pub holds_start : N * q ≤ p * B → N ≤ start_of p q B
  unfolding start_of
  holds_start k = (le-div_iff_mul-le h).1 k

-- x / p rounded up is at most B exactly when x ≤ p × B, where some p × C is at least x (so that p is not 0, or x is).
pub ceiling-le : (x p B : ℕ) → x ≤ p * B → ceiling x p ≤ B
unfolding ceiling
ceiling-le x zero B h = rw (div-zero (x + (0 - 1))) (omega arith)
ceiling-le x (suc p) B h =
    let z : 0 < suc p = omega arith in
    let l : (x + (suc p - 1)) / suc p < B + 1 = (div-lt_iff_lt-mul z).1 (omega arith) in
    omega arith

pub le-ceiling : (x p B C : ℕ) → x ≤ p * C → ceiling x p ≤ B → x ≤ p * B
unfolding ceiling
le-ceiling x zero B C h k = omega arith
le-ceiling x (suc p) B C h k =
    let z : 0 < suc p = omega arith in
    let l : x + (suc p - 1) < (B + 1) * suc p = (div-lt_iff_lt-mul z).0 (omega arith) in
    omega arith

-- The library's quotient rounded up is this one.
pub div_ceil-is : (x p : ℕ) → 1 ≤ p → div_ceil x p ≡ ceiling x p
unfolding ceiling
div_ceil-is x p h =
    let k = div_ceil_times x p h in
    let least : div_ceil x p ≤ (x + (p - 1)) / p = (le-div_iff_mul-le h).1 (omega (arith, k.1)) in
    let most : (x + (p - 1)) / p < div_ceil x p + 1 = (div-lt_iff_lt-mul h).1 (omega (arith, k.0)) in
    omega arith

-- The law: where a fresh bucket of some depth C holds N tokens,
-- one of depth B does exactly when N × q / p rounded up is at most B.
module _ (p q N : ℕ) (h : 1 ≤ q) where
  pub start_ceiling : (B : ℕ) → N ≤ start_of p q B → ceiling (N * q) p ≤ B
  start_ceiling B k = ceiling-le (N * q) p B (start_holds p q N B h k)

  pub ceiling_start : (B C : ℕ) → N ≤ start_of p q C → ceiling (N * q) p ≤ B → N ≤ start_of p q B
  ceiling_start B C k l = holds_start p q N B h (le-ceiling (N * q) p B C (start_holds p q N C h k) l)

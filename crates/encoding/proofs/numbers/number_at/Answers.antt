-- After each turn the value is the number of the bytes from the place reached to the end; it has as many bytes.
use Prim.Native.Nat.{ℕ, suc, ◌+◌, ◌-◌, ◌*◌, ◌^◌, ◌≤◌, ◌<◌}
use native.Mathlib.Omega.{arith}
use native.Mathlib.Nat.{le_trans, zero-lt-suc, one-le-pow, pow-le-pow_right, pow-suc, mul-le-mul, le_refl}
use mathlib.Core.Path.{◌≡◌, sym, ap, subst, ◌∙◌}
use mathlib.Core.List.{List}
use lib.ListN.{length, get_or}
use Rattle.encoding.specs.Number.{value_of, number_at}
use Rattle.encoding.specs.NumberLaws.{number_next}
use Rattle.encoding.proofs.numbers.number_at.Invariants.{Reading}
use Rattle.encoding.proofs.numbers.number_at.Goals as goal

begin : (bs : List ℕ) (at width : ℕ) → Reading bs at width 0 width
unfolding value_of
begin bs at width =
    let e : 0 ≡ width - width = omega arith in
    record {
      few = omega arith;
      is = ap (λ (n : ℕ). number_at n bs (at + width)) e;
      below = one-le-pow (width - width) 256 (zero-lt-suc 255);
    }

module _ (bs : List ℕ) (at width value k : ℕ) (r : Reading bs at width value k) where
  small : 0 < k → width ≤ 8 → value < 72057594037927936
  small l m = le_trans r.below (pow-le-pow_right (zero-lt-suc 255) {i = width - k} {j = 7} (omega (arith, r.few)))

  next : 0 < k → at + width ≤ length bs → get_or bs (at + (k - 1)) 0 < 256 → Reading bs at width (value * 256 + get_or bs (at + (k - 1)) 0) (k - 1)
  next l m b =
      let w = width - k in
      let v = get_or bs (at + (k - 1)) 0 in
      let e : width - (k - 1) ≡ suc w = omega (arith, r.few) in
      let f : at + (k - 1) + 1 ≡ at + k = omega arith in
      let n : number_at (suc w) bs (at + (k - 1)) ≡ v + 256 * value =
      number_next w bs (at + (k - 1)) (omega (arith, r.few)) ∙ ap (λ (x : ℕ). v + 256 * number_at w bs x) f ∙ ap (λ (x : ℕ). v + 256 * x) (sym r.is) in
      let p : 256 ^ suc w ≡ 256 ^ w * 256 = pow-suc 256 w in
      let q : (value + 1) * 256 ≤ 256 ^ w * 256 = mul-le-mul (omega (arith, r.below)) (le_refl 256) in
      let o : value * 256 + v < 256 ^ suc w = omega arith in
      record {
        few = omega (arith, r.few);
        is = omega (arith, n) ∙ ap (λ (x : ℕ). number_at x bs (at + (k - 1))) (sym e);
        below = subst (λ (x : ℕ). value * 256 + v < 256 ^ x) (sym e) o;
      }

  end : k ≤ 0 → (value ≡ number_at width bs at) × (value < 256 ^ width)
  end l =
      let e : width - k ≡ width = omega arith in
      let f : at + k ≡ at = omega arith in
      (r.is ∙ ap (λ (x : ℕ). number_at x bs (at + k)) e ∙ ap (number_at width bs) f, subst (λ (x : ℕ). value < 256 ^ x) e r.below)

pub loop-k-init : goal.loop-k-init
loop-k-init c = begin _ _ _

pub overflow_mul-value : goal.overflow_mul-value
overflow_mul-value c = omega (arith, small _ _ _ _ _ c.loop-k.invariant c.loop-k-test.true c.requires.width_bound)

pub overflow_add-value-in-loop-k : goal.overflow_add-value-in-loop-k
overflow_add-value-in-loop-k c =
    let l = c.loop-k in
    omega (arith, small _ _ _ _ _ l.invariant c.loop-k-test.true c.requires.width_bound, c.shared_slice_known-1.given (c.args.at + (l.k - 1)))

pub loop-k-preserved : goal.loop-k-preserved
loop-k-preserved c =
    let l = c.loop-k in
    next _ _ _ _ _ l.invariant c.loop-k-test.true c.requires.width_in_bounds (omega (arith, c.shared_slice_known-1.given (c.args.at + (l.k - 1))))

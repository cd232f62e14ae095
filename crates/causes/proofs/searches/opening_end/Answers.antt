-- After i turns no opening of i periods or fewer is short, and demands and tokens are those of the first i periods.
use Prim.Native.Nat.{ℕ, ◌+◌, ◌-◌, ◌*◌, ◌≤◌, ◌<◌}
use native.Mathlib.Omega.{arith}
use native.Mathlib.Nat.{mul-le-mul, mul-suc, sub-zero}
use native.Mathlib.Numerals.{add-one}
use mathlib.Core.Path.{◌≡◌, refl, sym, ap, ◌∙◌}
use mathlib.Core.List.{List}
use lib.ListN.{length, get_or, take}
use lib.Seq.{length-take-le, take-suc}
use Rattle.terms.specs.Answer.{figures, refused}
use Rattle.terms.specs.Limits.{demand_limit, depth_limit, rate_limit, trace_limit}
use Rattle.terms.specs.Records.{total}
use Rattle.bucket.specs.Laws.{demands-take}
use Rattle.bucket.specs.Trace.{Demands}
use Rattle.depth.specs.Depth.{first_from}
use Rattle.depth.specs.SearchLaws.{from_failed, from_none, from-passed}
use Rattle.causes.specs.Cause.{demand_of, opening_end, short}
use Rattle.causes.specs.PeriodNeedLaws.{demand_le, demand_more, sums-enough, sums-short}
use Rattle.causes.proofs.searches.opening_end.Invariants.{Opened}
use Rattle.causes.proofs.searches.opening_end.Goals as goal

start : (r y : ℕ) (ds : List ℕ) → Opened r y ds 0 y 0
unfolding total
start r y ds =
    record {
      inside = omega arith;
      sums = refl;
      gains = omega arith;
      so_far = ap (λ (n : ℕ). first_from (λ v. short r y ds 1 v) n 1) (sym (sub-zero (length ds)));
    }

module _ {r y : ℕ} {ds : List ℕ} {demands tokens i : ℕ} (k : Opened r y ds demands tokens i) (l : i < length ds) where
  abbrev demands' : ℕ
  demands' = demands + get_or ds i 0

  abbrev tokens' : ℕ
  tokens' = tokens + r

  sums' : demands' ≡ demand_of (take (i + 1) ds)
  sums' =
      ap (λ (n : ℕ). n + get_or ds i 0) k.sums ∙ sym (demand_more (take i ds) (get_or ds i 0))
      ∙ ap demand_of (sym (rw (add-one i) (take-suc ds i 0 l)))

  gains' : tokens' ≡ y + r * (i + 1)
  gains' = omega (arith, k.gains, mul-suc r i)

  gained : tokens' ≡ y + r * length (take (i + 1) ds)
  gained = rw (length-take-le (i + 1) ds (omega arith)) gains'

  -- both sums fit
  demands_fit : Demands ds → length ds ≤ trace_limit → demands' ≤ demand_limit * trace_limit
  demands_fit h n =
      omega
      (arith, sums', demand_le (take (i + 1) ds) (demands-take (i + 1) ds h), length-take-le (i + 1) ds (omega arith))

  tokens-fit : r ≤ rate_limit → y ≤ depth_limit → length ds ≤ trace_limit
      → tokens' ≤ depth_limit + rate_limit * trace_limit
  tokens-fit hr hy n = let few : i + 1 ≤ trace_limit = omega arith in omega (arith, gains', mul-le-mul hr few)

  found : tokens' < demands' → opening_end r y ds ≡ figures (i + 1)
  found h =
      k.so_far
      ∙ from-passed (λ v. short r y ds 1 v) (i + 1) (length ds - i) (omega arith)
      (sums-short r y demands' tokens' _ sums' gained h)

  next : demands' ≤ tokens' → Opened r y ds demands' tokens' (i + 1)
  next h =
      record {
        inside = omega arith;
        sums = sums';
        gains = gains';
        so_far =
            k.so_far
            ∙ from_failed (λ v. short r y ds 1 v) (i + 1) (length ds - i) (length ds - (i + 1)) (omega arith)
            (sums-enough r y demands' tokens' _ sums' gained h);
      }

end : {r y : ℕ} {ds : List ℕ} {demands tokens i : ℕ} → Opened r y ds demands tokens i → length ds ≤ i
    → opening_end r y ds ≡ refused 7
end {r} {y} {ds} {i = i} k l = k.so_far ∙ from_none (λ v. short r y ds 1 v) (i + 1) (length ds - i) (omega arith)

pub loop-i-init : goal.loop-i-init
loop-i-init c = start _ _ _

pub overflow_add-demands : goal.overflow_add-demands
overflow_add-demands c =
    omega
    (arith, demands_fit c.loop-i.invariant c.loop-i-test.true (record { each = λ i. omega (arith, c.type_inv.trace i) }) c.requires.periods_range.few)

pub returns-then-tokens-demands : goal.returns-then-tokens-demands
returns-then-tokens-demands c = sym (found c.loop-i.invariant c.loop-i-test.true c.if-tokens-demands.true)

pub loop-i-preserved : goal.loop-i-preserved
loop-i-preserved c = next c.loop-i.invariant c.loop-i-test.true c.if-tokens-demands.false

pub returns : goal.returns
returns c = sym (end c.loop-i.invariant c.loop-i-test.false)

-- With periods u + 1 to the last gone through, `first` is the first of them from which a stretch is short: each turn
-- back is one step of the search, read from its end.
use Prim.Native.Nat.{ℕ, suc, ◌+◌, ◌-◌, ◌*◌, ◌≤◌, ◌<◌}
use native.Mathlib.Omega.{arith}
use native.Mathlib.Nat.{mul-le-mul, mul-suc, sub_self, mul-zero}
use mathlib.Core.Path.{◌≡◌, sym, ap, ◌∙◌}
use mathlib.Core.Bool.{Bool, true, false}
use mathlib.Core.List.{List}
use lib.Dec.{ltb}
use lib.ListN.{length, get_or}
use lib.Seq.{length-slice, slice, slice-cons, slice_empty}
use Rattle.terms.specs.Answer.{Answer, figure_or}
use Rattle.terms.specs.Limits.{demand_limit, depth_limit, rate_limit, trace_limit}
use Rattle.terms.specs.Records.{total}
use Rattle.bucket.specs.Laws.{demands-drop, demands-take}
use Rattle.bucket.specs.Trace.{Demands}
use Rattle.depth.specs.Depth.{first_from}
use Rattle.depth.specs.SearchLaws.{from_failed, from_none, from-passed}
use Rattle.causes.specs.Cause.{demand_of, need_of, short, stretch_start}
use Rattle.causes.specs.PeriodNeedLaws.{demand_le, sums-enough, sums-short}
use Rattle.causes.proofs.searches.stretch_start.Invariants.{Started}
use Rattle.causes.proofs.searches.stretch_start.Goals as goal

start : (r C : ℕ) (ds : List ℕ) (v : ℕ) → 1 ≤ v → Started r C ds v v 0 C v
unfolding total
start r C ds v h =
    let z : v - v ≡ 0 = sub_self v in
    record {
      some = h;
      inside = omega arith;
      sums = sym (ap demand_of (slice_empty v ds));
      gains = rw (z, mul-zero r) (omega arith);
      so_far =
          sym (ap (λ (a : Answer ℕ). figure_or a v) (from_none (λ n. short r C ds n v) (v + 1) (v - v) (omega arith)));
    }

module _ {r C : ℕ} {ds : List ℕ} {v first demands tokens u : ℕ} (k : Started r C ds v first demands tokens u) (l : 1 < u) (n : v ≤ length ds) where
  -- the index of period u
  abbrev j : ℕ
  j = u - 1

  abbrev demands' : ℕ
  demands' = demands + get_or ds j 0

  abbrev tokens' : ℕ
  tokens' = tokens + r

  sums' : demands' ≡ demand_of (slice j v ds)
  unfolding total
  sums' =
      let e : suc j ≡ u = omega arith in
      let f : demand_of (slice j v ds) ≡ get_or ds j 0 + demand_of (slice (suc j) v ds) =
      ap demand_of (slice-cons j v ds 0 (omega (arith, k.inside)) n) in
      omega (arith, k.sums, f, ap (λ (m : ℕ). demand_of (slice m v ds)) e)

  gains' : tokens' ≡ C + r * (v - j)
  gains' =
      let e : v - j ≡ suc (v - u) = omega (arith, k.inside) in
      rw e (omega (arith, k.gains, mul-suc r (v - u)))

  gained : tokens' ≡ C + r * length (slice j v ds)
  gained = rw (length-slice j v ds n) gains'

  -- both sums fit
  demands_fit : Demands ds → length ds ≤ trace_limit → demands' ≤ demand_limit * trace_limit
  demands_fit h m =
      omega (arith, sums', demand_le (slice j v ds) (demands-drop j _ (demands-take v ds h)), length-slice j v ds n)

  tokens-fit : r ≤ rate_limit → C ≤ depth_limit → length ds ≤ trace_limit
      → tokens' ≤ depth_limit + rate_limit * trace_limit
  tokens-fit hr hC m = let few : v - j ≤ trace_limit = omega arith in omega (arith, gains', mul-le-mul hr few)

  -- the search from period u on
  abbrev search-u : Answer ℕ
  search-u = first_from (λ m. short r C ds m v) (v - j) (j + 1)

  short-u : (b : Bool) → ltb C (need_of r (slice j v ds)) ≡ b → short r C ds (j + 1) v ≡ b
  short-u b h = let e : j + 1 - 1 ≡ j = omega arith in ap (λ (m : ℕ). ltb C (need_of r (slice m v ds))) e ∙ h

  next : (new : ℕ) → new ≡ figure_or search-u v → Started r C ds v new demands' tokens' j
  next new e = record { some = omega arith; inside = omega (arith, k.inside); sums = sums'; gains = gains'; so_far = e }

  hit : tokens' < demands' → Started r C ds v (j + 1) demands' tokens' j
  hit h =
      let e = short-u true (sums-short r C demands' tokens' _ sums' gained h) in
      let f = from-passed (λ m. short r C ds m v) (j + 1) (v - j) (omega (arith, k.inside)) e in
      next (j + 1) (sym (ap (λ (a : Answer ℕ). figure_or a v) f))

  miss : demands' ≤ tokens' → Started r C ds v first demands' tokens' j
  miss h =
      let e = short-u false (sums-enough r C demands' tokens' _ sums' gained h) in
      let f : search-u ≡ first_from (λ m. short r C ds m v) (v - u) (j + 1 + 1) =
      from_failed (λ m. short r C ds m v) (j + 1) (v - j) (v - u) (omega (arith, k.inside)) e in
      let g : u + 1 ≡ j + 1 + 1 = omega arith in
      next first (k.so_far ∙ rw (f, g))

end : {r C : ℕ} {ds : List ℕ} {v first demands tokens u : ℕ} → Started r C ds v first demands tokens u → u ≤ 1
    → first ≡ figure_or (stretch_start r C ds v) v
end {r} {C} {ds} {v} {u = u} k l =
    let e : u ≡ 1 = omega (arith, k.some) in
    k.so_far ∙ ap (λ (m : ℕ). figure_or (first_from (λ n. short r C ds n v) (v - m) (m + 1)) v) e

pub loop-i-init : goal.loop-i-init
loop-i-init c = start _ _ _ _ c.requires.le_last

pub overflow_add-demands : goal.overflow_add-demands
overflow_add-demands c =
    let demands : Demands c.args.trace.now = record { each = λ i. omega (arith, c.type_inv.trace i) } in
    let n = c.requires.last_in_bounds in
    omega (arith, demands_fit c.loop-i.invariant c.loop-i-test.true n demands c.requires.periods_range.few)

pub loop-i-preserved-then-tokens-demands : goal.loop-i-preserved-then-tokens-demands
loop-i-preserved-then-tokens-demands c =
    hit c.loop-i.invariant c.loop-i-test.true c.requires.last_in_bounds c.if-tokens-demands.true

pub loop-i-preserved : goal.loop-i-preserved
loop-i-preserved c =
    miss c.loop-i.invariant c.loop-i-test.true c.requires.last_in_bounds c.if-tokens-demands.false

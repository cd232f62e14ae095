-- Up to the last period gone through no stretch is short, and `need` is the ending of the walk from period 2 to it.
use Prim.Native.Nat.{ℕ, ◌+◌, ◌-◌, ◌≤◌, ◌<◌}
use native.Mathlib.Omega.{arith}
use native.Mathlib.Numerals.{add-one}
use mathlib.Core.Path.{◌≡◌, refl, sym, ap, ◌∙◌}
use mathlib.Core.Bool.{Bool}
use mathlib.Core.List.{List, [], ◌∷◌, ◌++◌}
use borrow.Author.Rules.{part_to_end}
use borrow.Author.Tests.{lt-ltb, le-ltb}
use lib.ListN.{length, get_or, take, drop, length-drop}
use lib.Seq.{drop-append-le, length-take-le, slice, slice_empty, take-suc}
use Rattle.std.proofs.Common.{get_or-drop}
use Rattle.terms.specs.Answer.{Answer, figures, figure_or}
use Rattle.depth.specs.declared.walk.Walk.{Walk}
use Rattle.depth.specs.SearchLaws.{from_failed, from_none, from-passed}
use Rattle.depth.specs.Walk.{pushed, walk_of}
use Rattle.depth.specs.WalkLaws.{walk_more}
use Rattle.causes.specs.Cause.{is_found, stretch_end, stretch_start}
use Rattle.causes.specs.PeriodNeedLaws.{stretch-found}
use Rattle.causes.proofs.searches.stretch_end.Invariants.{Ended}
use Rattle.causes.proofs.searches.stretch_end.Goals as goal

start : (r C : ℕ) (ds : List ℕ) → 1 ≤ length ds → Ended r C ds 0 1
unfolding walk_of
start r C ds h =
    record {
      some = omega arith;
      inside = h;
      ends = sym (ap (λ (es : List ℕ). (walk_of r es).ending) (slice_empty 1 ds));
      enough = omega arith;
      so_far = refl;
    }

module _ {r C : ℕ} {ds : List ℕ} {need last : ℕ} (k : Ended r C ds need last) (l : last < length ds) where
  abbrev d : ℕ
  d = get_or ds last 0

  more : slice 1 (last + 1) ds ≡ slice 1 last ds ++ (d ∷ [])
  more =
      let e : take (last + 1) ds ≡ take last ds ++ (d ∷ []) = rw (add-one last) (take-suc ds last 0 l) in
      ap (drop 1) e ∙ drop-append-le 1 (take last ds) (d ∷ []) (omega (arith, k.some, length-take-le last ds k.inside))

  ends' : (new : ℕ) → new ≡ need + d - r → new ≡ (walk_of r (slice 1 (last + 1) ds)).ending
  unfolding pushed
  ends' new e =
      e ∙ ap (λ (n : ℕ). n + d - r) k.ends
      ∙ sym (ap (λ (w : Walk). w.ending) (ap (walk_of r) more ∙ walk_more r (slice 1 last ds) d))

  abbrev test : ℕ → Bool
  test v = is_found (stretch_start r C ds v)

  found : (new : ℕ) → new ≡ need + d - r → C < new → stretch_end r C ds ≡ figures (last + 1)
  found new e h =
      let t = stretch-found r C ds (last + 1) (omega arith) in
      k.so_far ∙ from-passed test (last + 1) (length ds - last) (omega arith)
      (t ∙ lt-ltb C _ (omega (arith, ends' new e)))

  next : (new : ℕ) → new ≡ need + d - r → new ≤ C → Ended r C ds new (last + 1)
  next new e h =
      let t = stretch-found r C ds (last + 1) (omega arith) in
      record {
        some = omega arith;
        inside = omega arith;
        ends = ends' new e;
        enough = h;
        so_far =
            k.so_far
            ∙ from_failed test (last + 1) (length ds - last) (length ds - (last + 1)) (omega arith)
            (t ∙ le-ltb C _ (omega (arith, ends' new e)));
      }

end : {r C : ℕ} {ds : List ℕ} {need last : ℕ} → Ended r C ds need last → length ds ≤ last
    → length ds ≡ figure_or (stretch_end r C ds) (length ds)
end {r} {C} {ds} {last = last} k l =
    sym
    (ap (λ (a : Answer ℕ). figure_or a (length ds)) (k.so_far ∙ from_none (λ v. is_found (stretch_start r C ds v)) (last + 1) (length ds - last) (omega arith)))

pub loop-i-init : goal.loop-i-init
loop-i-init c = start _ _ _ c.requires.periods_range.some

-- the periods from the second on, as they stand in the trace
module _ (ds part : List ℕ) (i : ℕ) (e : part ≡ drop 1 ds) where
  inside : i < length part → i + 1 < length ds
  inside l = omega (arith, ap length e, length-drop 1 ds)

  past : length part ≤ i → length ds ≤ i + 1
  past l = omega (arith, ap length e, length-drop 1 ds)

  demand_is : get_or part i 0 ≡ get_or ds (i + 1) 0
  demand_is =
      let f : 1 + i ≡ i + 1 = omega arith in
      ap (λ (xs : List ℕ). get_or xs i 0) e ∙ get_or-drop 1 ds i 0 ∙ ap (λ (n : ℕ). get_or ds n 0) f

pub returns-then-bucket-need : goal.returns-then-bucket-need
returns-then-bucket-need c =
    let ds = c.args.trace.now in
    let e = part_to_end ds 1 in
    let l = inside ds _ c.loop-i.i e c.loop-i-test.true in
    let n = c.saturating_sub-need.ensures ∙ ap (λ (d : ℕ). c.loop-i.need + d - c.args.bucket.rate.0) (demand_is ds _ c.loop-i.i e) in
    let two : c.loop-i.i + 2 ≡ c.loop-i.i + 1 + 1 = omega arith in
    two ∙ sym (ap (λ (a : Answer ℕ). figure_or a (length ds)) (found c.loop-i.invariant l _ n c.if-bucket-need.true))

pub loop-i-preserved : goal.loop-i-preserved
loop-i-preserved c =
    let ds = c.args.trace.now in
    let e = part_to_end ds 1 in
    let l = inside ds _ c.loop-i.i e c.loop-i-test.true in
    let n = c.saturating_sub-need.ensures ∙ ap (λ (d : ℕ). c.loop-i.need + d - c.args.bucket.rate.0) (demand_is ds _ c.loop-i.i e) in
    next c.loop-i.invariant l _ n c.if-bucket-need.false

pub returns : goal.returns
returns c =
    let ds = c.args.trace.now in
    end c.loop-i.invariant (past ds _ c.loop-i.i (part_to_end ds 1) c.loop-i-test.false)

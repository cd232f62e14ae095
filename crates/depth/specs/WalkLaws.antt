-- The lemma of the walk: a bucket that starts with y tokens carries the periods walked exactly when y is at least the
-- opening and the depth at least the stretch, and then it holds the smaller of y + gained − sum and depth − ending.
-- By induction over the periods: each push keeps the lemma, and opening and stretch never fall.
-- Assumes nothing.
use Prim.Native.Nat.{ℕ, ◌+◌, ◌-◌, ◌≤◌, ◌<◌, min}
use Rattle.std.proofs.Common.{arith, le_antisymm, add-one, sym, ap, subst, ◌∙◌, take-suc}
use Rattle.std.proofs.Math.Nat.{le-min, le_trans, le-max_left, le-max_right, max-le, min-le_left, min-le_right, min-eq_left}
use Rattle.std.specs.Prelude.{◌≡◌, true, eqb, length, get_or, take}
use Rattle.std.proofs.Math.Path.{refl}
use mathlib.Core.List.{List, [], ◌∷◌, ◌++◌, foldl, foldl-append}
use borrow.Author.Tests.{eqb-true, eq-eqb}
use Rattle.terms.specs.Bools.{and_both, both_and}
use Rattle.bucket.specs.Step.{over, held}
use Rattle.bucket.specs.Trace.{carries_from, held_after}
use Rattle.depth.specs.declared.walk.Walk.{Walk}
use Rattle.depth.specs.Walk.{started, pushed, walk_of}

-- y tokens and depth B are enough for the periods walked.
pub record Enough (B y : ℕ) (w : Walk) : Type 0 where
  pub opens : w.opening ≤ y
  pub stretches : w.stretch ≤ B

-- A bucket of depth B that started with y tokens holds h after the periods walked. `came` is y and the tokens gained
-- less the demands, `room` the depth less the need that ends here.
pub record Holds (B y : ℕ) (w : Walk) (h : ℕ) : Type 0 where
  pub came : ℕ
  pub room : ℕ
  pub sums : came + w.sum ≡ y + w.gained
  pub ends : room + w.ending ≡ B
  pub tokens : h ≡ min came room

-- The tokens after one more period.
more-held : (a b B e r d : ℕ) → b + e ≡ B → d ≤ min a b + r
    → min B (min a b + r - d) ≡ min (a + r - d) (B - (e + d - r))
more-held a b B e r d h l = le_antisymm (le-min (omega arith) (omega arith)) (le-min (omega arith) (omega arith))

fits : (r h d : ℕ) → over r h d ≡ 0 → d ≤ h + r
fits r h d e = omega arith

nothing-over : (r a b h d : ℕ) → h ≡ min a b → d ≤ a + r → d ≤ b + r → over r h d ≡ 0
nothing-over r a b h d e i j = omega arith

held-is : (r B h d : ℕ) → d ≤ h + r → held r B h d ≡ min B (h + r - d)
held-is r B h d l = rw (min-eq_left l)

module _ (r : ℕ) {B y : ℕ} {w : Walk} {h : ℕ} (d : ℕ) (k : Holds B y w h) where
  -- One more period is carried exactly when the pushed walk's new needs are met.
  push_enough : Enough B y w → over r h d ≡ 0 → Enough B y (pushed r w d)
  unfolding pushed
  push_enough n e =
      let m : d ≤ min k.came k.room + r = omega (arith, k.tokens) in
      record {
        opens = max-le n.opens (omega (arith, k.sums, min-le_left k.came k.room));
        stretches = max-le n.stretches (omega (arith, k.ends, min-le_right k.came k.room));
      }

  enough_push : Enough B y (pushed r w d) → over r h d ≡ 0
  unfolding pushed
  enough_push n =
      let a : w.sum + d - (w.gained + r) ≤ y = le_trans (le-max_right w.opening _) n.opens in
      let b : w.ending + d - r ≤ B = le_trans (le-max_right w.stretch _) n.stretches in
      nothing-over r k.came k.room h d k.tokens (omega (arith, k.sums)) (omega (arith, k.ends))

  push_holds : over r h d ≡ 0 → Holds B y (pushed r w d) (held r B h d)
  unfolding pushed
  push_holds e =
      let m : d ≤ min k.came k.room + r = omega (arith, k.tokens) in
      record {
        came = k.came + r - d;
        room = B - (w.ending + d - r);
        sums = omega (arith, k.sums, min-le_left k.came k.room);
        ends = omega (arith, k.ends, min-le_right k.came k.room);
        tokens = held-is r B h d (fits r h d e) ∙ rw k.tokens (more-held k.came k.room B w.ending r d k.ends m);
      }

-- Opening and stretch never fall.
push_grows : (r B y : ℕ) (w : Walk) (d : ℕ) → Enough B y (pushed r w d) → Enough B y w
unfolding pushed
push_grows r B y w d n = record { opens = le_trans (le-max_left w.opening _) n.opens; stretches = le_trans (le-max_left w.stretch _) n.stretches }

walk_grows : (r B y : ℕ) (w : Walk) (ds : List ℕ) → Enough B y (foldl (pushed r) w ds) → Enough B y w
walk_grows r B y w [] n = n
walk_grows r B y w (d ∷ ds) n = push_grows r B y w d (walk_grows r B y (pushed r w d) ds n)

-- From any walk on: what is carried is enough, what is enough is carried, and the tokens after it.
module _ (r : ℕ) {B y : ℕ} where
  on_enough : {w : Walk} {h : ℕ} (ds : List ℕ) → Holds B y w h → Enough B y w → carries_from r B h ds ≡ true
      → Enough B y (foldl (pushed r) w ds)
  unfolding carries_from
  on_enough [] k n e = n
  on_enough {w} {h} (d ∷ ds) k n e =
      let c = and_both (eqb (over r h d) 0) (carries_from r B (held r B h d) ds) e in
      let z = eqb-true _ _ c.0 in
      on_enough {w = pushed r w d} {h = held r B h d} ds (push_holds r d k z) (push_enough r d k n z) c.1

  on_carried : {w : Walk} {h : ℕ} (ds : List ℕ) → Holds B y w h → Enough B y (foldl (pushed r) w ds)
      → carries_from r B h ds ≡ true
  unfolding carries_from
  on_carried [] k n = refl
  on_carried {w} {h} (d ∷ ds) k n =
      let z = enough_push r d k (walk_grows r B y (pushed r w d) ds n) in
      both_and (eq-eqb _ _ z) (on_carried {w = pushed r w d} {h = held r B h d} ds (push_holds r d k z) n)

  on_holds : {w : Walk} {h : ℕ} (ds : List ℕ) → Holds B y w h → carries_from r B h ds ≡ true
      → Holds B y (foldl (pushed r) w ds) (held_after r B h ds)
  unfolding carries_from held_after
  on_holds [] k e = k
  on_holds {w} {h} (d ∷ ds) k e =
      let c = and_both (eqb (over r h d) 0) (carries_from r B (held r B h d) ds) e in
      on_holds {w = pushed r w d} {h = held r B h d} ds (push_holds r d k (eqb-true _ _ c.0)) c.1

started-holds : (B y : ℕ) → y ≤ B → Holds B y started y
started-holds B y h = record { came = y; room = B; sums = refl; ends = omega arith; tokens = sym (min-eq_left h) }

started-enough : (B y : ℕ) → Enough B y started
started-enough B y = omega arith

-- ---- The lemma of the walk

module _ (r : ℕ) {B y : ℕ} (h : y ≤ B) where
  pub carried-enough : (ds : List ℕ) → carries_from r B y ds ≡ true → Enough B y (walk_of r ds)
  unfolding walk_of
  carried-enough ds e = on_enough r ds (started-holds B y h) (started-enough B y) e

  pub enough-carried : (ds : List ℕ) → Enough B y (walk_of r ds) → carries_from r B y ds ≡ true
  unfolding walk_of
  enough-carried ds n = on_carried r ds (started-holds B y h) n

  pub carried-holds : (ds : List ℕ) → carries_from r B y ds ≡ true → Holds B y (walk_of r ds) (held_after r B y ds)
  unfolding walk_of
  carried-holds ds e = on_holds r ds (started-holds B y h) e

  -- The tokens held after a trace that is carried.
  pub held-closed : (ds : List ℕ) (w : Walk) → w ≡ walk_of r ds → carries_from r B y ds ≡ true
      → held_after r B y ds ≡ min (y + w.gained - w.sum) (B - w.ending)
  held-closed ds w f e =
      let k : Holds B y w (held_after r B y ds) = rw f (carried-holds ds e) in
      omega (arith, k.tokens, k.sums, k.ends)

-- The walk of a trace with one more period at its end is the walk pushed by that period.
pub walk_more : (r : ℕ) (ds : List ℕ) (d : ℕ) → walk_of r (ds ++ (d ∷ [])) ≡ pushed r (walk_of r ds) d
unfolding walk_of
walk_more r ds d = foldl-append (pushed r) started ds (d ∷ [])

-- So the lemma for such a trace is the one for the pushed walk.
module _ (r : ℕ) {B y : ℕ} (h : y ≤ B) (ds : List ℕ) (d : ℕ) where
  pub carried-enough-more : carries_from r B y (ds ++ (d ∷ [])) ≡ true → Enough B y (pushed r (walk_of r ds) d)
  carried-enough-more e = subst (Enough B y) (walk_more r ds d) (carried-enough r h (ds ++ (d ∷ [])) e)

  pub enough-carried-more : Enough B y (pushed r (walk_of r ds) d) → carries_from r B y (ds ++ (d ∷ [])) ≡ true
  enough-carried-more n = enough-carried r h (ds ++ (d ∷ [])) (subst (Enough B y) (sym (walk_more r ds d)) n)

-- The walk of the first i + 1 periods.
pub walk_next : (r : ℕ) (ds : List ℕ) (i : ℕ) → i < length ds
    → walk_of r (take (i + 1) ds) ≡ pushed r (walk_of r (take i ds)) (get_or ds i 0)
walk_next r ds i l = ap (walk_of r) (rw (add-one i) (take-suc ds i 0 l)) ∙ walk_more r (take i ds) (get_or ds i 0)

-- The parts of a walk at one rate need no more at another than the walk there does: a part that is replaced has its
-- whole need from the sums, and one that goes on takes the demand with it.
-- Assumes nothing.
use Rattle.std.specs.Prelude.{ℕ, ◌+◌, ◌-◌, ◌*◌, ◌≤◌, ◌<◌, max, Bool, true, false, cond, List, ◌≡◌, eqb, ltb, length, take, get_or}
use Rattle.std.proofs.Common.{arith, le_trans, ◌∙◌, eqb-true, ltb-true, ltb-false}
use Rattle.std.proofs.Math.Nat.{le-max_left, le-max_right}
use Rattle.std.proofs.Math.Path.{refl, sym, ap, subst}
use Rattle.std.proofs.lemmas.Bool.{eqb-false}
use Rattle.terms.specs.Limits.{demand_limit, rate_limit, trace_limit}
use Rattle.bucket.specs.Trace.{Demands}
use Rattle.depth.specs.declared.walk.Walk.{Walk}
use Rattle.depth.specs.Walk.{pushed, walk_of}
use Rattle.depth.specs.WalkLaws.{walk_next}
use Rattle.depth.specs.WalkRanges.{WalkRange, range_started, range_pushed, range_more}
use Rattle.spans.specs.declared.parts.Parts.{Parts}
use Rattle.spans.specs.Parts.{Grown, PartsRange, Below, PartsAt, no_parts}

-- ---- One period more

-- The greater of an old need and a new one: where it grows it is the new one, else the old.
grown_need : (a b m : ℕ) → m ≡ max a b → (c : Bool) → ltb a m ≡ c → cond c ((m ≡ b) × (a < m)) (m ≡ a)
grown_need a b m e true h = let l = ltb-true a m h in (omega arith, l)
grown_need a b m e false h = let l = ltb-false a m h in omega (arith, le-max_left a b)

-- A need that is the greater of two, with the length of the part that sets it, at rates r and x.
either_below : (r x a b m len new n c d o : ℕ) → m ≡ max a b → n ≡ cond (ltb a m) new len → o ≡ max c d
    → a + r * len ≤ c + x * len
    → (0 < b → b + r * new ≤ d + x * new) → m + r * n ≤ o + x * n
either_below r x a b m len new n c d o e f g old fresh = go (ltb a m) refl f (grown_need a b m e (ltb a m) refl)
  where
    go : (t : Bool) → ltb a m ≡ t → n ≡ cond t new len → cond t ((m ≡ b) × (a < m)) (m ≡ a) → m + r * n ≤ o + x * n
    go true h k l =
        let z : 0 < b = omega (arith, l.0, l.1) in
        subst (λ (y : ℕ). m + r * y ≤ o + x * y) (sym k) (omega (arith, l.0, fresh z, g, le-max_right c d))
    go false h k l = subst (λ (y : ℕ). m + r * y ≤ o + x * y) (sym k) (omega (arith, l, old, g, le-max_left c d))

module _ (r x d : ℕ) (s n : Parts) (w : Walk) (g : Grown r d s n) (k : Below r s x w) where
  -- Before the fields are put together: the opening of all periods walked, and the stretch that ends here.
  whole_below : 0 < s.walk.sum + d - (s.walk.gained + r)
      → s.walk.sum + d - (s.walk.gained + r) + r * n.periods ≤ w.sum + d - (w.gained + x) + x * n.periods
  whole_below z =
      let p : n.periods ≡ s.periods + 1 = g.periods in
      rw p (omega (arith, k.sums, k.gains, k.gains_there))

  ending-is : n.walk.ending ≡ s.walk.ending + d - r
  unfolding pushed
  ending-is = ap (λ (v : Walk). v.ending) g.walk

  ending-below : n.walk.ending + r * n.ending ≤ w.ending + d - x + x * n.ending
  ending-below = go (eqb n.walk.ending 0) refl g.ending
    where
      go : (t : Bool) → eqb n.walk.ending 0 ≡ t → n.ending ≡ cond t 0 (s.ending + 1)
          → n.walk.ending + r * n.ending ≤ w.ending + d - x + x * n.ending
      go true h f =
          let z : n.walk.ending ≡ 0 = eqb-true _ _ h in
          subst (λ (y : ℕ). n.walk.ending + r * y ≤ w.ending + d - x + x * y) (sym f) (omega (arith, z))
      go false h f =
          let z : n.walk.ending ≡ 0 → ⊥ = eqb-false _ _ h in
          subst (λ (y : ℕ). n.walk.ending + r * y ≤ w.ending + d - x + x * y) (sym f) (omega (arith, z, ending-is, k.ending))

  pub grown_below : Below r n x (pushed x w d)
  unfolding pushed
  grown_below =
      record {
        sums = ap (λ (y : ℕ). y + d) k.sums ∙ sym (ap (λ (v : Walk). v.sum) g.walk);
        gains = ap (λ (v : Walk). v.gained) g.walk ∙ more r k.gains;
        gains_there = more x k.gains_there;
        opening =
            either_below r x _ _ _ _ _ _ _ _ _ (ap (λ (v : Walk). v.opening) g.walk) g.opening refl k.opening whole_below;
        ending = ending-below;
        stretch =
            either_below r x _ _ _ _ _ _ _ _ _ (ap (λ (v : Walk). v.stretch) g.walk) g.stretch refl k.stretch
            (λ z. subst (λ (y : ℕ). y + r * n.ending ≤ w.ending + d - x + x * n.ending) ending-is ending-below);
      }
    where
      more : (y : ℕ) {a : ℕ} → a ≡ y * s.periods → a + y ≡ y * n.periods
      more y e = rw g.periods (omega (arith, e))

-- ---- Ranges

pub range_none : PartsRange 0 no_parts
range_none = record { walks = range_started; all = omega arith; openings = omega arith; endings = omega arith; stretches = omega arith }

pub range_widened : {m n : ℕ} {s : Parts} → m ≤ n → PartsRange m s → PartsRange n s
range_widened h k =
    record {
      walks = range_more h k.walks;
      all = le_trans k.all h;
      openings = le_trans k.openings h;
      endings = le_trans k.endings h;
      stretches = le_trans k.stretches h;
    }

either_le : (b : Bool) (x y n m : ℕ) → m ≡ cond b x y → x ≤ n → y ≤ n → m ≤ n
either_le true x y n m e h k = omega (arith, e)
either_le false x y n m e h k = omega (arith, e)

range_grown : (r d : ℕ) {i : ℕ} {s n : Parts} → r ≤ rate_limit → d ≤ demand_limit → PartsRange i s → Grown r d s n
    → PartsRange (i + 1) n
range_grown r d {i} {s} {n} hr hd k g =
    let a : n.periods ≤ i + 1 = omega (arith, g.periods, k.all) in
    let e : n.ending ≤ i + 1 =
    either_le (eqb n.walk.ending 0) 0 (s.ending + 1) (i + 1) _ g.ending (omega arith) (omega (arith, k.endings)) in
    record {
      walks = subst (WalkRange (i + 1)) (sym g.walk) (range_pushed r d k.walks hr hd);
      all = a;
      openings =
          either_le (ltb s.walk.opening n.walk.opening) n.periods s.opening (i + 1) _ g.opening a (omega (arith, k.openings));
      endings = e;
      stretches =
          either_le (ltb s.walk.stretch n.walk.stretch) n.ending s.stretch (i + 1) _ g.stretch e (omega (arith, k.stretches));
    }

-- ---- A walk through a trace

pub at_none : (r : ℕ) (ds : List ℕ) → PartsAt r ds 0 no_parts
unfolding walk_of
at_none r ds = record { ranges = range_none; walked = refl; below = λ x. omega arith }

module _ (r : ℕ) (ds : List ℕ) (i : ℕ) (s : Parts) (k : PartsAt r ds i s) (l : i < length ds) where
  pub at_room : length ds ≤ trace_limit → PartsRange (trace_limit - 1) s
  at_room few = range_widened (omega arith) k.ranges

  pub at_next : r ≤ rate_limit → Demands ds → (n : Parts) → Grown r (get_or ds i 0) s n → PartsAt r ds (i + 1) n
  at_next hr h n g =
      record {
        ranges = range_grown r (get_or ds i 0) hr (h.each i) k.ranges g;
        walked = g.walk ∙ ap (λ (w : Walk). pushed r w (get_or ds i 0)) k.walked ∙ sym (walk_next r ds i l);
        below =
            λ x. subst (Below r n x) (sym (walk_next x ds i l)) (grown_below r x (get_or ds i 0) s n (walk_of x (take i ds)) g (k.below x));
      }

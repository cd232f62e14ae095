-- The need of periods against the needs of the bucket and of the walk. What must be held before a trace (`need_before`,
-- by which a bucket carries it) is never below the need of its first periods, however many, and it is that of some of
-- them. A walk's ending is the same for its last periods.
-- Assumes nothing.
use Prim.Native.Nat.{ℕ, zero, suc, ◌+◌, ◌-◌, ◌*◌, ◌≤◌, ◌<◌}
use native.Mathlib.Omega.{arith}
use Rattle.std.proofs.Common.{le_trans, sym, ap, ◌∙◌, inr, drop_of_length-le, drop-drop}
use Rattle.std.proofs.Math.Nat.{mul-suc, mul-zero}
use Rattle.std.specs.Prelude.{◌≡◌, Bool, true, false, ◌⊎◌, leb, ltb, length, take, drop}
use Rattle.std.proofs.Math.Path.{refl, subst}
use mathlib.Core.List.{List, [], ◌∷◌, ◌++◌, foldl}
use Rattle.std.proofs.Math.Logic.{inl, ⊎_elim}
use borrow.Author.Tests.{leb-true, leb-false, ltb-true, ltb-false, lt-ltb, le-ltb}
use Rattle.std.proofs.Math.Seq.{length-slice, slice, take-length}
use Rattle.terms.specs.Answer.{Answer, figures, refused}
use Rattle.terms.specs.Limits.{demand_limit}
use Rattle.terms.specs.Records.{total}
use Rattle.bucket.specs.Laws.{demands-tail}
use Rattle.bucket.specs.Trace.{Demands}
use Rattle.depth.specs.declared.walk.Walk.{Walk}
use Rattle.depth.specs.Need.{need_before}
use Rattle.depth.specs.SearchLaws.{IsFirstFrom, NoneFrom, from_is}
use Rattle.depth.specs.Walk.{pushed, started, walk_of}
use Rattle.causes.specs.Cause.{demand_of, from_to, is_found, need_of, short, stretch_start}

-- Periods whose need is at least n, and not by stopping at 0.
abbrev Needs : ℕ → ℕ → List ℕ → Type 0
Needs r n ds = n + r * length ds ≤ demand_of ds

needs_of : (r n : ℕ) (ds : List ℕ) → Needs r n ds → n ≤ need_of r ds
unfolding need_of
needs_of r n ds h = omega arith

none_need : (r : ℕ) → need_of r [] ≡ 0
unfolding need_of total
none_need r = omega arith

none_needed : (r : ℕ) → Needs r 0 []
unfolding total
none_needed r = omega (arith, mul-zero r)

-- ---- First periods

pub front_need : (r n : ℕ) (ds : List ℕ) → need_of r (take n ds) ≤ need_before r ds
unfolding need_of need_before total
front_need r zero ds = omega arith
front_need r (suc n) [] = omega arith
front_need r (suc n) (d ∷ ds) = omega (arith, front_need r n ds, mul-suc r (length (take n ds)))

pub all_needed : (r : ℕ) (ds : List ℕ) → need_of r ds ≤ need_before r ds
all_needed r ds =
    subst (λ (es : List ℕ). need_of r es ≤ need_before r ds) (take-length ds) (front_need r (length ds) ds)

-- Some of them, all within the trace.
record FrontNeeds (r : ℕ) (ds : List ℕ) (b : ℕ) : Type 0 where
  count : ℕ
  inside : count ≤ length ds
  enough : Needs r b (take count ds)

front_one : (r : ℕ) (ds : List ℕ) → FrontNeeds r ds (need_before r ds)
unfolding need_before total
front_one r [] = record { count = 0; inside = omega arith; enough = none_needed r }
front_one r (d ∷ ds) = go (front_one r ds) (leb (d + need_before r ds) r) refl
  where
    go : FrontNeeds r ds (need_before r ds) → (b : Bool) → leb (d + need_before r ds) r ≡ b
        → FrontNeeds r (d ∷ ds) (d + need_before r ds - r)
    go k true h = record { count = 0; inside = omega arith; enough = omega (arith, none_needed r, leb-true (d + need_before r ds) r h) }
    go k false h =
        record {
          count = suc k.count;
          inside = omega (arith, k.inside);
          enough = omega (arith, k.enough, mul-suc r (length (take k.count ds)), leb-false (d + need_before r ds) r h);
        }

-- So tokens that meet the need of every number of first periods meet what is needed before the trace.
pub fronts_met : (r y : ℕ) (ds : List ℕ) → ((n : ℕ) → 1 ≤ n → n ≤ length ds → need_of r (take n ds) ≤ y)
    → need_before r ds ≤ y
fronts_met r y ds met = go (front_one r ds).count (front_one r ds).inside (needs_of r _ _ (front_one r ds).enough)
  where
    go : (n : ℕ) → n ≤ length ds → need_before r ds ≤ need_of r (take n ds) → need_before r ds ≤ y
    go zero l h = omega (arith, h, none_need r)
    go (suc n) l h = le_trans h (met (suc n) (omega arith) l)

-- ---- Last periods, in a walk from w on

module _ (r : ℕ) where
  all_need : (w : Walk) (es : List ℕ) → w.ending + demand_of es - r * length es ≤ (foldl (pushed r) w es).ending
  unfolding total pushed
  all_need w [] = omega arith
  all_need w (d ∷ es) = omega (arith, all_need (pushed r w d) es, mul-suc r (length es))

  back_need : (w : Walk) (n : ℕ) (es : List ℕ) → need_of r (drop n es) ≤ (foldl (pushed r) w es).ending
  unfolding need_of total
  back_need w zero es = omega (arith, all_need w es)
  back_need w (suc n) [] = omega arith
  back_need w (suc n) (d ∷ es) = back_need (pushed r w d) n es

  -- All of them, together with what w ends with; or some of the last.
  record BackNeeds (es : List ℕ) (b : ℕ) : Type 0 where
    before : ℕ
    inside : before ≤ length es
    enough : Needs r b (drop before es)

  back_one : (w : Walk) (es : List ℕ) → let b =
      (foldl (pushed r) w es).ending in (b + r * length es ≤ w.ending + demand_of es) ⊎ BackNeeds es b
  unfolding total pushed
  back_one w [] = inl (omega (arith, mul-zero r))
  back_one w (d ∷ es) = go (back_one (pushed r w d) es) (leb r (w.ending + d)) refl
    where
      b : ℕ
      b = (foldl (pushed r) (pushed r w d) es).ending

      go : (b + r * length es ≤ w.ending + d - r + demand_of es) ⊎ BackNeeds es b → (t : Bool)
          → leb r (w.ending + d) ≡ t
          → (b + r * length (d ∷ es) ≤ w.ending + demand_of (d ∷ es)) ⊎ BackNeeds (d ∷ es) b
      go (inl h) true e = inl (omega (arith, mul-suc r (length es), leb-true r (w.ending + d) e))
      go (inl h) false e =
          inr (record { before = 1; inside = omega arith; enough = omega (arith, leb-false r (w.ending + d) e) })
      go (inr k) t e = inr (record { before = suc k.before; inside = omega (arith, k.inside); enough = k.enough })

  ending_one : (es : List ℕ) → BackNeeds es (walk_of r es).ending
  unfolding walk_of
  ending_one es =
      ⊎_elim (λ h. record { before = 0; inside = omega arith; enough = omega (arith, h) }) (λ k. k) (back_one started es)

-- So a stretch up to period v, from period 2 or later, is short exactly where the walk of those periods ends with more
-- than the depth.
module _ (r C : ℕ) (ds : List ℕ) (v : ℕ) (l : v ≤ length ds) where
  abbrev ending : ℕ
  ending = (walk_of r (slice 1 v ds)).ending

  later : (n u : ℕ) → u ≡ n + 2 → drop n (slice 1 v ds) ≡ from_to u v ds
  later n u e = let f : 1 + n ≡ u - 1 = omega arith in drop-drop n 1 (take v ds) ∙ ap (λ (m : ℕ). slice m v ds) f

  short-ends : (u : ℕ) → 2 ≤ u → short r C ds u v ≡ true → C < ending
  unfolding walk_of
  short-ends u h e =
      let k =
      subst (λ (es : List ℕ). need_of r es ≤ ending) (later (u - 2) u (omega arith)) (back_need r started (u - 2) (slice 1 v ds)) in
      omega (arith, k, ltb-true C (need_of r (from_to u v ds)) e)

  none_ends : NoneFrom (λ u. short r C ds u v) (v - 1) 2 → ending ≤ C
  none_ends none = let k = ending_one r (slice 1 v ds) in go k (ltb (k.before + 1) v) refl
    where
      go : (k : BackNeeds r (slice 1 v ds) ending) (b : Bool) → ltb (k.before + 1) v ≡ b → ending ≤ C
      go k true e =
          let u : ℕ = k.before + 2 in
          let h = ltb-true (k.before + 1) v e in
          let m = none u (omega arith) (omega (arith, h)) in
          omega (arith, needs_of r ending _ k.enough, ap (need_of r) (later k.before u refl), ltb-false C (need_of r (from_to u v ds)) m)
      go k false e =
          let h = ltb-false (k.before + 1) v e in
          let z : length (slice 1 v ds) ≤ k.before = omega (arith, h, length-slice 1 v ds l) in
          omega (arith, needs_of r ending _ k.enough, ap (need_of r) (drop_of_length-le (slice 1 v ds) z), none_need r)

  pub stretch-found : is_found (stretch_start r C ds v) ≡ ltb C ending
  stretch-found = go (stretch_start r C ds v) (from_is (λ u. short r C ds u v) (v - 1) 2)
    where
      go : (x : Answer ℕ) → IsFirstFrom (λ u. short r C ds u v) (v - 1) 2 x → is_found x ≡ ltb C ending
      go (figures u) k = sym (lt-ltb C _ (short-ends u k.from k.passes))
      go (refused n) k = sym (le-ltb C _ (none_ends k.1))

-- ---- Sums

pub demand_both : (ds es : List ℕ) → demand_of (ds ++ es) ≡ demand_of ds + demand_of es
unfolding total
demand_both [] es = omega arith
demand_both (d ∷ ds) es = omega (arith, demand_both ds es)

pub demand_more : (ds : List ℕ) (d : ℕ) → demand_of (ds ++ (d ∷ [])) ≡ demand_of ds + d
unfolding total
demand_more ds d = omega (arith, demand_both ds (d ∷ []))

pub demand_le : (ds : List ℕ) → Demands ds → demand_of ds ≤ demand_limit * length ds
unfolding total
demand_le [] h = omega arith
demand_le (d ∷ ds) h = omega (arith, h.each 0, demand_le ds (demands-tail h))

-- Demands and tokens summed apart tell whether y tokens fall short.
module _ (r y demands tokens : ℕ) (ds : List ℕ) (e : demands ≡ demand_of ds) (f : tokens ≡ y + r * length ds) where
  pub sums-short : tokens < demands → ltb y (need_of r ds) ≡ true
  unfolding need_of
  sums-short l = lt-ltb y _ (omega arith)

  pub sums-enough : demands ≤ tokens → ltb y (need_of r ds) ≡ false
  unfolding need_of
  sums-enough l = le-ltb y _ (omega arith)

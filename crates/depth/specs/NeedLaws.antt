-- What the tokens needed before a period mean: a bucket carries periods exactly when it holds the need before the first
-- of them and is as deep as the need before each later one, by induction over the bucket's steps. And a walk works them
-- out: the one before period 1 is its opening, or its ending where the list comes last period first; the greatest is
-- its stretch.
-- Assumes nothing.
use Rattle.std.specs.Prelude.{ℕ, zero, suc, ◌≤◌, max, ◌≡◌, Bool, true, false, eqb, leb, drop}
use native.Mathlib.Omega.{arith}
use Rattle.std.proofs.Common.{add_comm, le_trans, sym, ap, ◌∙◌}
use Rattle.std.proofs.Math.Nat.{le-max_left, le-max_right, max-eq_left, max-eq_right}
use Rattle.std.proofs.Math.Path.{refl}
use mathlib.Core.List.{List, [], ◌∷◌, reverse}
use borrow.Author.Tests.{eqb-true, eq-eqb, leb-true, leb-false}
use Rattle.terms.specs.declared.Tariff.{Tariff}
use Rattle.terms.specs.Answer.{figures}
use Rattle.terms.specs.Bools.{and_both, both_and}
use Rattle.bucket.specs.Step.{start_of, over, held}
use Rattle.bucket.specs.Trace.{carries, carries_from}
use Rattle.depth.specs.declared.walk.Walk.{Walk}
use Rattle.depth.specs.Depth.{depth_of}
use Rattle.depth.specs.DepthLaws.{depth-found}
use Rattle.depth.specs.Need.{need_before}
use Rattle.depth.specs.SearchLaws.{first_le}
use Rattle.depth.specs.Walk.{pushed, walk_of}
use Rattle.depth.specs.TurnLaws.{walk-preceded, walk-turned}

-- y tokens and depth B meet the needs: the one before period 1, and each later one.
pub record Meets (r B y : ℕ) (ds : List ℕ) : Type 0 where
  pub first : need_before r ds ≤ y
  pub later : (n : ℕ) → need_before r (drop (suc n) ds) ≤ B

-- Each need is the first or a later one.
each_need : (r B : ℕ) (ds : List ℕ) → Meets r B B ds → (n : ℕ) → need_before r (drop n ds) ≤ B
each_need r B ds k zero = k.first
each_need r B ds k (suc n) = k.later n

module _ (r B : ℕ) where
  pub carried_meets : (y : ℕ) (ds : List ℕ) → carries_from r B y ds ≡ true → Meets r B y ds
  unfolding carries_from need_before
  carried_meets y [] e = record { first = omega arith; later = λ n. omega arith }
  carried_meets y (d ∷ ds) e =
      let c = and_both (eqb (over r y d) 0) (carries_from r B (held r B y d) ds) e in
      let z : over r y d ≡ 0 = eqb-true _ _ c.0 in
      let k = carried_meets (held r B y d) ds c.1 in
      record {
        first = omega (arith, k.first, z);
        later = each_need r B ds (record { first = omega (arith, k.first); later = k.later });
      }

  pub meets_carried : (y : ℕ) (ds : List ℕ) → Meets r B y ds → carries_from r B y ds ≡ true
  unfolding carries_from need_before
  meets_carried y [] k = refl
  meets_carried y (d ∷ ds) k =
      let z : over r y d ≡ 0 = omega (arith, k.first) in
      let l : need_before r ds ≤ held r B y d = omega (arith, k.first, k.later 0) in
      both_and (eq-eqb _ _ z) (meets_carried (held r B y d) ds (record { first = l; later = λ n. k.later (suc n) }))

-- So the depth that is answered meets the needs, and no smaller one does.
module _ (t : Tariff) (r : ℕ) (ds : List ℕ) {B : ℕ} (e : depth_of t r ds ≡ figures B) where
  pub depth_meets : Meets r B (start_of t.factor.p t.factor.q B) ds
  depth_meets = carried_meets r B _ ds (depth-found t r ds e).passes

  pub depth_meets_least : (C : ℕ) → Meets r C (start_of t.factor.p t.factor.q C) ds → B ≤ C
  depth_meets_least C k =
      first_le (λ D. carries t.factor.p t.factor.q r D ds) _ B C (depth-found t r ds e) (meets_carried r C _ ds k)

-- ---- A walk works them out

-- The need before period 1 is the opening of the trace's walk.
pub opening_need : (r : ℕ) (ds : List ℕ) → (walk_of r ds).opening ≡ need_before r ds
unfolding need_before walk_of pushed
opening_need r [] = refl
opening_need r (d ∷ ds) = ap (λ (w : Walk). w.opening) (walk-preceded r d ds) ∙ omega (arith, opening_need r ds)

-- The walk's stretch is the greatest of the needs: none is above it, and one is equal to it.
stretch_next : (r d : ℕ) (ds : List ℕ)
    → (walk_of r (d ∷ ds)).stretch ≡ max (walk_of r ds).stretch (need_before r (d ∷ ds))
unfolding need_before pushed
stretch_next r d ds =
    ap (λ (w : Walk). w.stretch) (walk-preceded r d ds) ∙ rw (opening_need r ds, add_comm (need_before r ds) d)

pub stretch_need : (r : ℕ) (ds : List ℕ) (n : ℕ) → need_before r (drop n ds) ≤ (walk_of r ds).stretch
unfolding need_before
stretch_need r [] zero = omega arith
stretch_need r [] (suc n) = omega arith
stretch_need r (d ∷ ds) zero = rw (stretch_next r d ds) (le-max_right (walk_of r ds).stretch _)
stretch_need r (d ∷ ds) (suc n) =
    rw (stretch_next r d ds) (le_trans (stretch_need r ds n) (le-max_left (walk_of r ds).stretch _))

pub stretch_one : (r : ℕ) (ds : List ℕ) → (n : ℕ) × ((walk_of r ds).stretch ≡ need_before r (drop n ds))
unfolding need_before walk_of
stretch_one r [] = (0, refl)
stretch_one r (d ∷ ds) = go (stretch_one r ds) (leb (walk_of r ds).stretch (need_before r (d ∷ ds))) refl
  where
    go : (n : ℕ) × ((walk_of r ds).stretch ≡ need_before r (drop n ds)) → (b : Bool)
        → leb (walk_of r ds).stretch (need_before r (d ∷ ds)) ≡ b
        → (n : ℕ) × ((walk_of r (d ∷ ds)).stretch ≡ need_before r (drop n (d ∷ ds)))
    go k true h = (0, stretch_next r d ds ∙ max-eq_right (leb-true _ _ h))
    go k false h = (suc k.0, stretch_next r d ds ∙ max-eq_left (omega (arith, leb-false)) ∙ k.1)

-- In archive order it is the walk's ending: each push is one step of the recursion.
pub ending_need : (r : ℕ) (list : List ℕ) → (walk_of r list).ending ≡ need_before r (reverse list)
ending_need r list = sym (ap (λ (w : Walk). w.opening) (walk-turned r list)) ∙ opening_need r (reverse list)

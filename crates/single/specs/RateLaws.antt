-- Rates that need not be weighed: those above the greatest demand, since at that demand depth 0 carries and a larger
-- bucket is never preferred; and those that cost more even at depth 0 than a bucket that is found.
-- Assumes nothing.
use Rattle.std.specs.Prelude.{ℕ, zero, suc, ◌+◌, ◌-◌, ◌≤◌, ◌<◌, ◌≡◌, refl, Bool, true, false, List, [], ◌∷◌, leb, length}
use Rattle.std.proofs.Common.{arith, le_refl, le_trans, le_antisymm, lt_of_lt_of_le, add-zero, sym, ap, ◌∙◌, eq-eqb, leb-true, leb-false, ltb-true}
use Rattle.std.proofs.Math.Nat.{le-max_left, le-max_right, min-le_left}
use Rattle.std.proofs.lemmas.Bool.{false≢true}
use Rattle.terms.specs.declared.Tariff.{Tariff}
use Rattle.terms.specs.Answer.{Answer, figures, refused}
use Rattle.terms.specs.Bools.{both_and}
use Rattle.bucket.specs.Step.{over, held}
use Rattle.bucket.specs.Trace.{carries_from}
use Rattle.depth.specs.Depth.{tariff_depth}
use Rattle.single.specs.declared.costs.Priced.{Priced}
use Rattle.single.specs.Cost.{priced_at}
use Rattle.single.specs.CostLaws.{cost_mono}
use Rattle.single.specs.PreferenceLaws.{not_preferred-trans, dearer_not_preferred, larger_not_preferred}
use Rattle.single.specs.Rates.{candidates, greatest, weighed, dearer}
use Rattle.single.specs.Single.{bucket_of, at_depth, better, best_of, cheapest_of}
use Rattle.single.specs.BestLaws.{At, NoneBefore, IsBestOf, here, with_rate, none_before, found_at, best-is, best_next}

-- A rate of at least every demand carries with any depth and any tokens.
pub greatest-carries : (r B y : ℕ) (ds : List ℕ) → greatest ds ≤ r → carries_from r B y ds ≡ true
unfolding greatest carries_from
greatest-carries r B y [] h = refl
greatest-carries r B y (d ∷ ds) h =
    let l : d ≤ r = le_trans (le-max_left d (greatest ds)) h in
    both_and (eq-eqb (over r y d) 0 (omega arith)) (greatest-carries r B (held r B y d) ds (le_trans (le-max_right d (greatest ds)) h))

module _ (t : Tariff) (ds : List ℕ) where
  abbrev NoneFrom : Priced → ℕ → Type 0
  NoneFrom x k = (r : ℕ) → k ≤ r → NoneBefore t ds x r

  passed_by : (r : ℕ) (x : Priced) → NoneBefore t ds x r → (o : Answer ℕ) → tariff_depth t r ds ≡ o
      → better (figures x) (at_depth t (length ds) r o) ≡ figures x
  passed_by r x h (refused n) e = refl
  passed_by r x h (figures B) e = rw (h B (found_at t ds r B e))

  -- Where no rate from k on has a bucket that is preferred, weighing them changes nothing.
  weighed_on : (k : ℕ) (x : Priced) → figures x ≡ best_of t ds k → NoneFrom x k → (m : ℕ)
      → figures x ≡ best_of t ds (k + m)
  weighed_on k x e h zero = e ∙ ap (best_of t ds) (sym (add-zero k))
  weighed_on k x e h (suc m) =
      sym (passed_by (k + m) x (h (k + m) (omega arith)) (tariff_depth t (k + m) ds) refl)
      ∙ best_next t ds (k + m) (tariff_depth t (k + m) ds) (figures x) refl (weighed_on k x e h m)
      ∙ ap (best_of t ds) (omega arith)

  weighed_all : (k : ℕ) (x : Priced) → figures x ≡ best_of t ds k → NoneFrom x k → k ≤ candidates t
      → figures x ≡ cheapest_of t ds
  weighed_all k x e h l =
      let m : k + (candidates t - k) ≡ candidates t = omega arith in
      weighed_on k x e h (candidates t - k) ∙ ap (best_of t ds) m

  -- Once the rates left cost more than what is found, even at depth 0.
  pub dearer-enough : (k : ℕ) (a : Answer Priced) → a ≡ best_of t ds (k + 1)
      → dearer (priced_at t (length ds) (bucket_of k 0)) a ≡ true → k + 1 ≤ candidates t → a ≡ cheapest_of t ds
  dearer-enough k (refused n) e h l = absurd (false≢true h)
  dearer-enough k (figures x) e h l =
      weighed_all (k + 1) x e
      (λ r m B s. dearer_not_preferred x _ (lt_of_lt_of_le (ltb-true _ _ h) (cost_mono t (length ds) (bucket_of k 0) (bucket_of r B) (omega arith) (omega arith))))
      l

  -- At the greatest demand depth 0 carries.
  zero-depth : At t ds (greatest ds) 0
  zero-depth = record { inside = omega arith; carried = greatest-carries (greatest ds) 0 _ ds (omega arith) }

  above_none : (a : Answer Priced) → a ≡ best_of t ds (greatest ds + 1) → IsBestOf t ds (greatest ds + 1) a → (m : ℕ)
      → best_of t ds (greatest ds + 1 + m) ≡ a
  above_none (refused n) e k m =
      absurd (k.1 (here t ds (greatest ds) 0) (with_rate t ds (λ r. r < greatest ds + 1) (greatest ds) 0 (omega arith) zero-depth))
  above_none (figures x) e k m =
      sym (weighed_on (greatest ds + 1) x e
      (λ r m B s.
      not_preferred-trans x _ _ (none_before t ds (greatest ds + 1) x k (greatest ds) (omega arith) 0 zero-depth)
      (larger_not_preferred t (length ds) (bucket_of (greatest ds) 0) (bucket_of r B) (omega arith) (omega arith)))
      m)

  -- No rate above the greatest demand need be weighed, and to weigh some of them does no harm.
  pub weighed-more : (k : ℕ) → weighed t ds ≤ k → k ≤ candidates t → best_of t ds k ≡ cheapest_of t ds
  weighed-more k l m = go (leb t.rate_cap.0 (greatest ds)) refl
    where
      go : (b : Bool) → leb t.rate_cap.0 (greatest ds) ≡ b → best_of t ds k ≡ cheapest_of t ds
      go true h =
          let c : t.rate_cap.0 ≤ greatest ds = leb-true _ _ h in
          ap (best_of t ds) (le_antisymm m (omega arith))
      go false h =
          let c : greatest ds < t.rate_cap.0 = leb-false _ _ h in
          let from : (j : ℕ) → greatest ds + 1 ≤ j → best_of t ds j ≡ best_of t ds (greatest ds + 1) = λ j i.
          ap (best_of t ds) (omega arith) ∙ above_none (best_of t ds (greatest ds + 1)) refl (best-is t ds (greatest ds + 1)) (j - (greatest ds + 1)) in
          from k (omega arith) ∙ sym (from (candidates t) (omega arith))

  pub weighed-enough : best_of t ds (weighed t ds) ≡ cheapest_of t ds
  weighed-enough = weighed-more (weighed t ds) (le_refl _) (omega arith)

-- Only rates up to the cap are weighed.
pub inside_cap : (t : Tariff) (ds : List ℕ) (end k : ℕ) → end ≡ weighed t ds → k < end → k ≤ t.rate_cap.0
inside_cap t ds end k e l = omega (arith, min-le_left t.rate_cap.0 (greatest ds))

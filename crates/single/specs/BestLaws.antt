-- What is found among the first k candidate rates is the best of all pairs with those rates.
-- By induction over the rates: at one rate the smallest depth is the cheapest, since cost never falls with depth.
-- Assumes nothing.
use Prim.Native.Nat.{ℕ, zero, suc, ◌+◌, ◌≤◌, ◌<◌}
use Rattle.std.proofs.Common.{arith, le_antisymm, le_of_suc-le-suc, add-one, sym, subst, ◌∙◌, inl, inr, ltb-true, ltb-false}
use Rattle.std.specs.Prelude.{◌≡◌, Bool, true, false, List, ◌⊎◌, ltb, length}
use Rattle.std.proofs.Math.Path.{refl, ap}
use Rattle.terms.specs.declared.Tariff.{Tariff}
use Rattle.terms.specs.Answer.{Answer, figures, refused}
use Rattle.terms.specs.Bools.{true-false}
use Rattle.terms.specs.ChooseLaws.{IsBest, best-choose}
use Rattle.bucket.specs.Trace.{carries}
use Rattle.depth.specs.Depth.{tariff_depth}
use Rattle.depth.specs.DepthLaws.{depth-within, depth-carries, depth-least, depth_none}
use Rattle.single.specs.declared.costs.Priced.{Priced}
use Rattle.single.specs.Cost.{cost_of, priced_at}
use Rattle.single.specs.CostLaws.{priced_is}
use Rattle.single.specs.Preference.{preferred}
use Rattle.single.specs.PreferenceLaws.{preferred-order, larger_not_preferred}
use Rattle.single.specs.Single.{bucket_of, at_depth, better, best_of}

module _ (t : Tariff) (ds : List ℕ) where
  -- (r, B) carries the trace, B being inside the cap.
  pub record At (r B : ℕ) : Type 0 where
    pub inside : B ≤ t.depth_cap.0
    pub carried : carries t.factor.p t.factor.q r B ds ≡ true

  -- The bucket (r, B) with its cost over the trace.
  abbrev pub here : ℕ → ℕ → Priced
  here r B = priced_at t (length ds) (bucket_of r B)

  -- x is a bucket with its cost that carries the trace, at a rate with some property.
  pub record WithRate (Rates : ℕ → Type 0) (x : Priced) : Type 0 where
    pub rates : Rates x.bucket.rate.0
    pub serves : At x.bucket.rate.0 x.bucket.depth.0
    pub paid : x.cost ≡ cost_of t (length ds) x.bucket

  pub with_rate : (Rates : ℕ → Type 0) (r B : ℕ) → Rates r → At r B → WithRate Rates (here r B)
  with_rate Rates r B l s = record { rates = l; serves = s; paid = refl }

  -- The answer is the best of the first k candidate rates.
  abbrev pub IsBestOf : ℕ → Answer Priced → Type 0
  IsBestOf k = IsBest preferred (WithRate (λ r. r < k))

  -- No pair with rate r is preferred to x.
  abbrev pub NoneBefore : Priced → ℕ → Type 0
  NoneBefore x r = (B : ℕ) → At r B → preferred (here r B) x ≡ false

  pub none_before : (k : ℕ) (x : Priced) → IsBestOf k (figures x) → (r : ℕ) → r < k → NoneBefore x r
  none_before k x b r l B s = b.none_preferred (here r B) (with_rate (λ r. r < k) r B l s)

  module _ (k : ℕ) where
    pub found_at : (B : ℕ) → tariff_depth t k ds ≡ figures B → At k B
    found_at B e = record { inside = depth-within _ _ _ _ _ e; carried = depth-carries _ _ _ _ _ e }

    at_k : (x : Priced) → WithRate (λ r. r ≡ k) x → At k x.bucket.depth.0
    at_k x w = subst (λ (r : ℕ). At r x.bucket.depth.0) w.rates w.serves

    -- At rate k the smallest depth is the one to weigh.
    best-at : (o : Answer ℕ) → tariff_depth t k ds ≡ o
        → IsBest preferred (WithRate (λ r. r ≡ k)) (at_depth t (length ds) k o)
    best-at (figures B) e =
        record {
          kind = with_rate (λ r. r ≡ k) k B refl (found_at B e);
          none_preferred = λ x w.
              ap (λ (y : Priced). preferred y (here k B)) (priced_is t (length ds) x w.paid)
              ∙ larger_not_preferred t (length ds) (bucket_of k B) x.bucket (omega (arith, w.rates)) (depth-least _ _ _ _ _ e x.bucket.depth.0 (at_k x w).carried);
        }
    best-at (refused n) e =
        let none = depth_none _ _ _ _ _ e in
        (none.0, λ x w. true-false (at_k x w).carried (none.1 x.bucket.depth.0 w.serves.inside))

    -- A rate below k + 1 is below k or k.
    either : (x : Priced) → WithRate (λ r. r < suc k) x → WithRate (λ r. r < k) x ⊎ WithRate (λ r. r ≡ k) x
    either x w = go (ltb x.bucket.rate.0 k) refl
      where
        go : (b : Bool) → ltb x.bucket.rate.0 k ≡ b → WithRate (λ r. r < k) x ⊎ WithRate (λ r. r ≡ k) x
        go true e = inl (record { rates = ltb-true _ _ e; serves = w.serves; paid = w.paid })
        go false e =
            inr (record { rates = le_antisymm (le_of_suc-le-suc w.rates) (ltb-false _ _ e); serves = w.serves; paid = w.paid })

    one_more : (a : Answer Priced) → IsBestOf k a → (o : Answer ℕ) → tariff_depth t k ds ≡ o
        → IsBestOf (suc k) (better a (at_depth t (length ds) k o))
    one_more a b o e =
        best-choose preferred preferred-order (WithRate (λ r. r < k)) (WithRate (λ r. r ≡ k)) (WithRate (λ r. r < suc k))
        (λ x w. record { rates = omega (arith, w.rates); serves = w.serves; paid = w.paid })
        (λ x w. record { rates = omega (arith, w.rates); serves = w.serves; paid = w.paid })
        either a (at_depth t (length ds) k o) b (best-at o e)

  pub best-is : (k : ℕ) → IsBestOf k (best_of t ds k)
  unfolding best_of
  best-is zero = (refl, λ x w. omega (arith, w.rates))
  best-is (suc k) = one_more k (best_of t ds k) (best-is k) (tariff_depth t k ds) refl

  -- One more rate, from what the depth at it is and what was found before it.
  pub best_next : (k : ℕ) (o : Answer ℕ) (a : Answer Priced) → o ≡ tariff_depth t k ds → a ≡ best_of t ds k
      → better a (at_depth t (length ds) k o) ≡ best_of t ds (k + 1)
  unfolding best_of
  best_next k o a e f =
      ap (λ (x : Answer Priced). better x (at_depth t (length ds) k o)) f
      ∙ ap (λ (y : Answer ℕ). better (best_of t ds k) (at_depth t (length ds) k y)) e
      ∙ ap (best_of t ds) (sym (add-one k))

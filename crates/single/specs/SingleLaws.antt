-- The single answer is the least over all pairs: no bucket inside the caps that carries the trace is preferred to it,
-- so none costs less; and refusal 7 is given exactly when no bucket inside the caps carries the trace.
-- Assumes nothing.
use Rattle.std.specs.Prelude.{ℕ, ◌≤◌, ◌<◌, ◌≡◌, true, false, List, length}
use Rattle.std.proofs.Common.{arith, sym, ◌∙◌}
use Rattle.std.proofs.Math.Path.{refl, ap, subst}
use Rattle.terms.specs.declared.Bucket.{Bucket}
use Rattle.terms.specs.declared.Tariff.{Tariff}
use Rattle.terms.specs.Answer.{Answer, figures, refused, weigh}
use Rattle.terms.specs.Ranges.{periods_ok, tariff_ok}
use Rattle.terms.specs.AnswerLaws.{weigh-figures, weigh-refused}
use Rattle.single.specs.declared.costs.Priced.{Priced}
use Rattle.single.specs.Cost.{cost_of, priced_at}
use Rattle.single.specs.Preference.{preferred}
use Rattle.single.specs.Rates.{candidates}
use Rattle.single.specs.CostLaws.{priced_is}
use Rattle.single.specs.PreferenceLaws.{not_preferred-cost, preferred-total}
use Rattle.single.specs.BestLaws.{At, IsBestOf, here, with_rate, none_before, best-is}
use Rattle.single.specs.Single.{Serves, cheapest_of, single_of}

-- x is the single bucket of the trace: it is inside the caps and carries the trace, its cost is its own, and no bucket
-- inside the caps that carries the trace is preferred to it.
pub record CheapestBucket (t : Tariff) (ds : List ℕ) (x : Priced) : Type 0 where
  pub serves : Serves t ds x.bucket
  pub paid : x.cost ≡ cost_of t (length ds) x.bucket
  pub none_preferred : (b : Bucket) → Serves t ds b → preferred (priced_at t (length ds) b) x ≡ false

abbrev pub NoBucket : Tariff → List ℕ → Type 0
NoBucket t ds = (b : Bucket) → Serves t ds b → ⊥

abbrev pub IsSingle : Tariff → List ℕ → Answer Priced → Type 0
IsSingle t ds (figures x) = CheapestBucket t ds x
IsSingle t ds (refused n) = (n ≡ 7) × NoBucket t ds

module _ (t : Tariff) (ds : List ℕ) where
  serves-at : {b : Bucket} → Serves t ds b → At t ds b.rate.0 b.depth.0
  serves-at s = record { inside = s.depths; carried = s.carried }

  single_best : (a : Answer Priced) → IsBestOf t ds (candidates t) a → IsSingle t ds a
  single_best (figures x) k =
      record {
        serves = record { rates = omega (arith, k.kind.rates); depths = k.kind.serves.inside; carried = k.kind.serves.carried };
        paid = k.kind.paid;
        none_preferred =
            λ b s. none_before t ds (candidates t) x k b.rate.0 (omega (arith, s.rates)) b.depth.0 (serves-at s);
      }
  single_best (refused n) k =
      (k.0, λ b s. k.1 (here t ds b.rate.0 b.depth.0) (with_rate t ds (λ r. r < candidates t) b.rate.0 b.depth.0 (omega (arith, s.rates)) (serves-at s)))

  pub cheapest-is : IsSingle t ds (cheapest_of t ds)
  cheapest-is = single_best (cheapest_of t ds) (best-is t ds (candidates t))

  -- No other bucket that carries the trace costs less.
  pub cheapest-least : {x : Priced} → CheapestBucket t ds x → (b : Bucket) → Serves t ds b
      → x.cost ≤ cost_of t (length ds) b
  cheapest-least k b s = not_preferred-cost _ _ (k.none_preferred b s)

  -- There is one answer of that kind only.
  pub single_only : (a c : Answer Priced) → IsSingle t ds a → IsSingle t ds c → a ≡ c
  single_only (figures x) (figures y) k l = ap figures (preferred-total x y (not_before x y k l) (not_before y x l k))
    where
      not_before : (x y : Priced) → CheapestBucket t ds x → CheapestBucket t ds y → preferred x y ≡ false
      not_before x y k l =
          ap (λ (z : Priced). preferred z y) (priced_is t (length ds) x k.paid) ∙ l.none_preferred x.bucket k.serves
  single_only (figures x) (refused n) k l = absurd (l.1 x.bucket k.serves)
  single_only (refused m) (figures y) k l = absurd (k.1 y.bucket l.serves)
  single_only (refused m) (refused n) k l = ap refused (k.0 ∙ sym l.0)

  -- ---- The call

  -- Figures are the single bucket.
  pub single_cheapest : {x : Priced} → single_of t ds ≡ figures x → CheapestBucket t ds x
  unfolding single_of
  single_cheapest e =
      let h = (weigh-figures (periods_ok (length ds)) 3 (weigh (tariff_ok t) 5 (cheapest_of t ds)) e).1 in
      subst (IsSingle t ds) (weigh-figures (tariff_ok t) 5 (cheapest_of t ds) h).1 cheapest-is

  -- Refusal 7 is given exactly when no bucket inside the caps carries a trace in range.
  pub single_none : single_of t ds ≡ refused 7 → NoBucket t ds
  unfolding single_of
  single_none e =
      let h = (weigh-refused (periods_ok (length ds)) 3 7 (weigh (tariff_ok t) 5 (cheapest_of t ds)) refl e).1 in
      (subst (IsSingle t ds) (weigh-refused (tariff_ok t) 5 7 (cheapest_of t ds) refl h).1 cheapest-is).1

  pub none_single : periods_ok (length ds) ≡ true → tariff_ok t ≡ true → NoBucket t ds → single_of t ds ≡ refused 7
  unfolding single_of
  none_single h k none = rw (h, k) (go (cheapest_of t ds) cheapest-is)
    where
      go : (a : Answer Priced) → IsSingle t ds a → a ≡ refused 7
      go (figures x) i = absurd (none x.bucket i.serves)
      go (refused n) i = ap refused i.0

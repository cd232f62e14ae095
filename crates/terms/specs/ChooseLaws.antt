-- What `choose` keeps is the best: of two kinds of things, the better of the best of each is the best of both.
-- Assumes nothing.
use Rattle.std.specs.Prelude.{◌≡◌, refl, Bool, true, false, cond, ◌⊎◌}
use Rattle.std.proofs.Common.{⊎_elim}
use Rattle.terms.specs.Answer.{Answer, figures, refused, choose}

module _ {A : Type 0} (preferred : A → A → Bool) where
  -- x is of the kind, and none of the kind is preferred to it.
  pub record BestOf (Kind : A → Type 0) (x : A) : Type 0 where
    pub kind : Kind x
    pub none_preferred : (y : A) → Kind y → preferred y x ≡ false

  -- The answer is the best of the kind, or refusal 7 where there is none.
  abbrev pub IsBest : (A → Type 0) → Answer A → Type 0
  IsBest Kind (figures x) = BestOf Kind x
  IsBest Kind (refused n) = (n ≡ 7) × ((x : A) → Kind x → ⊥)

  pub best-same : (P R : A → Type 0) → ((x : A) → P x → R x) → ((x : A) → R x → P x) → (a : Answer A) → IsBest P a → IsBest R a
  best-same P R to from (figures x) b = record { kind = to x b.kind; none_preferred = λ y k. b.none_preferred y (from y k) }
  best-same P R to from (refused n) b = (b.0, λ x k. b.1 x (from x k))

  -- What is asked of the preference.
  pub record Order : Type 0 where
    pub trans : (x y z : A) → preferred y x ≡ false → preferred z y ≡ false → preferred z x ≡ false
    pub asym : (x y : A) → preferred x y ≡ true → preferred y x ≡ false

  module _ (order : Order) (P Q R : A → Type 0) (left : (x : A) → P x → R x) (right : (x : A) → Q x → R x) (either : (x : A) → R x → P x ⊎ Q x) where
    pub best-choose : (a b : Answer A) → IsBest P a → IsBest Q b → IsBest R (choose preferred a b)
    best-choose (refused m) (refused n) h k = (h.0, λ x r. ⊎_elim (λ p. h.1 x p) (λ q. k.1 x q) (either x r))
    best-choose (figures x) (refused n) h k =
        record { kind = left x h.kind; none_preferred = λ y r. ⊎_elim (λ p. h.none_preferred y p) (λ q. absurd (k.1 y q)) (either y r) }
    best-choose (refused m) (figures y) h k =
        record { kind = right y k.kind; none_preferred = λ z r. ⊎_elim (λ p. absurd (h.1 z p)) (λ q. k.none_preferred z q) (either z r) }
    best-choose (figures x) (figures y) h k = go (preferred y x) refl
      where
        go : (b : Bool) → preferred y x ≡ b → IsBest R (cond b (figures y) (figures x))
        go true e =
            record {
              kind = right y k.kind;
              none_preferred = λ z r. ⊎_elim (λ p. order.trans y x z (order.asym y x e) (h.none_preferred z p)) (λ q. k.none_preferred z q) (either z r);
            }
        go false e =
            record {
              kind = left x h.kind;
              none_preferred = λ z r. ⊎_elim (λ p. h.none_preferred z p) (λ q. order.trans x y z e (k.none_preferred z q)) (either z r);
            }

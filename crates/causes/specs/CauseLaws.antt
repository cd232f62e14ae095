-- What a cause says is true of the trace; nothing is said exactly at depth 0.
-- Assumes nothing.
use Rattle.std.specs.Prelude.{ℕ, ◌-◌, ◌≤◌, ◌≡◌, refl, Bool, true, false, List, eqb}
use Rattle.std.proofs.Common.{arith, sym, subst, eqb-true, eq-eqb}
use Rattle.std.proofs.Math.Nat.{div-le_of_le-mul}
use Rattle.std.proofs.lemmas.Bool.{eqb-false}
use Rattle.terms.specs.declared.Tariff.{Tariff}
use Rattle.terms.specs.Answer.{figures}
use Rattle.bucket.specs.Step.{start_of}
use Rattle.depth.specs.Depth.{depth_of}
use Rattle.depth.specs.Need.{need_before}
use Rattle.depth.specs.NeedLaws.{depth_meets}
use Rattle.causes.specs.Cause.{SetBy, nothing, opening, stretch, start_at, cause_of}
use Rattle.causes.specs.FoundLaws.{OpeningShort, StretchShort, Found, opens, stretches, found, cause-opens, cause-stretches, opening-is, stretch-is}
use Rattle.causes.specs.PeriodNeedLaws.{front_need}

-- What a cause says of a depth B.
abbrev pub IsCause : Tariff → ℕ → List ℕ → ℕ → SetBy → Type 0
IsCause t r ds B nothing = B ≡ 0
IsCause t r ds B (opening v) = OpeningShort r (start_at t (B - 1)) ds v
IsCause t r ds B (stretch u v) = StretchShort r (start_at t (B - 1)) (B - 1) ds u v

-- Nothing is said at depth 0.
pub nothing-at_0 : (t : Tariff) (r : ℕ) (ds : List ℕ) (B : ℕ) → B ≡ 0 → cause_of t r ds B ≡ nothing
unfolding cause_of
nothing-at_0 t r ds B e = rw (eq-eqb B 0 e)

start_empty : (q B : ℕ) → start_of 0 q B ≤ 0
unfolding start_of
start_empty q B = div-le_of_le-mul q (omega arith)

module _ (t : Tariff) (r : ℕ) (ds : List ℕ) {B : ℕ} (e : depth_of t r ds ≡ figures B) where
  abbrev cause : SetBy
  cause = cause_of t r ds B

  -- What the cause says is true of the trace.
  pub cause-true : IsCause t r ds B cause
  cause-true = go (eqb B 0) refl
    where
      above : (h : 1 ≤ B) → Found t r ds (B - 1) → IsCause t r ds B cause
      above h (opens v o) = subst (IsCause t r ds B) (sym (cause-opens t r ds e h v o)) (opening-is t r ds e h v o)
      above h (stretches u v n o f g) =
          subst (IsCause t r ds B) (sym (cause-stretches t r ds e h u v n o f g)) (stretch-is t r ds e h u v n o f g)

      go : (b : Bool) → eqb B 0 ≡ b → IsCause t r ds B cause
      go true z = subst (IsCause t r ds B) (sym (nothing-at_0 t r ds B (eqb-true B 0 z))) (eqb-true B 0 z)
      go false z = let h : 1 ≤ B = omega (arith, eqb-false B 0 z) in above h (found t r ds e h)

  -- Nothing is said at depth 0 only: for a depth above 0 a cause is always found.
  pub cause-found : cause ≡ nothing → B ≡ 0
  cause-found h = subst (IsCause t r ds B) h cause-true

  -- Of buckets that start empty no opening is named: the depth that is answered meets the need of every opening.
  pub empty_not_opening : t.factor.p ≡ 0 → (v : ℕ) → cause ≡ opening v → ⊥
  empty_not_opening z v h =
      let k : OpeningShort r (start_at t (B - 1)) ds v = subst (IsCause t r ds B) h cause-true in
      let n : need_before r ds ≤ start_of 0 t.factor.q B =
      subst (λ (p : ℕ). need_before r ds ≤ start_of p t.factor.q B) z (depth_meets t r ds e).first in
      omega (arith, k.short_of, front_need r v ds, n, start_empty t.factor.q B)

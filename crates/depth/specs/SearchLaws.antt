-- A search gives the first of its numbers that passes the test, or refusal 7 where none does. From 0 to a cap nothing
-- else is that.
-- Assumes nothing.
use Prim.Native.Nat.{ℕ, zero, suc, ◌+◌, ◌≤◌, ◌<◌}
use Rattle.std.proofs.Common.{arith, le_antisymm, lt_of_not-le, sym, ap, ◌∙◌, eqb-true}
use Rattle.std.proofs.Math.Numerals.{add-one}
use Rattle.std.specs.Prelude.{◌≡◌, Bool, true, false, cond, eqb}
use Rattle.std.proofs.Math.Path.{refl}
use Rattle.std.proofs.lemmas.Bool.{eqb-false}
use Rattle.terms.specs.Answer.{Answer, figures, refused}
use Rattle.terms.specs.Bools.{true-false}
use Rattle.depth.specs.Depth.{first_from}

-- b is the first number that passes, and at most the cap.
pub record First (test : ℕ → Bool) (cap b : ℕ) : Type 0 where
  pub within : b ≤ cap
  pub passes : test b ≡ true
  pub smaller : (c : ℕ) → c < b → test c ≡ false

abbrev pub NonePasses : (ℕ → Bool) → ℕ → Type 0
NonePasses test cap = (c : ℕ) → c ≤ cap → test c ≡ false

abbrev pub IsFirst : (ℕ → Bool) → ℕ → Answer ℕ → Type 0
IsFirst test cap (figures b) = First test cap b
IsFirst test cap (refused n) = (n ≡ 7) × NonePasses test cap

-- x is the first of the n numbers b, b + 1, .. that passes.
pub record FirstFrom (test : ℕ → Bool) (n b x : ℕ) : Type 0 where
  pub from : b ≤ x
  pub within : x < n + b
  pub passes : test x ≡ true
  pub smaller : (c : ℕ) → b ≤ c → c < x → test c ≡ false

abbrev pub NoneFrom : (ℕ → Bool) → ℕ → ℕ → Type 0
NoneFrom test n b = (c : ℕ) → b ≤ c → c < n + b → test c ≡ false

abbrev pub IsFirstFrom : (ℕ → Bool) → ℕ → ℕ → Answer ℕ → Type 0
IsFirstFrom test n b (figures x) = FirstFrom test n b x
IsFirstFrom test n b (refused m) = (m ≡ 7) × NoneFrom test n b

-- What fails at b and from b + 1 up to an end fails from b up to it.
fails_from : (test : ℕ → Bool) (b end : ℕ) → test b ≡ false → ((c : ℕ) → suc b ≤ c → c < end → test c ≡ false)
    → (c : ℕ) → b ≤ c → c < end → test c ≡ false
fails_from test b end h rest c l m = go (eqb c b) refl
  where
    go : (t : Bool) → eqb c b ≡ t → test c ≡ false
    go true e = ap test (eqb-true c b e) ∙ h
    go false e = rest c (omega (arith, eqb-false c b e)) m

pub from_is : (test : ℕ → Bool) (n b : ℕ) → IsFirstFrom test n b (first_from test n b)
unfolding first_from
from_is test zero b = (refl, λ c l m. absurd (omega arith))
from_is test (suc n) b = go (test b) refl (first_from test n (suc b)) (from_is test n (suc b))
  where
    go : (t : Bool) → test b ≡ t → (x : Answer ℕ) → IsFirstFrom test n (suc b) x
        → IsFirstFrom test (suc n) b (cond t (figures b) x)
    go true h x k = record { from = omega arith; within = omega arith; passes = h; smaller = λ c l m. absurd (omega arith) }
    go false h (figures x) k =
        record { from = omega (arith, k.from); within = omega (arith, k.within); passes = k.passes; smaller = fails_from test b x h k.smaller }
    go false h (refused m) k = (k.0, fails_from test b (suc n + b) h (λ c l m. k.1 c l (omega arith)))

-- A search ends with a number that passes and goes on after one that does not.
module _ (test : ℕ → Bool) (b : ℕ) where
  pub from_none : (n : ℕ) → n ≤ 0 → first_from test n b ≡ refused 7
  unfolding first_from
  from_none zero l = refl
  from_none (suc n) l = absurd (omega arith)

  pub from-passed : (n : ℕ) → 1 ≤ n → test b ≡ true → first_from test n b ≡ figures b
  unfolding first_from
  from-passed zero l h = absurd (omega arith)
  from-passed (suc n) l h = rw h

  pub from_failed : (n m : ℕ) → n ≡ suc m → test b ≡ false → first_from test n b ≡ first_from test m (b + 1)
  unfolding first_from
  from_failed n m e h = rw (e, h, add-one b)

module _ (test : ℕ → Bool) (cap : ℕ) where
  pub first_is : IsFirst test cap (first_from test (suc cap) 0)
  first_is = go (first_from test (suc cap) 0) (from_is test (suc cap) 0)
    where
      go : (x : Answer ℕ) → IsFirstFrom test (suc cap) 0 x → IsFirst test cap x
      go (figures b) k = record { within = omega (arith, k.within); passes = k.passes; smaller = λ c l. k.smaller c (omega arith) l }
      go (refused n) k = (k.0, λ c l. k.1 c (omega arith) (omega arith))

  -- No number that passes is below the first.
  pub first_le : (b c : ℕ) → First test cap b → test c ≡ true → b ≤ c
  first_le b c k h = let l : b < suc c = lt_of_not-le (λ m. true-false h (k.smaller c m)) in omega arith

  pub first_some : (c : ℕ) → c ≤ cap → test c ≡ true → (b : ℕ) × (first_from test (suc cap) 0 ≡ figures b)
  first_some c l h = go (first_from test (suc cap) 0) refl first_is
    where
      go : (x : Answer ℕ) → first_from test (suc cap) 0 ≡ x → IsFirst test cap x
          → (b : ℕ) × (first_from test (suc cap) 0 ≡ figures b)
      go (figures b) e k = (b, e)
      go (refused n) e k = absurd (true-false h (k.1 c l))

  pub first_only : (x y : Answer ℕ) → IsFirst test cap x → IsFirst test cap y → x ≡ y
  first_only (figures b) (figures c) k l = ap figures (le_antisymm (first_le b c k l.passes) (first_le c b l k.passes))
  first_only (figures b) (refused n) k l = absurd (true-false k.passes (l.1 b k.within))
  first_only (refused m) (figures c) k l = absurd (true-false l.passes (k.1 c l.within))
  first_only (refused m) (refused n) k l = ap refused (k.0 ∙ sym l.0)

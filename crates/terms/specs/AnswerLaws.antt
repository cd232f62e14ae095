-- An answer is figures or a refusal and never both, and it determines which; what a further call makes of it.
-- Assumes nothing.
use Rattle.std.specs.Prelude.{ℕ, ◌≡◌, refl, Bool, true, false, eqb}
use Rattle.std.proofs.Common.{arith, sym, ap}
use Rattle.std.proofs.lemmas.Bool.{eqb-false}
use Rattle.terms.specs.Answer.{Answer, figures, refused, weigh, on_figures, and_then}

pub figures-refused : {A : Type 0} {x : A} {n : ℕ} → figures x ≡ refused n → ⊥
figures-refused e = let z : ◌≡◌ {A = ℕ} 0 1 = cc in omega arith

pub same-figures : {A : Type 0} {x y : A} → figures x ≡ figures y → x ≡ y
same-figures e = cc

pub same_refusal : {A : Type 0} {m n : ℕ} → ◌≡◌ {A = Answer A} (refused m) (refused n) → m ≡ n
same_refusal e = cc

-- Figures mean that the rule weighed is kept; another refusal than its own means so too.
pub weigh-figures : {A : Type 0} (ok : Bool) (n : ℕ) (rest : Answer A) {x : A} → weigh ok n rest ≡ figures x → (ok ≡ true) × (rest ≡ figures x)
weigh-figures true n rest e = (refl, e)
weigh-figures false n rest e = absurd (figures-refused (sym e))

pub weigh-refused : {A : Type 0} (ok : Bool) (n m : ℕ) (rest : Answer A) → eqb n m ≡ false → weigh ok n rest ≡ refused m → (ok ≡ true) × (rest ≡ refused m)
weigh-refused true n m rest h e = (refl, e)
weigh-refused false n m rest h e = absurd (eqb-false n m h (same_refusal e))

-- Other figures worked out from those of an answer mean that it has figures; a refusal is its own.
pub on_figures_lem : {A B : Type 0} (f : A → B) (a : Answer A) {y : B} → on_figures f a ≡ figures y → (x : A) × (a ≡ figures x) × (f x ≡ y)
on_figures_lem f (figures x) e = (x, refl, same-figures e)
on_figures_lem f (refused n) e = absurd (figures-refused (sym e))

pub on_refused : {A B : Type 0} (f : A → B) (a : Answer A) {n : ℕ} → on_figures f a ≡ refused n → a ≡ refused n
on_refused f (figures x) e = absurd (figures-refused e)
on_refused f (refused m) e = ap refused (same_refusal e)

-- A further call is made with figures and only with them; what it gives is the answer, and so is a refusal before it.
module _ {A B : Type 0} (a : Answer A) (next : A → Answer B) where
  pub then_figures : {x : A} → a ≡ figures x → next x ≡ and_then a next
  then_figures e = sym (ap (λ (b : Answer A). and_then b next) e)

  pub then_refused : {n : ℕ} → a ≡ refused n → refused n ≡ and_then a next
  then_refused e = sym (ap (λ (b : Answer A). and_then b next) e)

pub then_found : {A B : Type 0} (a : Answer A) (next : A → Answer B) {y : B} → and_then a next ≡ figures y → (x : A) × (a ≡ figures x) × (next x ≡ figures y)
then_found (figures x) next e = (x, refl, e)
then_found (refused n) next e = absurd (figures-refused (sym e))

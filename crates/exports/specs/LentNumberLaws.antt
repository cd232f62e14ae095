-- Numbers that a call lends: after a refusal they hold what they held, else the figures answered.
-- Assumes nothing.
use Rattle.std.specs.Prelude.{ℕ, ◌≡◌}
use Rattle.std.proofs.Common.{sym, ap, ◌∙◌}
use Rattle.terms.specs.Answer.{Answer, figures, refused, on_figures, figure_or}
use Rattle.checking.specs.declared.verdicts.Verdict.{Verdict}
use Rattle.exports.specs.Answers.{coded, excess_or}

module _ {A : Type 0} (a : Answer A) where
  pub code_refused : (figure : A → ℕ) (n r : ℕ) → a ≡ refused n → r ≡ coded (refused n) → r ≡ coded (on_figures figure a)
  code_refused figure n r e h = h ∙ sym (ap (λ (b : Answer A). coded (on_figures figure b)) e)

  pub code_found : (figure : A → ℕ) (x : A) → a ≡ figures x → figure x ≡ coded (on_figures figure a)
  code_found figure x e = sym (ap (λ (b : Answer A). coded (on_figures figure b)) e)

  module _ {B : Type 0} (figure : A → B) (old : B) where
    pub number_kept : (n : ℕ) → a ≡ refused n → old ≡ figure_or (on_figures figure a) old
    number_kept n e = sym (ap (λ (b : Answer A). figure_or (on_figures figure b) old) e)

    pub number_found : (x : A) → a ≡ figures x → figure x ≡ figure_or (on_figures figure a) old
    number_found x e = sym (ap (λ (b : Answer A). figure_or (on_figures figure b) old) e)

-- The number lent for an excess holds what the answer of a check makes of it.
pub excess_is : (a b : Answer Verdict) → a ≡ b → (old : ℕ) → excess_or b old ≡ excess_or a old
excess_is a b e old = ap (λ (c : Answer Verdict). excess_or c old) (sym e)

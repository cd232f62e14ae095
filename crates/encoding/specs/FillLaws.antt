-- What a call answers that fills the front of a list, and what the list then holds: on a refusal, and once all is
-- stored.
-- Assumes nothing.
use Rattle.std.specs.Prelude.{ℕ, ◌≤◌, ◌≡◌, List, length}
use Rattle.std.proofs.Common.{sym, ap, subst, ◌∙◌}
use Rattle.std.proofs.lemmas.List.Edits.{sets}
use Rattle.terms.specs.Answer.{Answer, figures, refused, on_figures, and_then}
use Rattle.terms.specs.AnswerLaws.{then_figures, then_refused}
use Rattle.terms.specs.Lent.{filled}
use Rattle.encoding.specs.StoreLaws.{sets_front}

module _ {A : Type 0} (a : Answer (List A)) (old : List A) where
  -- r is answered, and the list that held `old` holds `new`.
  abbrev pub Fills : Answer ℕ → List A → Type 0
  Fills r new = (r ≡ on_figures length a) × (new ≡ filled a old)

  pub fill_refused : (n : ℕ) → a ≡ refused n → Fills (refused n) old
  fill_refused n e = (sym (ap (on_figures length) e), sym (ap (λ (b : Answer (List A)). filled b old) e))

  pub fill_stored : (xs new : List A) (n : ℕ) → a ≡ figures xs → n ≡ length xs → length xs ≤ length old → new ≡ sets old 0 xs → Fills (figures n) new
  fill_stored xs new n e l room s =
      (ap figures l ∙ sym (ap (on_figures length) e), s ∙ sets_front xs old room ∙ sym (ap (λ (b : Answer (List A)). filled b old) e))

-- A list that the last of several calls fills: the first refusal ends them.
module _ {A B : Type 0} (a : Answer A) (next : A → Answer (List B)) (old : List B) where
  pub refused_fills : (n : ℕ) → a ≡ refused n → Fills (and_then a next) old (refused n) old
  refused_fills n e = fill_refused (and_then a next) old n (sym (then_refused a next e))

  pub found_fills : (x : A) → a ≡ figures x → (new : List B) (r : Answer ℕ) → Fills (next x) old r new → Fills (and_then a next) old r new
  found_fills x e new r = subst (λ (b : Answer (List B)). Fills b old r new) (then_figures a next e)

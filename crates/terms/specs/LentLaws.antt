-- A filled list begins with what fills it and is as long as it was.
-- Assumes nothing.
use Rattle.std.specs.Prelude.{ℕ, ◌≤◌, ◌≡◌, ◌++◌, List, length, take, drop}
use Rattle.std.proofs.Common.{arith, sym, ap, ◌∙◌, length-take, length-take-le, take-append-drop}
use Rattle.std.proofs.Math.Seq.{take-append_seam, length_front}
use Rattle.terms.specs.Answer.{Answer, figures, on_figures}
use Rattle.terms.specs.AnswerLaws.{on_figures_lem}
use Rattle.terms.specs.Lent.{filled}

-- What fills a list is its front.
pub filled-front : {A : Type 0} (xs old : List A) → take (length xs) (filled (figures xs) old) ≡ xs
filled-front xs old = take-append_seam xs (drop (length xs) old)

-- A list with room for what fills it keeps its length.
pub filled-length : {A : Type 0} (xs old : List A) → length xs ≤ length old → length (filled (figures xs) old) ≡ length old
filled-length xs old l = length_front old xs (length xs) (sym (length-take-le (length xs) old l))

-- A list with another's entries behind its front is that other one, filled by the front.
pub front-fills : {A : Type 0} (n : ℕ) (new old : List A) → n ≤ length new → drop n new ≡ drop n old
    → filled (figures (take n new)) old ≡ new
front-fills {A} n new old l e =
    ap (λ (m : ℕ). take n new ++ drop m old) (length-take-le n new l)
    ∙ ap (λ (xs : List A). take n new ++ xs) (sym e) ∙ take-append-drop n new

-- What fills the front of a list, read off it: as many entries as there are.
module _ (a : Answer (List ℕ)) (old new : List ℕ) (n : ℕ) (e : figures n ≡ on_figures length a) (f : new ≡ filled a old) where
  entries : (xs : List ℕ) × (a ≡ figures xs) × (length xs ≡ n)
  entries = on_figures_lem length a (sym e)

  front-is : take n new ≡ entries.0
  front-is =
      ap (take n) (f ∙ ap (λ (b : Answer (List ℕ)). filled b old) entries.1)
      ∙ ap (λ (m : ℕ). take m (filled (figures entries.0) old)) (sym entries.2)
      ∙ filled-front entries.0 old

  pub fills_front : a ≡ figures (take n new)
  fills_front = entries.1 ∙ ap figures (sym front-is)

  pub front-count : length (take n new) ≡ n
  front-count = ap length front-is ∙ entries.2

  pub front-inside : n ≤ length new
  front-inside = omega (arith, length-take n new, front-count)

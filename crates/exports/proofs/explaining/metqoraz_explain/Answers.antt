-- The depth found, and its cause in the numbers; a refusal leaves these as they were.
use Prim.Native.Nat.{ℕ}
use mathlib.Core.Path.{sym, ap, ◌∙◌}
use Rattle.causes.specs.Cause.{Explanation, explain_says}
use Rattle.exports.specs.declared.explaining.CauseNumbers.{CauseNumbers}
use Rattle.exports.specs.Answers.{cause_numbers}
use Rattle.exports.specs.LentNumberLaws.{code_refused, code_found, number_kept, number_found}
use borrow.Author.Rules.{rules}
use Rattle.exports.proofs.explaining.metqoraz_explain.Goals as goal

-- what each lent number gets
abbrev number : (CauseNumbers → ℕ) → Explanation → ℕ
number figure x = figure (cause_numbers x.cause)

pub returns-in-Err : goal.returns-in-Err
returns-in-Err c =
    let e = sym c.explain_for.ensures ∙ ap explain_says c.in-Err.is in
    record {
      value = code_refused _ (λ x. x.depth) _ _ e c.coded_refusal.ensures;
      cause_after = number_kept _ (number (λ n. n.cause)) _ _ e;
      first_after = number_kept _ (number (λ n. n.first)) _ _ e;
      last_after = number_kept _ (number (λ n. n.last)) _ _ e;
    }

pub returns : goal.returns
returns c =
    let e = sym c.explain_for.ensures ∙ ap explain_says c.in-Ok.is in
    let n = c.numbers_of-numbers.ensures in
    record {
      value = code_found _ (λ x. x.depth) _ e;
      cause_after = ap (λ (m : CauseNumbers). m.cause) n ∙ number_found _ (number (λ m. m.cause)) _ _ e;
      first_after = ap (λ (m : CauseNumbers). m.first) n ∙ number_found _ (number (λ m. m.first)) _ _ e;
      last_after = ap (λ (m : CauseNumbers). m.last) n ∙ number_found _ (number (λ m. m.last)) _ _ e;
    }

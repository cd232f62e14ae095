-- What the trial discards, and its spare in the number; a refusal leaves it as it was.
use mathlib.Core.Path.{sym, ap, ◌∙◌}
use mir.Facts.{to_z-of_z}
use mir.Syntax.{w64}
use Rattle.terms.specs.Refusals.{says}
use Rattle.exports.specs.LentNumberLaws.{code_refused, code_found, number_kept, number_found}
use borrow.Author.Rules.{rules}
use Rattle.exports.proofs.buckets.metqoraz_trial.Goals as goal

pub returns-in-Err : goal.returns-in-Err
returns-in-Err c =
    let e = sym c.trial_for.ensures ∙ ap says c.in-Err.is in
    record { value = code_refused _ (λ t. t.over) _ _ e c.coded_refusal.ensures; spare_after = number_kept _ (λ t. t.spare) _ _ e }

pub returns : goal.returns
returns c =
    let e = sym c.trial_for.ensures ∙ ap says c.in-Ok.is in
    record { value = code_found _ (λ t. t.over) _ e; spare_after = to_z-of_z {w = w64} (record { sfits = c.struct_told-1.given.0.1 }) ∙ number_found _ (λ t. t.spare) _ _ e }

-- The cost of the bucket found, and its rate and depth in the numbers; a refusal leaves these as they were.
use mathlib.Core.Path.{sym, ap, ◌∙◌}
use Rattle.terms.specs.Refusals.{says}
use Rattle.exports.specs.LentNumberLaws.{code_refused, code_found, number_kept, number_found}
use borrow.Author.Rules.{rules}
use Rattle.exports.proofs.buckets.metqoraz_single.Goals as goal

pub returns-in-Err : goal.returns-in-Err
returns-in-Err c =
    let e = sym c.single_for.ensures ∙ ap says c.in-Err.is in
    record { value = code_refused _ (λ s. s.cost) _ _ e c.coded_refusal.ensures; rate_after = number_kept _ (λ s. s.bucket.rate.0) _ _ e; depth_after = number_kept _ (λ s. s.bucket.depth.0) _ _ e }

pub returns : goal.returns
returns c =
    let e = sym c.single_for.ensures ∙ ap says c.in-Ok.is in
    record { value = code_found _ (λ s. s.cost) _ e; rate_after = number_found _ (λ s. s.bucket.rate.0) _ _ e; depth_after = number_found _ (λ s. s.bucket.depth.0) _ _ e }

-- A verdict's number, and with a yes the excess in the lent one; else that is as it was.
use mathlib.Core.Path.{sym, ap, ◌∙◌}
use Rattle.exports.specs.Answers.{verdict_code}
use Rattle.exports.specs.LentNumberLaws.{code_refused, code_found, excess_is}
use borrow.Author.Rules.{rules}
use Rattle.exports.proofs.checks.metqoraz_check.Goals as goal

pub returns-in-Ok-No : goal.returns-in-Ok-No
returns-in-Ok-No c =
    let e = sym (rw c.in-Ok-No.field-0-is at c.in-Ok-No.ensures) in
    record { value = code_found _ verdict_code _ e; excess_after = excess_is _ _ e _ }

pub returns-in-Err : goal.returns-in-Err
returns-in-Err c =
    let e = sym c.in-Err.ensures in
    record { value = code_refused _ verdict_code _ _ e c.coded_refusal.ensures; excess_after = excess_is _ _ e _ }

pub returns-in-Ok-Yes : goal.returns-in-Ok-Yes
returns-in-Ok-Yes c =
    let e = sym (rw c.in-Ok-Yes.field-0-is at c.in-Ok-Yes.ensures) in
    record { value = code_found _ verdict_code _ e; excess_after = excess_is _ _ e _ }

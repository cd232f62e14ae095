-- Laws of tests: a conjunction that is true, and a branch on the negation of a call's answer.
-- Assumes nothing.
use Rattle.std.specs.Prelude.{◌≡◌, refl, Bool, true, false, not, ◌&&◌}
use Rattle.std.proofs.Common.{sym, ◌∙◌}
use Rattle.std.proofs.lemmas.Bool.{false≢true, not-true, not-false}

pub and_both : (a b : Bool) → a && b ≡ true → (a ≡ true) × (b ≡ true)
and_both true b h = (refl, h)
and_both false b h = (h, cc)

pub and_three : (a b c : Bool) → a && b && c ≡ true → (a ≡ true) × (b ≡ true) × (c ≡ true)
and_three a b c h =
    let k = and_both (a && b) c h in
    let l = and_both a b k.0 in
    (l.0, l.1, k.1)

pub and_six : (a b c d e f : Bool) → a && b && c && d && e && f ≡ true
    → (a ≡ true) × (b ≡ true) × (c ≡ true) × (d ≡ true) × (e ≡ true) × (f ≡ true)
and_six a b c d e f h =
    let k = and_three (a && b && c && d) e f h in
    let l = and_three (a && b) c d k.0 in
    let n = and_both a b l.0 in
    (n.0, n.1, l.1, l.2, k.1, k.2)

pub both_and : {a b : Bool} → a ≡ true → b ≡ true → a && b ≡ true
both_and h k = rw (h, k)

-- Nothing is true and false, and what is not true is false.
pub true-false : {b : Bool} → b ≡ true → b ≡ false → ⊥
true-false h k = false≢true (sym k ∙ h)

pub not_true-false : (b : Bool) → (b ≡ true → ⊥) → b ≡ false
not_true-false true h = absurd (h refl)
not_true-false false h = refl

-- After `if !check(..) { return .. }`, with a the call's answer and b what it promises:
-- what holds past the branch and in it.
pub check_passed : {a b : Bool} → a ≡ b → not a ≡ false → b ≡ true
check_passed e h = sym e ∙ not-false _ h

pub check_failed : {a b : Bool} → a ≡ b → not a ≡ true → b ≡ false
check_failed e h = sym e ∙ not-true _ h

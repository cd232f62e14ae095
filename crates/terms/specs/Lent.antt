-- What lent lists and bytes hold after a call (01, "Series", "The two files": a front is filled, what lies after it
-- keeps its values; "Refusals by number": a refusal changes nothing lent).
-- Assumes nothing.
use Rattle.std.specs.Prelude.{List, ◌++◌, length, drop}
use Rattle.terms.specs.Answer.{Answer, figures, refused}

-- The answer's entries fill the front of a list; what lies after them, and everything on a refusal, is as it was.
abbrev pub filled : {A : Type 0} → Answer (List A) → List A → List A
filled (figures xs) old = xs ++ drop (length xs) old
filled (refused n) old = old

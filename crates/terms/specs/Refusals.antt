-- The number of each refusal (01, "Refusals by number"; 02, job 1). The comments have document 01's words, and from
-- 10 on ours.
-- Assumes nothing.
use Rattle.std.specs.Prelude.{ℕ, Result, Ok, Err}
use Rattle.terms.specs.Answer.{Answer, figures, refused}
use Rattle.terms.specs.declared.refusal.Refusal.{Refusal}
use Rattle.terms.specs.declared.refusal.Refusal.TheVariants.{Short, Foreign, Periods, Misplaced, Figure, List, NoPlan, Meter, Full, Unequal}

abbrev pub number_of : Refusal → ℕ
number_of Short = 1  -- short
number_of Foreign = 2  -- foreign
number_of Periods = 3  -- periods
number_of Misplaced = 4  -- misplaced
number_of Figure = 5  -- figure
number_of List = 6  -- list
number_of NoPlan = 7  -- no plan
number_of Meter = 8  -- meter
number_of Full = 9  -- full
number_of Unequal = 10  -- unequal

-- What a call's result says: its figures, or the number of its refusal.
abbrev pub says : {A : Type 0} → Result A Refusal → Answer A
says (Ok x) = figures x
says (Err why) = refused (number_of why)

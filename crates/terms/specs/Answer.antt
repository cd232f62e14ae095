-- What a call answers: the figures or one numbered refusal (00, demand 1; 01, "Refusals by number").
-- Assumes nothing.
use Rattle.std.specs.Prelude.{ℕ, Bool, true, false, cond}

pub data Answer (A : Type 0) : Type 0 where
  figures : A → Answer A
  refused : ℕ → Answer A

-- Weighs one rule: where it is broken the answer is that refusal, and else the rest decides.
-- Rules nest from the lowest number on, so the lowest number that applies is given.
abbrev pub weigh : {A : Type 0} → Bool → ℕ → Answer A → Answer A
weigh true n rest = rest
weigh false n rest = refused n

-- Other figures worked out from those of an answer; a refusal stays.
abbrev pub on_figures : {A B : Type 0} → (A → B) → Answer A → Answer B
on_figures f (figures x) = figures (f x)
on_figures f (refused n) = refused n

-- The figures of an answer, or on a refusal something else, such as what a lent number held.
abbrev pub figure_or : {A : Type 0} → Answer A → A → A
figure_or (figures x) other = x
figure_or (refused n) other = other

-- A further call made with the figures of an answer; a refusal stays.
abbrev pub and_then : {A B : Type 0} → Answer A → (A → Answer B) → Answer B
and_then (figures x) next = next x
and_then (refused n) next = refused n

-- What was found so far, or the new one where that is preferred; a refusal is passed over.
abbrev pub choose : {A : Type 0} → (A → A → Bool) → Answer A → Answer A → Answer A
choose preferred a (refused n) = a
choose preferred (refused n) (figures y) = figures y
choose preferred (figures x) (figures y) = cond (preferred y x) (figures y) (figures x)

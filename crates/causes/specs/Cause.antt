-- What sets a depth (02, job 3): nothing, an opening of v periods, or a stretch from period u to period v. "Opening"
-- and "stretch" are document 02's words; periods are counted from 1. That a cause is always found for a depth above 0,
-- and what it says of the trace and of the bucket, are laws (`CauseLaws`, `DiscardLaws`).
-- Assumes nothing.
use Rattle.std.specs.Prelude.{ℕ, ◌-◌, ◌*◌, Bool, true, false, cond, List, Option, Some, None, Result, eqb, ltb, length}
use Rattle.std.proofs.Math.Seq.{slice}
use Rattle.terms.specs.declared.Tariff.{Tariff}
use Rattle.terms.specs.declared.refusal.Refusal.{Refusal}
use Rattle.terms.specs.Answer.{Answer, figures, refused, on_figures, and_then, figure_or}
use Rattle.terms.specs.Records.{total}
use Rattle.terms.specs.Refusals.{says}
use Rattle.bucket.specs.Step.{start_of}
use Rattle.depth.specs.Depth.{depth_of, first_from}
use Rattle.causes.specs.declared.explaining.Cause.{Cause}
use Rattle.causes.specs.declared.explaining.Cause.TheVariants.{Nothing, Opening, Stretch}
use Rattle.causes.specs.declared.explaining.Explained.{Explained}

pub data SetBy : Type 0 where
  nothing : SetBy
  opening : ℕ → SetBy
  stretch : ℕ → ℕ → SetBy

-- ---- Needs

-- Periods u to v.
abbrev pub from_to : ℕ → ℕ → List ℕ → List ℕ
from_to u v ds = slice (u - 1) v ds

-- The summed demand of some periods.
abbrev pub demand_of : List ℕ → ℕ
demand_of ds = total (λ d. d) ds

-- The need of some periods at rate r: their summed demand less the rate for each. The library's `-` stops at 0, and no
-- tokens fall short of a need of 0 or less.
unfoldable pub need_of : ℕ → List ℕ → ℕ
need_of r ds = demand_of ds - r * length ds

-- y tokens fall short of the need of periods u to v.
abbrev pub short : ℕ → ℕ → List ℕ → ℕ → ℕ → Bool
short r y ds u v = ltb y (need_of r (from_to u v ds))

-- ---- Causes

abbrev pub is_found : Answer ℕ → Bool
is_found (figures n) = true
is_found (refused n) = false

-- The least v with periods 1..v whose need y tokens fall short of.
abbrev pub opening_end : ℕ → ℕ → List ℕ → Answer ℕ
opening_end r y ds = first_from (λ v. short r y ds 1 v) (length ds) 1

-- The least u, 2 or later, with periods u..v whose need depth C falls short of.
abbrev pub stretch_start : ℕ → ℕ → List ℕ → ℕ → Answer ℕ
stretch_start r C ds v = first_from (λ u. short r C ds u v) (v - 1) 2

-- The least v with such a u.
abbrev pub stretch_end : ℕ → ℕ → List ℕ → Answer ℕ
stretch_end r C ds = first_from (λ v. is_found (stretch_start r C ds v)) (length ds - 1) 2

-- What a fresh bucket of depth C starts with, by a tariff's factor.
abbrev pub start_at : Tariff → ℕ → ℕ
start_at t C = start_of t.factor.p t.factor.q C

-- The opening that a bucket of depth C falls short of with its starting tokens, and the stretch that it falls short of
-- with its depth.
abbrev pub short_opening : Tariff → ℕ → List ℕ → ℕ → Answer SetBy
short_opening t r ds C = on_figures opening (opening_end r (start_at t C) ds)

abbrev pub short_stretch : ℕ → List ℕ → ℕ → Answer SetBy
short_stretch r ds C = and_then (stretch_end r C ds) (λ v. on_figures (λ u. stretch u v) (stretch_start r C ds v))

-- Nothing at depth 0. Else what a depth one smaller falls short of: an opening goes before a stretch.
unfoldable pub cause_of : Tariff → ℕ → List ℕ → ℕ → SetBy
cause_of t r ds B =
    cond (eqb B 0) nothing (figure_or (short_opening t r ds (B - 1)) (figure_or (short_stretch r ds (B - 1)) nothing))

-- What a search of the code says: the number found, or none.
abbrev pub number_found : Option ℕ → Answer ℕ
number_found (Some n) = figures n
number_found None = refused 7

-- ---- The call

-- A depth and its cause.
pub record Explanation : Type 0 where
  pub depth : ℕ
  pub cause : SetBy

abbrev pub explained : Tariff → ℕ → List ℕ → ℕ → Explanation
explained t r ds B = record { depth = B; cause = cause_of t r ds B }

-- The refusals are the depth call's: 3, 5 and 7.
abbrev pub explain_of : Tariff → ℕ → List ℕ → Answer Explanation
explain_of t r ds = on_figures (explained t r ds) (depth_of t r ds)

-- Each case of a cause, and of the answer, in document 02's values and numbers.
abbrev pub cause_says : Cause → SetBy
cause_says Nothing = nothing
cause_says (Opening x) = opening x.periods
cause_says (Stretch x) = stretch x.first x.last

abbrev pub explained_says : Explained → Explanation
explained_says x = record { depth = x.depth.0; cause = cause_says x.cause }

abbrev pub explain_says : Result Explained Refusal → Answer Explanation
explain_says r = on_figures explained_says (says r)

-- The candidate rates (01, "Single": the pairs inside the caps).
-- Assumes nothing.
use Rattle.std.specs.Prelude.{ℕ, ◌+◌, min, max, Bool, false, List, [], ◌∷◌, ltb}
use Rattle.terms.specs.declared.Tariff.{Tariff}
use Rattle.terms.specs.Answer.{Answer, figures, refused}
use Rattle.single.specs.declared.costs.Priced.{Priced}

-- The candidates are 0, 1, .. up to the rate cap: so many.
abbrev pub candidates : Tariff → ℕ
candidates t = t.rate_cap.0 + 1

-- The greatest demand; of no period 0.
unfoldable pub greatest : List ℕ → ℕ
greatest [] = 0
greatest (d ∷ ds) = max d (greatest ds)

-- Those that have to be weighed, since none above the greatest demand is ever chosen (`RateLaws.weighed-enough`).
abbrev pub weighed : Tariff → List ℕ → ℕ
weighed t ds = min t.rate_cap.0 (greatest ds) + 1

-- A bucket costs more than what is found, if anything is. Where the bucket of depth 0 at a rate does,
-- no larger rate need be weighed (`RateLaws.dearer-enough`).
abbrev pub dearer : Priced → Answer Priced → Bool
dearer y (figures x) = ltb x.cost y.cost
dearer y (refused n) = false

-- What a trace of demands leaves in a bucket with rate r and depth B that holds y tokens (01, "The bucket").
-- Assumes nothing.
use Rattle.std.specs.Prelude.{ℕ, ◌+◌, ◌≤◌, Bool, true, cond, ◌&&◌, List, [], ◌∷◌, eqb, get_or, ℤ, pos, ◌-ℤ◌}
use Rattle.std.specs.Int.Signed.{le_z}
use Rattle.terms.specs.Limits.{demand_limit}
use Rattle.bucket.specs.Step.{start_of, sent, over, held, lost}

-- Each demand is a 16-bit number. (Past the end of a list `get_or` gives 0.)
pub record Demands (ds : List ℕ) : Type 0 where
  pub each : (i : ℕ) → get_or ds i 0 ≤ demand_limit

-- The tokens held after the last period.
unfoldable pub held_after : ℕ → ℕ → ℕ → List ℕ → ℕ
held_after r B y [] = y
held_after r B y (d ∷ ds) = held_after r B (held r B y d) ds

-- The sum over the periods of a figure f of each, which goes by the tokens held and the demand.
unfoldable pub sum_of : (ℕ → ℕ → ℕ) → ℕ → ℕ → ℕ → List ℕ → ℕ
sum_of f r B y [] = 0
sum_of f r B y (d ∷ ds) = f y d + sum_of f r B (held r B y d) ds

abbrev pub sent_all : ℕ → ℕ → ℕ → List ℕ → ℕ
sent_all r B = sum_of (sent r) r B

abbrev pub over_all : ℕ → ℕ → ℕ → List ℕ → ℕ
over_all r B = sum_of (over r) r B

abbrev pub lost_all : ℕ → ℕ → ℕ → List ℕ → ℕ
lost_all r B = sum_of (lost r B) r B

-- A bucket carries a trace if over is 0 in each period.
unfoldable pub carries_from : ℕ → ℕ → ℕ → List ℕ → Bool
carries_from r B y [] = true
carries_from r B y (d ∷ ds) = eqb (over r y d) 0 && carries_from r B (held r B y d) ds

-- The bucket (r, B), fresh with the factor p/q, carries the trace.
abbrev pub carries : ℕ → ℕ → ℕ → ℕ → List ℕ → Bool
carries p q r B ds = carries_from r B (start_of p q B) ds

-- y + r − d in each period.
abbrev pub gap : ℕ → ℕ → ℕ → ℤ
gap r y d = pos (y + r) -ℤ pos d

unfoldable pub gaps : ℕ → ℕ → ℕ → List ℕ → List ℤ
gaps r B y [] = []
gaps r B y (d ∷ ds) = gap r y d ∷ gaps r B (held r B y d) ds

abbrev pub min_z : ℤ → ℤ → ℤ
min_z a b = cond (le_z a b) a b

-- The least of z and the numbers of a list.
unfoldable pub least_of : ℤ → List ℤ → ℤ
least_of z [] = z
least_of z (x ∷ xs) = least_of (min_z z x) xs

-- Spare, document 01's term: the least y + r − d over the periods. A trace has a first period; of none it is 0.
unfoldable pub spare_from : ℕ → ℕ → ℕ → List ℕ → ℤ
spare_from r B y [] = pos 0
spare_from r B y (d ∷ ds) = least_of (gap r y d) (gaps r B (held r B y d) ds)

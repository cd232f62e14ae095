-- Which of two buckets is chosen (01, "Single": "equal costs go to the smaller rate, then the smaller depth").
-- Assumes nothing.
use Rattle.std.specs.Prelude.{ℕ, Bool, false, ◌&&◌, ◌||◌, ltb, eqb}
use Rattle.single.specs.declared.costs.Priced.{Priced}

-- The smaller number decides, and between equal ones the rest.
unfoldable pub smaller : ℕ → ℕ → Bool → Bool
smaller a b rest = ltb a b || eqb a b && rest

-- x is chosen before y: less cost, then the smaller rate, then the smaller depth.
unfoldable pub preferred : Priced → Priced → Bool
preferred x y =
    smaller x.cost y.cost
    (smaller x.bucket.rate.0 y.bucket.rate.0
    (smaller x.bucket.depth.0 y.bucket.depth.0
    false))

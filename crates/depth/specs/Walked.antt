-- What both depth calls begin with: the walk through a list of demands as it comes, or a refusal. In no promise of an
-- offered call.
-- Assumes nothing.
use Rattle.std.specs.Prelude.{ℕ, List, length}
use Rattle.terms.specs.declared.Tariff.{Tariff}
use Rattle.terms.specs.Answer.{Answer, figures, weigh}
use Rattle.terms.specs.Ranges.{periods_ok}
use Rattle.depth.specs.declared.walk.Walk.{Walk}
use Rattle.depth.specs.Depth.{rate_ok}
use Rattle.depth.specs.Walk.{walk_of}

-- 3: the list's length; 5: the tariff or the rate.
unfoldable pub walk_for : Tariff → ℕ → List ℕ → Answer Walk
walk_for t r ds = weigh (periods_ok (length ds)) 3 (weigh (rate_ok t r) 5 (figures (walk_of r ds)))

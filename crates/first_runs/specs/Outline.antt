-- What the search keeps of a cutting: its cost, its buckets and its first run's length; and which of two is kept.
-- Assumes nothing.
use Rattle.std.specs.Prelude.{ℕ, ◌+◌, Bool, cond, List, ltb, get_or}
use Rattle.single.specs.Preference.{smaller}
use Rattle.first_runs.specs.declared.outlines.Choice.{Choice}
use Rattle.first_runs.specs.declared.outlines.Outline.{Outline}

-- Stands for the cost where there is none. Every cost of a cutting is below it.
abbrev pub unpriced : ℕ
unpriced = 1000000000000000000

abbrev pub no_outline : Outline
no_outline = record { cost = unpriced; buckets = 0; first = 0 }

-- The outline of a cutting whose first run has i + 1 periods and costs c.
-- By i the lists hold the cost and the buckets of the best cutting of what is left.
abbrev pub begun : List ℕ → List ℕ → ℕ → ℕ → Outline
begun costs counts i c = record { cost = c + get_or costs i 0; buckets = get_or counts i 0 + 1; first = i + 1 }

-- x is chosen before y: less cost, then fewer buckets, then the longer first run.
unfoldable pub ahead : Outline → Outline → Bool
ahead x y = smaller x.cost y.cost (smaller x.buckets y.buckets (ltb y.first x.first))

-- The old one, or the new one where that is chosen before it.
unfoldable pub better_choice : Choice → Choice → Choice
better_choice old new = cond (ahead new.outline old.outline) new old

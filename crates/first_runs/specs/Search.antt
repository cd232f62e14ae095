-- What a search from one start on rests on and what it gives, by the struct that holds its figures.
-- Assumes nothing.
use Rattle.std.specs.Prelude.{ℕ, Bool}
use Rattle.first_runs.specs.declared.outlines.Choice.{Choice}
use Rattle.first_runs.specs.declared.runs.Search.{Search}
use Rattle.first_runs.specs.SearchLaws.{PassedOver, Searching, Weighed}

abbrev pub Searches : Search → Choice → Type 0
Searches s c = Searching s.tariff s.trace.now s.costs.now s.counts.now s.stops.now c

abbrev pub Weighs : Search → ℕ → ℕ → Choice → Choice → Type 0
Weighs s low end old new = Weighed s.tariff s.trace.now s.costs.now s.counts.now low end old new

abbrev pub PassesOver : Search → ℕ → ℕ → Choice → Bool → Type 0
PassesOver s low high c b = PassedOver s.tariff s.trace.now s.costs.now s.counts.now low high c b

-- The outline of the best cutting of what is left of a trace, which the search keeps: its cost,
-- its buckets and its first run's length.
-- Assumes nothing.
use Rattle.std.specs.Prelude.{length}
use Rattle.terms.specs.declared.Tariff.{Tariff}
use Rattle.terms.specs.Answer.{Answer, figures, refused}
use Rattle.terms.specs.Records.{Cutting, run_length}
use Rattle.first_runs.specs.declared.outlines.Outline.{Outline}
use Rattle.first_runs.specs.Outline.{no_outline}
use Rattle.series.specs.Cutting.{first_run}
use Rattle.series.specs.Series.{true_cost_of}

-- The outline of a cutting, if there is one.
abbrev pub outline_of : Tariff → Answer Cutting → Outline
outline_of t (figures xs) = record { cost = true_cost_of t xs; buckets = length xs; first = first_run run_length xs }
outline_of t (refused n) = no_outline

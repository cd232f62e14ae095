-- What is left to meter completes the totals so far.
use lib.ListN.{drop}
use Rattle.terms.specs.Answer.{on_figures}
use Rattle.recording.specs.MeteringLaws.{Metering}
use Rattle.recording.specs.Recording.{meters_of, totals_of}
use Rattle.recording.proofs.metering.meter_runs.Given as goal

abbrev pub invariant-loop-x : goal.invariant-loop-x
invariant-loop-x l =
    Metering l.factor (on_figures totals_of (meters_of l.factor l.trace l.records)) l.totals l.x-index l.rest (drop l.x-index l.records)

-- What is left to meter completes the totals so far; the next run is inside the rest of the trace, which the runs make
-- up.
use native.Mathlib.Omega.{arith}
use borrow.Author.Rules.{rules}
use Rattle.bucket.specs.Trace.{Demands}
use Rattle.record_list.specs.PartLaws.{rest_next, rest_none}
use Rattle.recording.specs.MeteringLaws.{none_metered, all_metered, run_inside, run_refused, run_metered, one_metered}
use Rattle.recording.proofs.metering.meter_runs.Goals as goal

pub loop-x-init : goal.loop-x-init
loop-x-init c =
    let demands : Demands c.args.trace.now = record { each = λ i. omega (arith, c.type_inv.trace i) } in
    none_metered _ _ _ c.requires.counts_range.periods.few demands c.requires.runs_sum

pub split_at-requires : goal.split_at-requires
split_at-requires c = run_inside c.loop-x.invariant _ _ (rest_next _ _ c.loop-x-test.true)

pub returns-in_err-meter : goal.returns-in_err-meter
returns-in_err-meter c =
    let s = c.split_at.ensures in
    let e = run_refused c.loop-x.invariant _ _ (rest_next _ _ c.loop-x-test.true) _ _ s.front s.back _ c.in_err-meter.ensures in
    search rules

pub with-totals-requires-clause-sound : goal.with-totals-requires-clause-sound
with-totals-requires-clause-sound c =
    let s = c.split_at.ensures in
    run_metered c.loop-x.invariant _ _ (rest_next _ _ c.loop-x-test.true) _ _ s.front s.back _ c.in_ok-meter.ensures

pub loop-x-preserved : goal.loop-x-preserved
loop-x-preserved c =
    let s = c.split_at.ensures in
    one_metered c.loop-x.invariant _ _ (rest_next _ _ c.loop-x-test.true) _ _ s.front s.back _ c.in_ok-meter.ensures _ c.with-totals.ensures

pub returns : goal.returns
returns c = all_metered c.loop-x.invariant (rest_none _ _ c.loop-x-test.false)

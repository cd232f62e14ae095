-- What was written is read back, so reading refuses nothing; the records read make up the trace, and no meter refuses,
-- since the factor was weighed before anything was written.
use native.Mathlib.Omega.{arith}
use mathlib.Core.Path.{sym, ◌∙◌}
use Rattle.bucket.specs.Trace.{Demands}
use Rattle.recording.specs.RecordingLaws.{read_taken, back_ready, meters_taken}
use Rattle.recording.proofs.recorded.record_plan.Goals as goal

pub returns-in_err-back : goal.returns-in_err-back
returns-in_err-back c =
    let w = c.in_ok-length.ensures in
    absurd (read_taken _ _ _ _ _ w.result_value w.bytes_after _ c.if-space-plan.false _ c.in_err-back.ensures.result_value)

pub meter_runs-requires : goal.meter_runs-requires
meter_runs-requires c =
    let w = c.in_ok-length.ensures in
    let ready = back_ready _ _ _ _ _ w.result_value w.bytes_after _ c.if-space-plan.false _ c.in_ok-back.ensures.result_value _ c.requires in
    record { counts_range = rw c.as_slice.ensures.items ready.0; runs_sum = rw c.as_slice.ensures.items ready.1 }

pub returns-in_err-meters : goal.returns-in_err-meters
returns-in_err-meters c =
    let w = c.in_ok-length.ensures in
    let opens = sym c.factor_in_range.ensures ∙ c.if-not-factor_in_range.false in
    let demands : Demands c.args.trace.now = record { each = λ i. omega (arith, c.type_inv.trace i) } in
    let refused = rw c.as_slice.ensures.items at c.in_err-meters.ensures in
    absurd
    (meters_taken _ _ _ _ _ w.result_value w.bytes_after _ c.if-space-plan.false _ c.in_ok-back.ensures.result_value _ c.requires _ opens demands _ refused)

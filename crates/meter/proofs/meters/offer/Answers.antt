-- A record in order is sound, so its period is one of a bucket in its range, and its totals have room for it.
use native.Mathlib.Omega.{arith}
use mathlib.Core.Path.{sym, ◌∙◌}
use Rattle.meter.specs.MeterLaws.{meter_sound}
use Rattle.meter.proofs.meters.offer.Goals as goal

pub step-period-requires : goal.step-period-requires
step-period-requires c =
    let k = meter_sound c.args.meter (sym c.record_in_order.ensures ∙ c.if-not-record_in_order.false) in
    record { bucket_range = k.fresh.bucket; held_le_depth_limit = omega (arith, k.totals.holds, k.fresh.bucket.depths) }

pub counted-next-requires : goal.counted-next-requires
counted-next-requires c = (meter_sound c.args.meter (sym c.record_in_order.ensures ∙ c.if-not-record_in_order.false)).totals

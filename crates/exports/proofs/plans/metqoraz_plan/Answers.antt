-- The room is that of the shortest list, and the figures of the records read are stored.
use Rattle.exports.specs.Lists.{RecordLists, lists, room_of}
use Rattle.std.specs.Prelude.{◌≡◌}
use Rattle.exports.specs.PlanLaws.{plan_unread, buckets_fit, plan-read}
use Rattle.std.proofs.Common.{arith}
use Rattle.exports.proofs.plans.metqoraz_plan.Goals as goal

pub returns-in-Err : goal.returns-in-Err
returns-in-Err c =
    let s = c.args in
    let old : RecordLists = lists s.runs.now s.rates.now s.depths.now in
    let room : c.min-room.result ≡ room_of s.runs.now s.rates.now s.depths.now = omega (arith, c.min-room.ensures, c.min.ensures) in
    let all = plan_unread s.plan.now old _ room s.periods.now s.buckets.now _ c.in-Err.ensures.result_value _ c.coded_refusal.ensures in
    record { value = all.0; periods_after = all.1.0; buckets_after = all.1.1.0; filled = all.1.1.1 }

pub store_figures-requires : goal.store_figures-requires
store_figures-requires c =
    let s = c.args in
    let old : RecordLists = lists s.runs.now s.rates.now s.depths.now in
    let room : c.min-room.result ≡ room_of s.runs.now s.rates.now s.depths.now = omega (arith, c.min-room.ensures, c.min.ensures) in
    rw c.as_slice.ensures.items (buckets_fit s.plan.now old _ room _ c.in-Ok.ensures.result_value).0

pub returns : goal.returns
returns c =
    let s = c.args in
    let old : RecordLists = lists s.runs.now s.rates.now s.depths.now in
    let room : c.min-room.result ≡ room_of s.runs.now s.rates.now s.depths.now = omega (arith, c.min-room.ensures, c.min.ensures) in
    let stored = rw c.as_slice.ensures.items at c.store_figures.ensures in
    let all = plan-read s.plan.now old _ room _ c.in-Ok.ensures.result_value _ stored s.periods.now s.buckets.now in
    rw c.figures-figures.ensures (record { value = all.0; periods_after = all.1.0; buckets_after = all.1.1.0; filled = all.1.1.1 })

-- The bytes of the records from the one reached on are left to be stored.
use Rattle.std.proofs.Common.{refl}
use Rattle.encoding.specs.StoreLaws.{put_next, put_end}
use Rattle.plan_file.specs.PlanRules.{length_record}
use Rattle.plan_file.proofs.records.put_records.Goals as goal

pub loop-x-preserved : goal.loop-x-preserved
loop-x-preserved c = put_next _ _ _ _ _ c.loop-x.invariant _ _ c.loop-x-test.true refl (length_record _) _ c.put_words.ensures

pub returns : goal.returns
returns c = put_end _ _ _ _ _ c.loop-x.invariant c.loop-x-test.false

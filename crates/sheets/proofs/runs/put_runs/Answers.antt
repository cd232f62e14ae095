-- The lines stored and those of the runs still to come are the whole; the next run is inside the rest of the
-- trace, since the run lengths sum to its length.
use Rattle.std.specs.Prelude.{length, take, drop}
use Rattle.std.proofs.Common.{arith, drop-drop, length-drop, ◌∙◌}
use Rattle.std.proofs.Math.Path.{ap}
use Rattle.record_list.specs.PartLaws.{run_inside}
use Rattle.sheets.specs.RunLaws.{one_printed, all_printed, run_room}
use Rattle.sheets.proofs.runs.put_runs.Goals as goal

pub split_at-requires : goal.split_at-requires
split_at-requires c =
    let w = c.loop-x.invariant in
    omega (arith, ap length w.is, length-drop w.start c.args.trace.now, run_inside _ _ _ _ w.printing.begins c.loop-x-test.true)

pub put_run-next-requires-clause-run_in_bounds : goal.put_run-next-requires-clause-run_in_bounds
put_run-next-requires-clause-run_in_bounds c =
    let w = c.loop-x.invariant in
    rw w.begins
    (run_room _ _ _ _ _ w.printing c.loop-x-test.true _ (c.split_at.ensures.front ∙ ap (take _) w.is) c.requires.records_in_bounds)

pub loop-x-preserved : goal.loop-x-preserved
loop-x-preserved c =
    let w = c.loop-x.invariant in
    let s = c.split_at.ensures in
    record {
      start = _;
      begins = omega (arith, w.begins);
      is = s.back ∙ ap (drop _) w.is ∙ drop-drop _ w.start c.args.trace.now;
      printing =
          one_printed _ _ _ _ _ w.printing c.loop-x-test.true _ (s.front ∙ ap (take _) w.is) _ _ (rw w.begins at c.put_run-next.ensures);
    }

pub returns : goal.returns
returns c = all_printed _ _ _ _ _ c.loop-x.invariant.printing c.loop-x-test.false

-- A walk of the first i periods has room for one more.
use native.Mathlib.Omega.{arith}
use Rattle.bucket.specs.Trace.{Demands}
use Rattle.depth.specs.WalkRanges.{walk_range_take, range_more}
use Rattle.depth.proofs.depths.walked.Goals as goal

pub push-walk-requires : goal.push-walk-requires
push-walk-requires c =
    let demands : Demands c.args.list.now = record { each = λ i. omega (arith, c.type_inv.list i) } in
    record {
      walk_range =
          rw c.loop-demand.invariant
          (range_more (omega arith) (walk_range_take _ _ _ c.requires.rate_le_rate_limit demands (omega arith)));
      rate_le_rate_limit = c.requires.rate_le_rate_limit;
    }

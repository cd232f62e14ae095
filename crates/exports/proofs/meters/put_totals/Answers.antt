-- Five stores one behind the other are the figures at the front; no store changes the length.
use native.Mathlib.Omega.{arith}
use lib.ListN.{length-set}
use borrow.Author.Rules.{rules}
use Rattle.exports.proofs.meters.put_totals.Goals as goal

pub bounds-totals-1 : goal.bounds-totals-1
bounds-totals-1 c = simp length-set (omega arith)

pub bounds-totals-2 : goal.bounds-totals-2
bounds-totals-2 c = simp length-set (omega arith)

pub bounds-totals-3 : goal.bounds-totals-3
bounds-totals-3 c = simp length-set (omega arith)

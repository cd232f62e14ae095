-- A refusal is that of the walk; the depth read off the walk is the smallest that carries.
use native.Mathlib.Omega.{arith}
use mathlib.Core.Path.{sym}
use borrow.Author.Rules.{rules}
use Rattle.depth.specs.WalkedLaws.{Ready, depth_by_walk, walk_ready}
use Rattle.depth.proofs.depths.depth_at.Goals as goal

pub returns-in_err-walk : goal.returns-in_err-walk
returns-in_err-walk c =
    let a = c.args in
    let e = c.in_err-walk.ensures in
    rw (← depth_by_walk a.tariff a.rate.0 a.trace.now, ← e) (search rules)

pub depth-requires : goal.depth-requires
depth-requires c =
    let ready : Ready c.args.tariff c.in_ok-walk.walk =
    walk_ready _ _ _ (record { each = λ i. omega (arith, c.type_inv.trace i) }) (sym c.in_ok-walk.ensures) in
    record {
      factor_range = ready.tariff.factor;
      cap_le_depth_limit = ready.tariff.depth_caps;
      walk_range = ready.walk;
    }

pub returns : goal.returns
returns c =
    let a = c.args in
    let e = c.in_ok-walk.ensures in
    rw (← depth_by_walk a.tariff a.rate.0 a.trace.now, ← e) c.depth.ensures

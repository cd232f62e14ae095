-- A refusal is that of the walk; the depth read off the walk turned round is the smallest that carries the list turned
-- round.
use native.Mathlib.Omega.{arith}
use mathlib.Core.Path.{sym, ap, ◌∙◌}
use borrow.Author.Rules.{rules}
use Rattle.depth.specs.WalkedLaws.{Ready, read_off, from_end_by_walk, walk_ready}
use Rattle.depth.specs.TurnLaws.{range_turned}
use Rattle.depth.proofs.depths.depth_from_end.Goals as goal

pub returns-in_err-walk : goal.returns-in_err-walk
returns-in_err-walk c =
    let a = c.args in
    let e = c.in_err-walk.ensures in
    rw (← from_end_by_walk a.tariff a.rate.0 a.list.now, ← e) (search rules)

pub depth-requires : goal.depth-requires
depth-requires c =
    let ready : Ready c.args.tariff c.in_ok-walk.walk =
    walk_ready _ _ _ (record { each = λ i. omega (arith, c.type_inv.list i) }) (sym c.in_ok-walk.ensures) in
    record {
      factor_range = ready.tariff.factor;
      cap_le_depth_limit = ready.tariff.depth_caps;
      walk_range = rw c.turned.ensures (range_turned ready.walk);
    }

pub returns : goal.returns
returns c =
    let a = c.args in
    let e = c.in_ok-walk.ensures in
    rw (← from_end_by_walk a.tariff a.rate.0 a.list.now, ← e)
    (c.depth.ensures ∙ ap (read_off a.tariff) c.turned.ensures)

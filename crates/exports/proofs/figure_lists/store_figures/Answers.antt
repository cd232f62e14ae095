-- One figure of each record from the one reached on is left to be stored in each list.
use Prim.Native.Nat.{ℕ, ◌-◌, ◌≤◌}
use native.Mathlib.Omega.{arith}
use mathlib.Core.List.{List}
use borrow.Author.Rules.{rules}
use lib.ListN.{length}
use Rattle.terms.specs.Records.{Cutting, run_length, run_rate, run_depth}
use Rattle.encoding.specs.StoreLaws.{none_stored}
use Rattle.exports.specs.ListLaws.{Rooms, rooms, Stored, figure_stored, figures-stored}
use Rattle.exports.proofs.figure_lists.store_figures.Invariants.{Storing}
use Rattle.exports.proofs.figure_lists.store_figures.Goals as goal

pub loop-i-init : goal.loop-i-init
loop-i-init c = record { runs-stored = none_stored _ 0 _; rates-stored = none_stored _ 0 _; depths-stored = none_stored _ 0 _ }

pub bounds-runs-i : goal.bounds-runs-i
bounds-runs-i c =
    let room : let a = c.args in Rooms (length a.records.now) a.runs.now a.rates.now a.depths.now = let a = c.args in rooms (length a.records.now) a.runs.now a.rates.now a.depths.now c.requires in
    omega (arith, c.loop-i-test.true, (room).first, c.loop-i.invariant.runs-stored.same)

pub bounds-rates-i : goal.bounds-rates-i
bounds-rates-i c =
    let room : let a = c.args in Rooms (length a.records.now) a.runs.now a.rates.now a.depths.now = let a = c.args in rooms (length a.records.now) a.runs.now a.rates.now a.depths.now c.requires in
    omega (arith, c.loop-i-test.true, (room).second, c.loop-i.invariant.rates-stored.same)

pub bounds-depths-i : goal.bounds-depths-i
bounds-depths-i c =
    let room : let a = c.args in Rooms (length a.records.now) a.runs.now a.rates.now a.depths.now = let a = c.args in rooms (length a.records.now) a.runs.now a.rates.now a.depths.now c.requires in
    omega (arith, c.loop-i-test.true, (room).third, c.loop-i.invariant.depths-stored.same)

pub loop-i-preserved : goal.loop-i-preserved
loop-i-preserved c =
    let w = c.loop-i.invariant in
    record {
      runs-stored = figure_stored _ run_length w.runs-stored c.loop-i-test.true;
      rates-stored = figure_stored _ run_rate w.rates-stored c.loop-i-test.true;
      depths-stored = figure_stored _ run_depth w.depths-stored c.loop-i-test.true;
    }

pub shape_of-runs : goal.shape_of-runs
shape_of-runs c = c.loop-i.invariant.runs-stored.same

pub shape_of-rates : goal.shape_of-rates
shape_of-rates c = c.loop-i.invariant.rates-stored.same

pub shape_of-depths : goal.shape_of-depths
shape_of-depths c = c.loop-i.invariant.depths-stored.same

pub returns : goal.returns
returns c =
    let room : let a = c.args in Rooms (length a.records.now) a.runs.now a.rates.now a.depths.now = let a = c.args in rooms (length a.records.now) a.runs.now a.rates.now a.depths.now c.requires in
    let w = c.loop-i.invariant in
    let h = c.loop-i-test.false in (
      figures-stored _ run_length w.runs-stored h (room).first,
      (
        figures-stored _ run_rate w.rates-stored h (room).second,
        figures-stored _ run_depth w.depths-stored h (room).third,
      ),
    )

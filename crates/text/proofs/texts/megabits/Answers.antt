-- The array holds the longest figure, and its front is the figure's text.
use Prim.Native.Nat.{◌≤◌}
use native.Mathlib.Omega.{arith}
use lib.IntN.{ℤ}
use lib.ListN.{length}
use lib.Signed.{nat_abs-le}
use mir.Syntax.{w64}
use mir.Val.{SFits}
use mir.Facts.{to_z-of_z}
use Rattle.text.specs.Megabits.{megabits}
use Rattle.text.specs.MegabitsLaws.{figure_short, longest_figure}
use Rattle.text.specs.FittedLaws.{ready_count, ready_inside, ready_fills}
use Rattle.text.proofs.texts.megabits.Goals as goal

short : (z : ℤ) → SFits w64 z → length (megabits z) ≤ longest_figure
short z f = figure_short z (nat_abs-le z f.sfits)

pub put_megabits-length-requires : goal.put_megabits-length-requires
put_megabits-length-requires c =
    rw (to_z-of_z c.ranges.figure) (omega (arith, short c.args.figure c.ranges.figure))

pub slice_bounds-ready-end : goal.slice_bounds-ready-end
slice_bounds-ready-end c =
    ready_inside _ _ (short _ c.ranges.figure) _ _ (rw (to_z-of_z c.ranges.figure) at c.put_megabits-length.ensures)

pub slice_bounds-fill-end : goal.slice_bounds-fill-end
slice_bounds-fill-end c =
    ready_count _ _ (short _ c.ranges.figure) _ _ (rw (to_z-of_z c.ranges.figure) at c.put_megabits-length.ensures)

pub returns : goal.returns
returns c =
    let put = rw (to_z-of_z c.ranges.figure) at c.put_megabits-length.ensures in
    let all = ready_fills _ _ (short _ c.ranges.figure) _ _ put c.args.text.now _ _ c.fill.ensures in
    record { result_value = all.0; text_after = all.1 }

-- Each return is a case of the definition; the array holds the longest line, and its front is the line.
use Prim.Native.Nat.{◌≤◌}
use native.Mathlib.Omega.{arith}
use mathlib.Core.Path.{ap}
use lib.ListN.{length}
use Rattle.depth.specs.Depth.{depth_says}
use Rattle.encoding.specs.FillLaws.{found_fills}
use Rattle.text.specs.FittedLaws.{zeros, ready_count, ready_inside, ready_fills}
use Rattle.text.specs.Lines.{depth_line}
use Rattle.text.specs.LineLaws.{depth-short, longest_depth}
use Rattle.services.proofs.lines.fill_depth.Goals as goal

pub put_depth-length-requires : goal.put_depth-length-requires
put_depth-length-requires c =
    let room : length (depth_line c.in_ok-depth.depth.0) ≤ length (zeros longest_depth) = omega (arith, depth-short c.in_ok-depth.depth.0 (omega (arith, c.in_ok-depth.known_told-1-own.given))) in
    omega (arith, room)

pub slice_bounds-ready-end : goal.slice_bounds-ready-end
slice_bounds-ready-end c =
    let room : length (depth_line c.in_ok-depth.depth.0) ≤ length (zeros longest_depth) = omega (arith, depth-short c.in_ok-depth.depth.0 (omega (arith, c.in_ok-depth.known_told-1-own.given))) in
    ready_inside (zeros longest_depth) _ (room) _ _ c.put_depth-length.ensures

pub slice_bounds-fill-end : goal.slice_bounds-fill-end
slice_bounds-fill-end c =
    let room : length (depth_line c.in_ok-depth.depth.0) ≤ length (zeros longest_depth) = omega (arith, depth-short c.in_ok-depth.depth.0 (omega (arith, c.in_ok-depth.known_told-1-own.given))) in
    ready_count (zeros longest_depth) _ (room) _ _ c.put_depth-length.ensures

pub returns : goal.returns
returns c =
    let room : length (depth_line c.in_ok-depth.depth.0) ≤ length (zeros longest_depth) = omega (arith, depth-short c.in_ok-depth.depth.0 (omega (arith, c.in_ok-depth.known_told-1-own.given))) in
    let old = c.args.text.now in
    let all = found_fills _ _ old _ (ap depth_says c.in_ok-depth.was) _ _
    (ready_fills (zeros longest_depth) _ (room) _ _ c.put_depth-length.ensures old _ _ c.fill.ensures) in
    record { result_value = all.0; text_after = all.1 }

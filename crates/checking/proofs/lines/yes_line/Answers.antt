-- The array holds the longest line, and its front is the line.
use Rattle.std.specs.Prelude.{ℕ, ◌^◌, ◌≤◌, ◌<◌, length}
use Rattle.std.proofs.Common.{arith}
use Rattle.text.specs.FittedLaws.{long, zeros, ready_count, ready_inside, ready_fills}
use Rattle.text.specs.Lines.{yes_line}
use Rattle.text.specs.LineLaws.{longest_verdict, yes-short}
use Rattle.checking.proofs.lines.yes_line.Goals as goal

room : (excess : ℕ) → excess < 2 ^ 64 → length (yes_line excess) ≤ length (zeros longest_verdict)
room excess l = omega (arith, yes-short excess l, long longest_verdict)

pub put_yes_line-length-requires : goal.put_yes_line-length-requires
put_yes_line-length-requires c = omega (arith, room c.args.excess c.ranges.excess.fits)

pub slice_bounds-ready-end : goal.slice_bounds-ready-end
slice_bounds-ready-end c = ready_inside _ _ (room c.args.excess c.ranges.excess.fits) _ _ c.put_yes_line-length.ensures

pub slice_bounds-fill-end : goal.slice_bounds-fill-end
slice_bounds-fill-end c = ready_count _ _ (room c.args.excess c.ranges.excess.fits) _ _ c.put_yes_line-length.ensures

pub returns : goal.returns
returns c =
    ready_fills _ _ (room c.args.excess c.ranges.excess.fits) _ _ c.put_yes_line-length.ensures c.args.text.now _ _ c.fill.ensures

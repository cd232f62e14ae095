-- Each return is a case of the definition; the array holds the longest line, and its front is the line.
use Prim.Native.Nat.{◌≤◌}
use native.Mathlib.Omega.{arith}
use mathlib.Core.Path.{sym, ap, ◌∙◌}
use lib.ListN.{length}
use lib.Signed.{nat_abs-le}
use mir.Syntax.{w64}
use mir.Val.{SFits}
use mir.Facts.{to_z-of_z}
use Rattle.terms.specs.Refusals.{says}
use Rattle.bucket.specs.declared.trials.TrialFigures.{TrialFigures}
use Rattle.encoding.specs.FillLaws.{found_fills}
use Rattle.text.specs.FittedLaws.{zeros, ready_count, ready_inside, ready_fills}
use Rattle.text.specs.Lines.{trial_line}
use Rattle.text.specs.LineLaws.{longest_trial, trial_short}
use Rattle.services.proofs.lines.trial_line.Goals as goal

pub put_trial_line-length-requires : goal.put_trial_line-length-requires
put_trial_line-length-requires c =
    let figures-at : TrialFigures = c.in_ok-figures.figures in
    let spare-fits : SFits w64 (figures-at).spare = record { sfits = c.struct_told-1.given.0.1 } in
    let room : length (trial_line (figures-at).spare (figures-at).over) ≤ length (zeros longest_trial) = omega (arith, trial_short (figures-at).spare (figures-at).over (nat_abs-le (figures-at).spare c.struct_told-1.given.0.1) c.struct_told-1.given.1.0.1) in
    rw (to_z-of_z {w = w64} (spare-fits)) (omega (arith, room))

pub slice_bounds-ready-end : goal.slice_bounds-ready-end
slice_bounds-ready-end c =
    let figures-at : TrialFigures = c.in_ok-figures.figures in
    let room : length (trial_line (figures-at).spare (figures-at).over) ≤ length (zeros longest_trial) = omega (arith, trial_short (figures-at).spare (figures-at).over (nat_abs-le (figures-at).spare c.struct_told-1.given.0.1) c.struct_told-1.given.1.0.1) in
    let spare-fits : SFits w64 (figures-at).spare = record { sfits = c.struct_told-1.given.0.1 } in
    ready_inside (zeros longest_trial) _ (room) _ _ (rw (to_z-of_z {w = w64} (spare-fits)) at c.put_trial_line-length.ensures)

pub slice_bounds-fill-end : goal.slice_bounds-fill-end
slice_bounds-fill-end c =
    let figures-at : TrialFigures = c.in_ok-figures.figures in
    let room : length (trial_line (figures-at).spare (figures-at).over) ≤ length (zeros longest_trial) = omega (arith, trial_short (figures-at).spare (figures-at).over (nat_abs-le (figures-at).spare c.struct_told-1.given.0.1) c.struct_told-1.given.1.0.1) in
    let spare-fits : SFits w64 (figures-at).spare = record { sfits = c.struct_told-1.given.0.1 } in
    ready_count (zeros longest_trial) _ (room) _ _ (rw (to_z-of_z {w = w64} (spare-fits)) at c.put_trial_line-length.ensures)

pub returns : goal.returns
returns c =
    let figures-at : TrialFigures = c.in_ok-figures.figures in
    let room : length (trial_line (figures-at).spare (figures-at).over) ≤ length (zeros longest_trial) = omega (arith, trial_short (figures-at).spare (figures-at).over (nat_abs-le (figures-at).spare c.struct_told-1.given.0.1) c.struct_told-1.given.1.0.1) in
    let spare-fits : SFits w64 (figures-at).spare = record { sfits = c.struct_told-1.given.0.1 } in
    let old = c.args.text.now in
    let all = found_fills _ _ old _ (sym c.trial_for.ensures ∙ ap says c.in_ok-figures.was) _ _
    (ready_fills (zeros longest_trial) _ (room) _ _ (rw (to_z-of_z {w = w64} (spare-fits)) at c.put_trial_line-length.ensures) old _ _ c.fill.ensures) in
    record { result_value = all.0; text_after = all.1 }

-- Each return is a case of the definition; the array holds the longest line, and its front is the line.
use Prim.Native.Nat.{◌≤◌}
use native.Mathlib.Omega.{arith}
use mathlib.Core.Path.{◌≡◌, sym, ap, ◌∙◌}
use lib.ListN.{length}
use Rattle.terms.specs.Answer.{figures}
use Rattle.causes.specs.Cause.{explain_says, explained_says}
use Rattle.encoding.specs.FillLaws.{found_fills}
use Rattle.text.specs.FittedLaws.{zeros, ready_count, ready_inside, ready_fills}
use Rattle.text.specs.LineLaws.{longest_explained}
use Rattle.services.specs.ServiceLaws.{explained-line-short}
use Rattle.services.specs.Services.{explain_for, explained_line}
use Rattle.services.proofs.explaining.explain_line.Goals as goal

pub put_explained-length-requires : goal.put_explained-length-requires
put_explained-length-requires c =
    let found : explain_for c.args.rate.0 c.args.order.now ≡ figures (explained_says c.in_ok-explained.explained) = sym c.explain_for.ensures ∙ ap explain_says c.in_ok-explained.was in
    let room : length (explained_line (explained_says c.in_ok-explained.explained)) ≤ length (zeros longest_explained) = omega (arith, explained-line-short _ _ _ (found)) in
    omega (arith, room)

pub slice_bounds-ready-end : goal.slice_bounds-ready-end
slice_bounds-ready-end c =
    let found : explain_for c.args.rate.0 c.args.order.now ≡ figures (explained_says c.in_ok-explained.explained) = sym c.explain_for.ensures ∙ ap explain_says c.in_ok-explained.was in
    let room : length (explained_line (explained_says c.in_ok-explained.explained)) ≤ length (zeros longest_explained) = omega (arith, explained-line-short _ _ _ (found)) in
    ready_inside (zeros longest_explained) _ (room) _ _ c.put_explained-length.ensures

pub slice_bounds-fill-end : goal.slice_bounds-fill-end
slice_bounds-fill-end c =
    let found : explain_for c.args.rate.0 c.args.order.now ≡ figures (explained_says c.in_ok-explained.explained) = sym c.explain_for.ensures ∙ ap explain_says c.in_ok-explained.was in
    let room : length (explained_line (explained_says c.in_ok-explained.explained)) ≤ length (zeros longest_explained) = omega (arith, explained-line-short _ _ _ (found)) in
    ready_count (zeros longest_explained) _ (room) _ _ c.put_explained-length.ensures

pub returns : goal.returns
returns c =
    let found : explain_for c.args.rate.0 c.args.order.now ≡ figures (explained_says c.in_ok-explained.explained) = sym c.explain_for.ensures ∙ ap explain_says c.in_ok-explained.was in
    let room : length (explained_line (explained_says c.in_ok-explained.explained)) ≤ length (zeros longest_explained) = omega (arith, explained-line-short _ _ _ (found)) in
    let old = c.args.text.now in
    let all = found_fills _ _ old _ (found) _ _
    (ready_fills (zeros longest_explained) _ (room) _ _ c.put_explained-length.ensures old _ _ c.fill.ensures) in
    record { result_value = all.0; text_after = all.1 }

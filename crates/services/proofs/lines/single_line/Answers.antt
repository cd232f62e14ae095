-- Each return is a case of the definition; the array holds the longest line, and its front is the line.
use Prim.Native.Nat.{◌≤◌}
use native.Mathlib.Omega.{arith}
use mathlib.Core.Path.{◌≡◌, sym, ap, ◌∙◌}
use lib.ListN.{length}
use Rattle.terms.specs.Answer.{figures}
use Rattle.terms.specs.Refusals.{says}
use Rattle.encoding.specs.FillLaws.{found_fills}
use Rattle.text.specs.FittedLaws.{zeros, ready_count, ready_inside, ready_fills}
use Rattle.text.specs.Lines.{single_line}
use Rattle.text.specs.LineLaws.{longest_single}
use Rattle.services.specs.Services.{single_for}
use Rattle.services.specs.ServiceLaws.{single_line-short}
use Rattle.services.proofs.lines.single_line.Goals as goal

pub put_single_line-length-requires : goal.put_single_line-length-requires
put_single_line-length-requires c =
    let found : single_for c.args.order.now ≡ figures c.in_ok-priced.priced = sym c.single_for.ensures ∙ ap says c.in_ok-priced.was in
    let room : length (single_line c.in_ok-priced.priced.bucket c.in_ok-priced.priced.cost) ≤ length (zeros longest_single) = omega (arith, single_line-short _ _ (found)) in
    omega (arith, room)

pub slice_bounds-ready-end : goal.slice_bounds-ready-end
slice_bounds-ready-end c =
    let found : single_for c.args.order.now ≡ figures c.in_ok-priced.priced = sym c.single_for.ensures ∙ ap says c.in_ok-priced.was in
    let room : length (single_line c.in_ok-priced.priced.bucket c.in_ok-priced.priced.cost) ≤ length (zeros longest_single) = omega (arith, single_line-short _ _ (found)) in
    ready_inside (zeros longest_single) _ (room) _ _ c.put_single_line-length.ensures

pub slice_bounds-fill-end : goal.slice_bounds-fill-end
slice_bounds-fill-end c =
    let found : single_for c.args.order.now ≡ figures c.in_ok-priced.priced = sym c.single_for.ensures ∙ ap says c.in_ok-priced.was in
    let room : length (single_line c.in_ok-priced.priced.bucket c.in_ok-priced.priced.cost) ≤ length (zeros longest_single) = omega (arith, single_line-short _ _ (found)) in
    ready_count (zeros longest_single) _ (room) _ _ c.put_single_line-length.ensures

pub returns : goal.returns
returns c =
    let found : single_for c.args.order.now ≡ figures c.in_ok-priced.priced = sym c.single_for.ensures ∙ ap says c.in_ok-priced.was in
    let room : length (single_line c.in_ok-priced.priced.bucket c.in_ok-priced.priced.cost) ≤ length (zeros longest_single) = omega (arith, single_line-short _ _ (found)) in
    let old = c.args.text.now in
    let all = found_fills _ _ old _ (found) _ _ (ready_fills (zeros longest_single) _ (room) _ _ c.put_single_line-length.ensures old _ _ c.fill.ensures) in
    record { result_value = all.0; text_after = all.1 }

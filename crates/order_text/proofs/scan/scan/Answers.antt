-- After each turn the cursor, the figures and the bytes from the place reached on give what the whole text gives.
use Prim.Native.Nat.{ℕ, ◌+◌, ◌<◌, ◌≤◌}
use native.Mathlib.Omega.{arith}
use mathlib.Core.Path.{◌≡◌, sym, ap, ◌∙◌}
use mathlib.Core.List.{List}
use borrow.Author.Rules.{part_to_end}
use lib.ListN.{length, get_or, drop, length-drop}
use Rattle.std.proofs.Common.{add_assoc, get_or-drop}
use Rattle.std.proofs.lemmas.Result.{err_from_is_err_and}
use Rattle.order_text.specs.Cursors.{scan_of}
use Rattle.order_text.specs.Text.{after_byte}
use Rattle.order_text.specs.CursorLaws.{scan_next, scan_fault, scan_end}
use Rattle.order_text.proofs.scan.scan.Goals as goal

-- the bytes behind the mark, as they stand in the text
module _ (text part : List ℕ) (front i : ℕ) (e : part ≡ drop front text) where
  inside : i < length part → front + i < length text
  inside l = omega (arith, ap length e, length-drop front text)

  past : length part ≤ i → length text ≤ front + i
  past l = omega (arith, ap length e, length-drop front text)

  byte_is : get_or part i 0 ≡ get_or text (front + i) 0
  byte_is = ap (λ (xs : List ℕ). get_or xs i 0) e ∙ get_or-drop front text i 0

pub returns-in_err-at-clause-figures_after : goal.returns-in_err-at-clause-figures_after
returns-in_err-at-clause-figures_after c =
    let text = c.args.text.now in
    let front = c.mark_length-front.result in
    let e = part_to_end text front in
    let i = c.loop-byte.byte-index in
    let b = ap (after_byte (scan_of c.loop-byte.at c.loop-byte.figures)) (byte_is text _ front i e) in
    let p = err_from_is_err_and c.from_residual.result c.from_residual.ensures.1 in
    rw (p.1, p.2)
    (scan_fault c.loop-byte.invariant (inside text _ front i e c.loop-byte-test.true) _ (c.in_err-at.ensures.figures_after ∙ b))

pub loop-byte-preserved : goal.loop-byte-preserved
loop-byte-preserved c =
    let text = c.args.text.now in
    let front = c.mark_length-front.result in
    let e = part_to_end text front in
    let i = c.loop-byte.byte-index in
    let b = ap (after_byte (scan_of c.loop-byte.at c.loop-byte.figures)) (byte_is text _ front i e) in
    rw (sym (add_assoc front i 1))
    (scan_next c.loop-byte.invariant (inside text _ front i e c.loop-byte-test.true) _ _ (c.in_ok-at.ensures.figures_after ∙ b)
    c.in_ok-at.ensures.step_fits c.after_byte.auto.figures)

pub returns-clause-figures_after : goal.returns-clause-figures_after
returns-clause-figures_after c =
    let text = c.args.text.now in
    let front = c.mark_length-front.result in
    scan_end c.loop-byte.invariant (past text _ front c.loop-byte.byte-index (part_to_end text front) c.loop-byte-test.false)

-- The word around the place reached begins where the one around the place asked does.
use Prim.Native.Nat.{ℕ, ◌-◌, ◌+◌, ◌<◌}
use native.Mathlib.Omega.{arith}
use mathlib.Core.Path.{◌≡◌, sym, ◌∙◌}
use mathlib.Core.List.{List}
use mathlib.Core.Bool.{Bool, true, false, cond, ◌||◌}
use lib.Dec.{eqb}
use Rattle.order_text.specs.Text.{mark_length, ends_figure, word_start}
use Rattle.order_text.specs.WordLaws.{start_is, start_inside}
use Rattle.order_text.proofs.words.word_start.Goals as goal
use lib.ListN.{get_or}

-- One byte back: what the two tests of the code come to decides where the word begins.
back : (text : List ℕ) (n front : ℕ) (ends t : Bool) → 0 < n → front ≡ mark_length text → ends ≡ ends_figure (get_or text (n - 1) 0)
    → eqb (n - 1 + 1) front || ends ≡ t → word_start text n ≡ cond t n (word_start text (n - 1))
back text n front ends t l e f h =
    let m : n - 1 + 1 ≡ n = omega arith in
    start_is text t n l (rw (← e, ← f, ← m) h)

pub returns-then-start-front : goal.returns-then-start-front
returns-then-start-front c =
    let at = c.loop-before in
    let e = back c.args.text.now at.before _ _ true c.loop-before-test.true c.mark_length-front.ensures c.ends_figure.ensures c.if-start-front.true in
    omega (arith, c.loop-before-test.true, e, at.invariant)

pub loop-before-preserved : goal.loop-before-preserved
loop-before-preserved c =
    let at = c.loop-before in
    let e = back c.args.text.now at.before _ _ false c.loop-before-test.true c.mark_length-front.ensures c.ends_figure.ensures c.if-start-front.false in
    sym e ∙ at.invariant

pub returns : goal.returns
returns c =
    let at = c.loop-before in
    omega (arith, at.invariant, start_inside c.args.text.now at.before, c.loop-before-test.false)

-- The word begins inside the text.
use native.Mathlib.Omega.{arith}
use native.Mathlib.Nat.{min-le_right}
use lib.ListN.{length}
use Rattle.order_text.specs.WordLaws.{start_inside}
use Rattle.order_text.proofs.words.word_around.Goals as goal

pub word_end-end-requires : goal.word_end-end-requires
word_end-end-requires c =
    let text = c.args.text.now in
    let inside = start_inside text c.min.result in
    omega (arith, inside, c.word_start-start.ensures, c.min.ensures, min-le_right c.args.place (length text))

-- The bytes of the numbers from the one reached on are left to be stored.
use Rattle.encoding.specs.NumberLaws.{length-bytes}
use Rattle.encoding.specs.StoreLaws.{put_next, put_end}
use Rattle.encoding.proofs.numbers.put_words.Goals as goal

pub loop-word-preserved : goal.loop-word-preserved
loop-word-preserved g c =
    let x = c.word-item.result in
    rw c.SIZE-next.ensures
    (put_next _ _ _ _ _ c.loop-word.invariant x x c.loop-word-test.true c.word-item.is (length-bytes g.T.Word.SIZE _) _
    (rw (c.SIZE.ensures, c.to_u64.ensures) at c.put_number.ensures))

pub returns : goal.returns
returns g c = put_end _ _ _ _ _ c.loop-word.invariant c.loop-word-test.false

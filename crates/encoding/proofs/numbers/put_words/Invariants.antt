-- The bytes of the numbers from the one reached on are left to be stored.
use Rattle.encoding.specs.Number.{bytes_of}
use Rattle.encoding.specs.StoreLaws.{Putting}
use Rattle.encoding.proofs.numbers.put_words.Given as goal

abbrev pub invariant-loop-word : goal.invariant-loop-word
invariant-loop-word g l =
    Putting (λ n. bytes_of g.T.Word.SIZE (g.T.Word.number n)) g.T.Word.SIZE l.initial.bytes l.at l.words l.bytes l.next l.word-index

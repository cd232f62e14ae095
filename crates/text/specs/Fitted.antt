-- A text in the room that is lent for it (01, "Refusals by number": bytes fewer than the text).
-- Assumes nothing.
use Rattle.std.specs.Prelude.{ℕ, List, leb, length}
use Rattle.terms.specs.Answer.{Answer, figures, weigh}

-- 6: the room is less than the text's length.
abbrev pub fitted : ℕ → List ℕ → Answer (List ℕ)
fitted room text = weigh (leb (length text) room) 6 (figures text)

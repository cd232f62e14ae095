-- Where the parts of a file lie, as its header says it (01, "The two files"; refusal 4).
-- Assumes nothing.
use Rattle.std.specs.Prelude.{ℕ, ◌+◌, ◌≡◌, Bool, ◌&&◌, List, eqb, length}
use Rattle.encoding.specs.Number.{number_at}

-- The header has from `at` on the offsets of two parts and the file's length. Each is what the counts give, and the
-- bytes are that many.
abbrev pub placed_as : ℕ → ℕ → ℕ → ℕ → List ℕ → Bool
placed_as at first second size bs = eqb (number_at 4 bs at) first && eqb (number_at 4 bs (at + 4)) second && eqb (number_at 4 bs (at + 8)) size && eqb (length bs) size

-- The same as equations, a field for each.
pub record Placed (at first second size : ℕ) (bs : List ℕ) : Type 0 where
  pub first_offset : number_at 4 bs at ≡ first
  pub second_offset : number_at 4 bs (at + 4) ≡ second
  pub file_length : number_at 4 bs (at + 8) ≡ size
  pub bytes : length bs ≡ size

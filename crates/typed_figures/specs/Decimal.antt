-- Decimal digits, and the number that a word of them stands for.
-- Assumes nothing.
use Rattle.std.specs.Prelude.{ℕ, ◌+◌, ◌-◌, ◌*◌, Bool, cond, ◌&&◌, List, [], ◌∷◌, leb, Option, Some, None}
use Rattle.terms.specs.Answer.{Answer, figures, refused, weigh}

-- the bytes `0` to `9`
abbrev pub is_digit : ℕ → Bool
is_digit b = leb 48 b && leb b 57

-- A number with one more digit behind it, …
abbrev pub appended : ℕ → ℕ → ℕ
appended v b = v * 10 + (b - 48)

-- … or none where this is above the limit.
abbrev pub pushed : ℕ → ℕ → ℕ → Option ℕ
pushed limit v b = let n = appended v b in cond (leb n limit) (Some n) None

-- the greatest number of 32 bits
abbrev pub number_limit : ℕ
number_limit = 4294967295

-- The number that digits stand for behind those of v. 5 (01, "Refusals by number": a figure breaks its rule): a byte
-- that is no digit, or a number above 32 bits.
unfoldable pub number_from : ℕ → List ℕ → Answer ℕ
number_from v [] = figures v
number_from v (b ∷ bs) = weigh (is_digit b) 5 (weigh (leb (appended v b) number_limit) 5 (number_from (appended v b) bs))

-- The number that a word stands for: one or more digits and nothing else.
abbrev pub number_in : List ℕ → Answer ℕ
number_in [] = refused 5
number_in (b ∷ bs) = number_from 0 (b ∷ bs)

-- What a number's call says, in document 01's values and numbers.
abbrev pub number_says : Option ℕ → Answer ℕ
number_says (Some n) = figures n
number_says None = refused 5

-- Numbers in decimal, in ASCII (01, "The printed sheet": no leading zeros, 0 if there is none).
-- Assumes nothing.
use Rattle.std.specs.Prelude.{ℕ, zero, suc, ◌+◌, ◌/◌, ◌%◌, cond, List, [], ◌∷◌, ◌++◌, ltb}

-- The byte of a digit.
abbrev pub digit : ℕ → ℕ
digit d = 48 + d

-- The last k digits of a number, zeros in front.
unfoldable pub digits : ℕ → ℕ → List ℕ
digits zero n = []
digits (suc k) n = digits k (n / 10) ++ (digit (n % 10) ∷ [])

-- A number below 10 is its digit; any other is its tenth part, rounded down, and then its last digit. The first
-- argument counts how many digits more there may be.
unfoldable pub numeral_in : ℕ → ℕ → List ℕ
numeral_in zero n = digit n ∷ []
numeral_in (suc more) n = cond (ltb n 10) (digit n ∷ []) (numeral_in more (n / 10) ++ (digit (n % 10) ∷ []))

-- A number of 64 bits has at most 20 digits.
abbrev pub numeral : ℕ → List ℕ
numeral n = numeral_in 19 n

-- A field and the byte behind it.
abbrev pub ended : List ℕ → ℕ → List ℕ
ended xs b = xs ++ (b ∷ [])

-- A signed figure in megabits (01, "The printed sheet"), and the figure that such a text names.
-- Assumes nothing.
use Rattle.std.specs.Prelude.{ℕ, ◌+◌, ◌-◌, ◌*◌, ◌/◌, cond, List, [], ◌∷◌, ◌++◌, eqb, ltb, ℤ, pos, negsuc, nat_abs, neg_ℤ}
use Rattle.text.specs.Numeral.{digits, ended, numeral}

-- The bytes `-` and `.`.
abbrev pub minus : ℕ
minus = 45

abbrev pub point : ℕ
point = 46

-- A minus sign exactly when the figure is below 0.
abbrev pub sign : ℤ → List ℕ
sign (pos n) = []
sign (negsuc n) = minus ∷ []

-- The sign, the whole part with no leading zeros (0 if there is none), a point, three digits.
abbrev pub megabits : ℤ → List ℕ
megabits z = sign z ++ ended (numeral (nat_abs z / 1000)) point ++ digits 3 (nat_abs z)

-- The number that decimal digits stand for, read on from what those before them stand for; other bytes are passed over.
unfoldable pub value_from : ℕ → List ℕ → ℕ
value_from n [] = n
value_from n (b ∷ bs) = cond (ltb b 48) (value_from n bs) (value_from (10 * n + (b - 48)) bs)

-- The figure that a text names.
abbrev pub named : List ℕ → ℤ
named [] = pos 0
named (b ∷ bs) = cond (eqb b minus) (neg_ℤ (pos (value_from 0 bs))) (pos (value_from 0 (b ∷ bs)))

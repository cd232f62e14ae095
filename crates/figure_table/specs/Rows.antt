-- A row of the table of figures (01, "Figures to hold the definitions to"), and what it is for a table to hold.
-- Assumes nothing.
use Rattle.std.specs.Prelude.{◌≡◌, List, [], ◌∷◌, ℤ}
use Rattle.terms.specs.Answer.{Answer}

-- What the definitions give, and what document 01 says: figures as signed numbers, or a refusal.
pub record Row : Type 0 where
  pub given : Answer (List ℤ)
  pub paper : Answer (List ℤ)

-- Every row gives what the paper says.
abbrev pub Hold : List Row → Type 0
Hold [] = Unit
Hold (x ∷ xs) = (x.given ≡ x.paper) × Hold xs

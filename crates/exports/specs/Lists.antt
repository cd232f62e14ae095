-- Bucket records in three number lists, a list for each figure: the form in which `metqoraz_plan` hands a plan over.
-- Assumes nothing.
use Rattle.std.specs.Prelude.{ℕ, min, ◌≡◌, List, map, length}
use Rattle.terms.specs.declared.BucketRecord.{BucketRecord}
use Rattle.terms.specs.Answer.{Answer, on_figures}
use Rattle.terms.specs.Lent.{filled}
use Rattle.terms.specs.Records.{Cutting, run_length, run_rate, run_depth}

-- The room of three lists: the entries of the shortest.
abbrev pub room_of : List ℕ → List ℕ → List ℕ → ℕ
room_of xs ys zs = min (min (length xs) (length ys)) (length zs)

-- A list with one figure of each record of an answer at its front; on a refusal it is as it was.
abbrev pub recorded : (BucketRecord → ℕ) → Answer Cutting → List ℕ → List ℕ
recorded figure a old = filled (on_figures (map figure) a) old

-- Three lists, and the same by its parts, for contracts.
pub record RecordLists : Type 0 where
  pub runs : List ℕ
  pub rates : List ℕ
  pub depths : List ℕ

abbrev pub lists : List ℕ → List ℕ → List ℕ → RecordLists
lists xs ys zs = record { runs = xs; rates = ys; depths = zs }

-- What three lists hold that an answer's records were stored in.
abbrev pub Filled : Answer Cutting → RecordLists → RecordLists → Type 0
Filled a old new =
    (new.runs ≡ recorded run_length a old.runs) × ((new.rates ≡ recorded run_rate a old.rates) × (new.depths ≡ recorded run_depth a old.depths))

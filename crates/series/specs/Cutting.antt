-- Periods cut into runs with something chosen for each run, whatever that is (01, "Series"). All that is known of a
-- choice x is the length of its run, `periods x`, and its price, `price x`.
-- Assumes nothing.
use Rattle.std.specs.Prelude.{ℕ, zero, suc, ◌≤◌, ◌≡◌, Bool, true, false, List, [], ◌∷◌, length, take, drop, get_or}
use Rattle.terms.specs.Records.{total}
use Rattle.terms.specs.Answer.{Answer, figures, refused, choose}
use Rattle.single.specs.Preference.{smaller}

-- x is a choice for the first run of the periods: the run has one or more of them, and x fits it.
pub record FirstRun {X : Type 0} (periods : X → ℕ) (Fits : List ℕ → X → Type 0) (ds : List ℕ) (x : X) : Type 0 where
  pub some : 1 ≤ periods x
  pub inside : periods x ≤ length ds
  pub fits : Fits (take (periods x) ds) x

-- The runs make up the periods in their order, and each choice fits its run.
pub data Cuts {X : Type 0} (periods : X → ℕ) (Fits : List ℕ → X → Type 0) : List ℕ → List X → Type 0 where
  none : Cuts periods Fits [] []
  run : {ds : List ℕ} {x : X} {xs : List X} → FirstRun periods Fits ds x → Cuts periods Fits (drop (periods x) ds) xs
      → Cuts periods Fits ds (x ∷ xs)

-- x is the `choice` for a run.
abbrev pub Matches : {X : Type 0} → (List ℕ → Answer X) → List ℕ → X → Type 0
Matches choice es x = choice es ≡ figures x

-- The runs make up the periods in their order, and each has its own `choice`.
abbrev pub Choices : {X : Type 0} → (X → ℕ) → (List ℕ → Answer X) → List ℕ → List X → Type 0
Choices periods choice = Cuts periods (Matches choice)

-- The longer first run, then the longer second run, and so on.
unfoldable pub longer : {X : Type 0} → (X → ℕ) → List X → List X → Bool
longer periods [] ys = false
longer periods (x ∷ xs) [] = true
longer periods (x ∷ xs) (y ∷ ys) = smaller (periods y) (periods x) (longer periods xs ys)

-- xs wins over ys: less cost, then fewer runs, then the longer first run, the longer second and so on.
unfoldable pub wins : {X : Type 0} → (X → ℕ) → (X → ℕ) → List X → List X → Bool
wins periods price xs ys =
    smaller (total price xs) (total price ys) (smaller (length xs) (length ys) (longer periods xs ys))

-- The length of the first run; of no run 0.
abbrev pub first_run : {X : Type 0} → (X → ℕ) → List X → ℕ
first_run periods [] = 0
first_run periods (x ∷ xs) = periods x

-- The choice for a run and those for what follows it, where there are both.
abbrev pub joined : {X : Type 0} → Answer X → Answer (List X) → Answer (List X)
joined (figures x) (figures xs) = figures (x ∷ xs)
joined (figures x) (refused n) = refused n
joined (refused n) rest = refused n

-- The best cutting where each run has its own `choice`. That no other does better, whatever is chosen for its runs,
-- is a law (`CuttingLaws.bests_are`).
module _ {X : Type 0} (periods price : X → ℕ) (choice : List ℕ → Answer X) where
  -- The best of the cuttings that begin with a run of 1, 2, .. or k periods. What follows the run is in the list
  -- `rests`: the best for what is left after 1, 2, .. periods.
  unfoldable pub best_first : List ℕ → List (Answer (List X)) → ℕ → Answer (List X)
  best_first ds rests zero = refused 7
  best_first ds rests (suc k) =
      choose (wins periods price) (best_first ds rests k) (joined (choice (take (suc k) ds)) (get_or rests k (refused 7)))

  -- The best cutting of the periods, and of what is left after 1, 2, .. and all of them.
  unfoldable pub bests : List ℕ → List (Answer (List X))
  bests [] = figures [] ∷ []
  bests (d ∷ ds) = let rests = bests ds in best_first (d ∷ ds) rests (length (d ∷ ds)) ∷ rests

  -- The best cutting of the periods.
  abbrev pub best : List ℕ → Answer (List X)
  best ds = get_or (bests ds) 0 (refused 7)

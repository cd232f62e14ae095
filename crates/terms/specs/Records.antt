-- Bucket records: what a plan holds for each run (01, "Series"; "The two files").
-- Assumes nothing.
use Rattle.std.specs.Prelude.{ℕ, ◌+◌, List, [], ◌∷◌}
use Rattle.terms.specs.declared.BucketRecord.{BucketRecord}

-- A cutting, document 01's term: for each run, first to last, its length, rate and depth.
abbrev pub Cutting : Type 0
Cutting = List BucketRecord

-- The record of a run length, a rate and a depth.
abbrev pub record_of : ℕ → ℕ → ℕ → BucketRecord
record_of n r B = record { periods = n; bucket = record { rate = record { 0 = r }; depth = record { 0 = B } } }

abbrev pub run_length : BucketRecord → ℕ
run_length x = x.periods

abbrev pub run_rate : BucketRecord → ℕ
run_rate x = x.bucket.rate.0

abbrev pub run_depth : BucketRecord → ℕ
run_depth x = x.bucket.depth.0

-- The sum of a figure over a list.
unfoldable pub total : {X : Type 0} → (X → ℕ) → List X → ℕ
total figure [] = 0
total figure (x ∷ xs) = figure x + total figure xs

-- Each item of a list is Ok.
abbrev pub Each : {X : Type 0} → (X → Type 0) → List X → Type 0
Each Ok [] = Unit {0}
Each Ok (x ∷ xs) = Ok x × Each Ok xs

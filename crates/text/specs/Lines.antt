-- The lines of the printed sheet (01, "The printed sheet": one space between fields, byte 10 after each line), and a
-- line each for the trial, the single bucket, a check (02, job 1), a depth (02, job 2), also with what sets it (02,
-- job 3), and a refusal.
-- Assumes nothing.
use Rattle.std.specs.Prelude.{ℕ, List, [], ◌∷◌, ◌++◌, ℤ, pos}
use Rattle.terms.specs.declared.Bucket.{Bucket}
use Rattle.text.specs.Numeral.{numeral, ended}
use Rattle.text.specs.Megabits.{megabits}

abbrev pub space : ℕ
space = 32

abbrev pub newline : ℕ
newline = 10

-- ---- Words

abbrev pub plan_word : List ℕ
plan_word = 112 ∷ 108 ∷ 97 ∷ 110 ∷ []

abbrev pub refused_word : List ℕ
refused_word = 114 ∷ 101 ∷ 102 ∷ 117 ∷ 115 ∷ 101 ∷ 100 ∷ []

abbrev pub trial_word : List ℕ
trial_word = 116 ∷ 114 ∷ 105 ∷ 97 ∷ 108 ∷ []

abbrev pub single_word : List ℕ
single_word = 115 ∷ 105 ∷ 110 ∷ 103 ∷ 108 ∷ 101 ∷ []

abbrev pub depth_word : List ℕ
depth_word = 100 ∷ 101 ∷ 112 ∷ 116 ∷ 104 ∷ []

abbrev pub nothing_word : List ℕ
nothing_word = 110 ∷ 111 ∷ 116 ∷ 104 ∷ 105 ∷ 110 ∷ 103 ∷ []

abbrev pub opening_word : List ℕ
opening_word = 111 ∷ 112 ∷ 101 ∷ 110 ∷ 105 ∷ 110 ∷ 103 ∷ []

abbrev pub stretch_word : List ℕ
stretch_word = 115 ∷ 116 ∷ 114 ∷ 101 ∷ 116 ∷ 99 ∷ 104 ∷ []

abbrev pub yes_word : List ℕ
yes_word = 121 ∷ 101 ∷ 115 ∷ []

abbrev pub no_word : List ℕ
no_word = 110 ∷ 111 ∷ []

-- ---- Lines

-- The first line: the word plan, T, bucket count, cost. The cost is a plain number.
abbrev pub plan_line : ℕ → ℕ → ℕ → List ℕ
plan_line periods buckets cost = ended plan_word space ++ ended (numeral periods) space ++ ended (numeral buckets) space ++ ended (numeral cost) newline

-- Rate and depth, in megabits.
abbrev pub bucket_fields : Bucket → List ℕ
bucket_fields b = ended (megabits (pos b.rate.0)) space ++ ended (megabits (pos b.depth.0)) space

-- A bucket's line: first period, last period, rate, depth, spare, the last three in megabits.
abbrev pub bucket_line : ℕ → ℕ → Bucket → ℤ → List ℕ
bucket_line first last b spare = ended (numeral first) space ++ ended (numeral last) space ++ bucket_fields b ++ ended (megabits spare) newline

-- A word, a space and a plain number.
abbrev pub number_line : List ℕ → ℕ → List ℕ
number_line word number = ended word space ++ ended (numeral number) newline

-- The word refused, a space and the number.
abbrev pub refusal_line : ℕ → List ℕ
refusal_line = number_line refused_word

-- A trial: the word trial, spare and discards, both in megabits.
abbrev pub trial_line : ℤ → ℕ → List ℕ
trial_line spare over = ended trial_word space ++ ended (megabits spare) space ++ ended (megabits (pos over)) newline

-- The single bucket: the word single, rate and depth in megabits, cost.
abbrev pub single_line : Bucket → ℕ → List ℕ
single_line b cost = ended single_word space ++ bucket_fields b ++ ended (numeral cost) newline

-- A depth: the word depth, a space and the depth in megabits; then a byte.
abbrev pub depth_fields : ℕ → ℕ → List ℕ
depth_fields depth after = ended depth_word space ++ ended (megabits (pos depth)) after

-- … as a line of its own.
abbrev pub depth_line : ℕ → List ℕ
depth_line depth = depth_fields depth newline

-- What sets a depth, behind it on its line: the word nothing; the word opening and its number of periods; the word
-- stretch, its first period and its last.
abbrev pub nothing_fields : List ℕ
nothing_fields = ended nothing_word newline

abbrev pub opening_fields : ℕ → List ℕ
opening_fields = number_line opening_word

abbrev pub stretch_fields : ℕ → ℕ → List ℕ
stretch_fields first last = ended stretch_word space ++ ended (numeral first) space ++ ended (numeral last) newline

-- A check that ends with yes: the word yes, a space and the excess, a plain number as the cost is.
abbrev pub yes_line : ℕ → List ℕ
yes_line = number_line yes_word

-- One that ends with no.
abbrev pub no_line : List ℕ
no_line = ended no_word newline

-- How long the lines are.
-- Assumes nothing.
use Rattle.std.specs.Prelude.{ℕ, ◌+◌, ◌^◌, ◌≤◌, ◌<◌, ◌≡◌, ◌++◌, ℤ, pos, nat_abs, length}
use Rattle.std.proofs.Common.{arith, length-append}
use Rattle.terms.specs.declared.Bucket.{Bucket}
use Rattle.terms.specs.declared.refusal.Refusal.{Refusal}
use Rattle.terms.specs.declared.refusal.Refusal.TheVariants.{Short, Foreign, Periods, Misplaced, Figure, List, NoPlan, Meter, Full, Unequal}
use Rattle.terms.specs.Limits.{depth_limit, trace_limit}
use Rattle.terms.specs.RangeRules.{BucketRange}
use Rattle.terms.specs.Refusals.{number_of}
use Rattle.text.specs.Numeral.{numeral, ended}
use Rattle.text.specs.Megabits.{megabits}
use Rattle.text.specs.Lines.{newline, space, depth_fields, depth_line, depth_word, no_line, nothing_fields, opening_fields, opening_word, refusal_line, refused_word, single_line, single_word, stretch_fields, stretch_word, trial_line, trial_word, yes_line, yes_word}
use Rattle.text.specs.NumeralLaws.{numeral-short}
use Rattle.text.specs.MegabitsLaws.{megabits-short, figure_short}
use Rattle.text.specs.PutLaws.{ended-length}

-- ---- A refusal

-- The bytes beside the number's digits: the word, the space and the newline.
pub refusal_length : (n : ℕ) → length (refusal_line n) ≡ 9 + length (numeral n)
refusal_length n = omega (arith, length-append (ended refused_word space) (ended (numeral n) newline), ended-length (numeral n) newline)

-- The longest line of a refusal, of any number of 32 bits.
abbrev pub longest_refusal : ℕ
longest_refusal = 19

pub refusal_short : (n : ℕ) → n < 2 ^ 32 → length (refusal_line n) ≤ longest_refusal
refusal_short n h = omega (arith, refusal_length n, numeral-short 19 9 n (omega (arith, h)))

-- Every refusal has such a number.
pub refusals_short : (x : Refusal) → length (refusal_line (number_of x)) ≤ longest_refusal
refusals_short x = refusal_short (number_of x) (small x)
  where
    small : (y : Refusal) → number_of y < 2 ^ 32
    small Short = omega arith
    small Foreign = omega arith
    small Periods = omega arith
    small Misplaced = omega arith
    small Figure = omega arith
    small List = omega arith
    small NoPlan = omega arith
    small Meter = omega arith
    small Full = omega arith
    small Unequal = omega arith

-- ---- A trial: the spare has 64 bits and the discards have 32

abbrev pub longest_trial : ℕ
longest_trial = 40

pub trial_short : (spare : ℤ) (over : ℕ) → nat_abs spare ≤ 2 ^ 63 → over < 2 ^ 32 → length (trial_line spare over) ≤ longest_trial
trial_short spare over h k =
    let e₁ = ended trial_word space in
    let e₂ = ended (megabits spare) space in
    let e₃ = ended (megabits (pos over)) newline in
    omega (
      arith,
      length-append (e₁ ++ e₂) e₃,
      length-append e₁ e₂,
      ended-length (megabits spare) space,
      ended-length (megabits (pos over)) newline,
      figure_short spare h,
      megabits-short (pos over) 6 (omega (arith, k)),
    )

-- ---- A single bucket in its range

abbrev pub longest_single : ℕ
longest_single = 37

pub single_short : (b : Bucket) (cost : ℕ) → BucketRange b → cost < 10 ^ 14 → length (single_line b cost) ≤ longest_single
single_short b cost h l =
    let r = pos b.rate.0 in
    let d = pos b.depth.0 in
    let e₁ = ended single_word space in
    let e₂ = ended (megabits r) space in
    let e₃ = ended (megabits d) space in
    let e₄ = ended (numeral cost) newline in
    omega (
      arith,
      length-append (e₁ ++ (e₂ ++ e₃)) e₄,
      length-append e₁ (e₂ ++ e₃),
      length-append e₂ e₃,
      ended-length (megabits r) space,
      ended-length (megabits d) space,
      ended-length (numeral cost) newline,
      megabits-short r 0 (omega (arith, h.rates)),
      megabits-short d 3 (omega (arith, h.depths)),
      numeral-short 19 13 cost l,
    )

-- ---- A depth of 32 bits

-- The bytes beside the figure: the word, the space and the byte behind it.
depth-length : (depth after : ℕ) → length (depth_fields depth after) ≡ 7 + length (megabits (pos depth))
depth-length depth after = omega (arith, length-append (ended depth_word space) (ended (megabits (pos depth)) after), ended-length (megabits (pos depth)) after)

abbrev pub longest_depth : ℕ
longest_depth = 18

pub depth-short : (depth : ℕ) → depth < 2 ^ 32 → length (depth_line depth) ≤ longest_depth
depth-short depth h = omega (arith, depth-length depth newline, megabits-short (pos depth) 6 (omega (arith, h)))

-- ---- A depth in its range with what sets it: periods of a trace

abbrev pub longest_explained : ℕ
longest_explained = 31

abbrev pub longest_cause : ℕ
longest_cause = 16

pub front-short : (depth : ℕ) → depth ≤ depth_limit → length (depth_fields depth space) + longest_cause ≤ longest_explained
front-short depth h = omega (arith, depth-length depth space, megabits-short (pos depth) 3 (omega (arith, h)))

pub nothing-short : length nothing_fields ≤ longest_cause
nothing-short = omega arith

pub opening-short : (v : ℕ) → v ≤ trace_limit → length (opening_fields v) ≤ longest_cause
opening-short v h =
    let e₁ = ended opening_word space in
    let e₂ = ended (numeral v) newline in
    omega (arith, length-append e₁ e₂, ended-length (numeral v) newline, numeral-short 19 2 v (omega (arith, h)))

pub stretch-short : (u v : ℕ) → u ≤ trace_limit → v ≤ trace_limit → length (stretch_fields u v) ≤ longest_cause
stretch-short u v h k =
    let e₁ = ended stretch_word space in
    let e₂ = ended (numeral u) space in
    let e₃ = ended (numeral v) newline in
    omega (
      arith,
      length-append (e₁ ++ e₂) e₃,
      length-append e₁ e₂,
      ended-length (numeral u) space,
      ended-length (numeral v) newline,
      numeral-short 19 2 u (omega (arith, h)),
      numeral-short 19 2 v (omega (arith, k)),
    )

-- ---- A check: the excess has 64 bits

abbrev pub longest_verdict : ℕ
longest_verdict = 25

pub yes-short : (excess : ℕ) → excess < 2 ^ 64 → length (yes_line excess) ≤ longest_verdict
yes-short excess h =
    let e₁ = ended yes_word space in
    let e₂ = ended (numeral excess) newline in
    omega (arith, length-append e₁ e₂, ended-length (numeral excess) newline, numeral-short 19 19 excess (omega (arith, h)))

pub no_short : length no_line ≤ longest_verdict
no_short = omega arith

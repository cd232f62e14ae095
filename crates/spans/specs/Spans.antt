-- Spans of rates, and what a line leaves of one.
-- Assumes nothing.
use Rattle.std.specs.Prelude.{ℕ, ◌+◌, ◌*◌, ◌≤◌, ◌<◌, ◌≡◌}
use Rattle.terms.specs.Limits.{rate_limit}
use Rattle.spans.specs.declared.spans.Span.{Span}

-- What bounds how much a line rises with the rate, and what is added to that.
abbrev pub slope_limit : ℕ
slope_limit = 100000000000

abbrev pub line_limit : ℕ
line_limit = 10000000000000000

pub record SpanRange (s : Span) : Type 0 where
  pub ordered : s.lo ≤ s.hi
  pub within : s.hi ≤ rate_limit + 1

-- The rate x is in the span.
pub record In (s : Span) (x : ℕ) : Type 0 where
  pub from : s.lo ≤ x
  pub below : x < s.hi

-- The new span is inside the old one, and no rate that the test allows is dropped.
pub record Kept (allows : ℕ → Type 0) (old new : Span) : Type 0 where
  pub ordered : new.lo ≤ new.hi
  pub low : old.lo ≤ new.lo
  pub high : new.hi ≤ old.hi
  pub kept : (x : ℕ) → In old x → allows x → In new x

-- No rate x with a x + b ≤ c + d x is dropped.
abbrev pub Cut : ℕ → ℕ → ℕ → ℕ → Span → Span → Type 0
Cut a b c d = Kept (λ x. a * x + b ≤ c + d * x)

-- x is another rate.
abbrev pub Other : ℕ → ℕ → Type 0
Other rate x = x ≡ rate → ⊥

-- The rate is not the first of the span.
abbrev pub Gone : ℕ → Span → Type 0
Gone rate s = s.lo ≡ rate → s.hi ≤ s.lo

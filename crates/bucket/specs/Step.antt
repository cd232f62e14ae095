-- One period of the discrete token bucket, as 01 words it ("The bucket"): rate r, depth B, y tokens held, demand d.
-- The report has the same three steps in section 2.2: r new tokens, one token for each unit sent, and what is left is
-- stored up to the depth. The library's `-` stops at 0; no difference here does, since sent is at most d and at most
-- y + r, and what is held next is at most what is left.
-- Assumes nothing.
use Rattle.std.specs.Prelude.{ℕ, ◌+◌, ◌-◌, ◌*◌, ◌/◌, min}
use Rattle.bucket.specs.declared.period.Period.{Period}

-- A fresh bucket holds p × B / q tokens, rounded down (the report's δ · B; `◌/◌` rounds down).
unfoldable pub start_of : ℕ → ℕ → ℕ → ℕ
start_of p q B = p * B / q

-- sent = the smaller of d and y + r
abbrev pub sent : ℕ → ℕ → ℕ → ℕ
sent r y d = min d (y + r)

-- over = d − sent, what the provider discards ("over" is document 01's word)
abbrev pub over : ℕ → ℕ → ℕ → ℕ
over r y d = d - sent r y d

-- left = y + r − sent
abbrev pub left : ℕ → ℕ → ℕ → ℕ
left r y d = y + r - sent r y d

-- tokens held next = the smaller of B and left
abbrev pub held : ℕ → ℕ → ℕ → ℕ → ℕ
held r B y d = min B (left r y d)

-- lost = left minus those
abbrev pub lost : ℕ → ℕ → ℕ → ℕ → ℕ
lost r B y d = left r y d - held r B y d

-- One period, whole.
abbrev pub period_of : ℕ → ℕ → ℕ → ℕ → Period
period_of r B y d = record { sent = sent r y d; over = over r y d; lost = lost r B y d; held = held r B y d }

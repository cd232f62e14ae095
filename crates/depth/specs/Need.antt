-- The tokens needed before a period, worked from the end of a trace (02, job 2). In no promise of a call: that a bucket
-- carries a trace exactly when it meets these needs, and that a walk works them out, are laws (`NeedLaws`).
-- Assumes nothing.
use Rattle.std.specs.Prelude.{ℕ, ◌+◌, ◌-◌, List, [], ◌∷◌}

-- Before the first of some periods at rate r: its demand minus the rate plus the need after it, never below 0 (the
-- library's `-` stops there). After the last period nothing is needed.
unfoldable pub need_before : ℕ → List ℕ → ℕ
need_before r [] = 0
need_before r (d ∷ ds) = d + need_before r ds - r

-- The depth at a rate (01, "Depth at a rate"; refusals 3, 5 and 7), also of a trace in archive order (02, job 2).
-- Assumes nothing.
use Rattle.std.specs.Prelude.{ℕ, zero, suc, Bool, cond, ◌&&◌, List, Result, reverse, leb, length}
use Rattle.terms.specs.declared.Depth.{Depth}
use Rattle.terms.specs.declared.Tariff.{Tariff}
use Rattle.terms.specs.declared.refusal.Refusal.{Refusal}
use Rattle.terms.specs.Answer.{Answer, figures, refused, weigh, on_figures}
use Rattle.terms.specs.Refusals.{says}
use Rattle.terms.specs.Ranges.{periods_ok, tariff_ok}
use Rattle.bucket.specs.Trace.{carries}

-- The first of the n numbers b, b + 1, .. that passes a test, or refusal 7. (What a `let` binds is worked out only if
-- it is asked for, so the search ends where it finds.)
unfoldable pub first_from : (ℕ → Bool) → ℕ → ℕ → Answer ℕ
first_from test zero b = refused 7
first_from test (suc n) b = let rest = first_from test n (suc b) in cond (test b) (figures b) rest

-- The smallest depth, at most the depth cap, that carries the trace at rate r: the first of 0, 1, .. cap that does.
abbrev pub least_depth : ℕ → ℕ → ℕ → ℕ → List ℕ → Answer ℕ
least_depth p q cap r ds = first_from (λ B. carries p q r B ds) (suc cap) 0

-- The same with a tariff's factor and depth cap.
abbrev pub tariff_depth : Tariff → ℕ → List ℕ → Answer ℕ
tariff_depth t r ds = least_depth t.factor.p t.factor.q t.depth_cap.0 r ds

-- A tariff figure out of its range, or a rate above the rate cap, is 5.
abbrev pub rate_ok : Tariff → ℕ → Bool
rate_ok t r = tariff_ok t && leb r t.rate_cap.0

-- 3: the trace's length; 5: the tariff or the rate; 7: no depth.
unfoldable pub depth_of : Tariff → ℕ → List ℕ → Answer ℕ
depth_of t r ds = weigh (periods_ok (length ds)) 3 (weigh (rate_ok t r) 5 (tariff_depth t r ds))

-- The same of a trace in archive order, last period first: the depth of the list turned round.
abbrev pub depth_from_end : Tariff → ℕ → List ℕ → Answer ℕ
depth_from_end t r list = depth_of t r (reverse list)

-- What a depth call says: the depth as a number, or the number of its refusal.
abbrev pub depth_says : Result Depth Refusal → Answer ℕ
depth_says r = on_figures (λ B. B.0) (says r)

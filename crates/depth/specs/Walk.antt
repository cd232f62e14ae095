-- One walk through a trace at rate r, first period to last, after the report's (31) to (33), and the depth read off it.
-- The report's stretches begin at period 2 or later. Those that begin at period 1 are let in here: they ask for no more
-- than the opening does, since a fresh bucket holds at most its depth. So no period is special. That the depth read off
-- is the smallest that carries is a law (`DepthLaws.depth-walk`).
-- Assumes nothing.
use Rattle.std.specs.Prelude.{ℕ, ◌+◌, ◌-◌, ◌*◌, ◌/◌, max, Bool, cond, ◌&&◌, leb}
use mathlib.Core.List.{List, foldl}
use Rattle.terms.specs.Answer.{Answer, figures, refused}
use Rattle.depth.specs.declared.walk.Walk.{Walk}

-- Before any period.
abbrev pub started : Walk
started = record { sum = 0; gained = 0; opening = 0; ending = 0; stretch = 0 }

-- One period more, with demand d. The library's `-` stops at 0, which is what each need does.
unfoldable pub pushed : ℕ → Walk → ℕ → Walk
pushed r w d =
    record {
      sum = w.sum + d;
      gained = w.gained + r;
      opening = max w.opening (w.sum + d - (w.gained + r));
      ending = w.ending + d - r;
      stretch = max w.stretch (w.ending + d - r);
    }

-- The walk of a whole trace.
unfoldable pub walk_of : ℕ → List ℕ → Walk
walk_of r ds = foldl (pushed r) started ds

-- The walk of the same periods turned round: their opening and their ending change places (`TurnLaws.walk-turned`).
abbrev pub turned : Walk → Walk
turned w = record { sum = w.sum; gained = w.gained; opening = w.ending; ending = w.opening; stretch = w.stretch }

-- x / p rounded up; 0 where p is 0.
unfoldable pub ceiling : ℕ → ℕ → ℕ
ceiling x p = (x + (p - 1)) / p

-- A bucket as deep as the cap meets the needs: it holds the stretch, and it starts with the opening,
-- which is so exactly when opening × q ≤ p × cap.
abbrev pub cap_meets : ℕ → ℕ → ℕ → Walk → Bool
cap_meets p q cap w = leb w.stretch cap && leb (w.opening * q) (p * cap)

-- The smallest depth that meets the needs, or refusal 7 where that is above the cap.
unfoldable pub depth_from : ℕ → ℕ → ℕ → Walk → Answer ℕ
depth_from p q cap w = cond (cap_meets p q cap w) (figures (max w.stretch (ceiling (w.opening * q) p))) (refused 7)

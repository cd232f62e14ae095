-- A walk through a trace at one rate, with the parts of the trace that set its needs.
-- Assumes nothing.
use Rattle.std.specs.Prelude.{ℕ, ◌+◌, ◌*◌, ◌≤◌, cond, List, ◌≡◌, eqb, ltb, take}
use Rattle.depth.specs.declared.walk.Walk.{Walk}
use Rattle.depth.specs.Walk.{started, pushed, walk_of}
use Rattle.depth.specs.WalkRanges.{WalkRange}
use Rattle.spans.specs.declared.parts.Parts.{Parts}

-- Before any period.
abbrev pub no_parts : Parts
no_parts = record { walk = started; periods = 0; opening = 0; ending = 0; stretch = 0 }

-- One period more, with demand d: a part is replaced where its need grows, and the one that ends here goes on while it
-- needs anything.
pub record Grown (r d : ℕ) (old new : Parts) : Type 0 where
  pub walk : new.walk ≡ pushed r old.walk d
  pub periods : new.periods ≡ old.periods + 1
  pub opening : new.opening ≡ cond (ltb old.walk.opening new.walk.opening) new.periods old.opening
  pub ending : new.ending ≡ cond (eqb new.walk.ending 0) 0 (old.ending + 1)
  pub stretch : new.stretch ≡ cond (ltb old.walk.stretch new.walk.stretch) new.ending old.stretch

-- What bounds the figures after n periods.
pub record PartsRange (n : ℕ) (s : Parts) : Type 0 where
  pub walks : WalkRange n s.walk
  pub all : s.periods ≤ n
  pub openings : s.opening ≤ n
  pub endings : s.ending ≤ n
  pub stretches : s.stretch ≤ n

-- A part of len periods that needs as much at rate r has the demands need + r × len, so at rate x it needs that less
-- x × len. A walk w at rate x through the same periods needs no less than each part.
pub record Below (r : ℕ) (s : Parts) (x : ℕ) (w : Walk) : Type 0 where
  pub sums : w.sum ≡ s.walk.sum
  pub gains : s.walk.gained ≡ r * s.periods
  pub gains_there : w.gained ≡ x * s.periods
  pub opening : s.walk.opening + r * s.opening ≤ w.opening + x * s.opening
  pub ending : s.walk.ending + r * s.ending ≤ w.ending + x * s.ending
  pub stretch : s.walk.stretch + r * s.stretch ≤ w.stretch + x * s.stretch

-- After i periods of a trace at rate r.
pub record PartsAt (r : ℕ) (ds : List ℕ) (i : ℕ) (s : Parts) : Type 0 where
  pub ranges : PartsRange i s
  pub walked : s.walk ≡ walk_of r (take i ds)
  pub below : (x : ℕ) → Below r s x (walk_of x (take i ds))

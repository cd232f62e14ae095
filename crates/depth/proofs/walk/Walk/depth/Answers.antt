-- The test is the definition's. Past it opening × q is at most p × cap, which is small,
-- so p is above 0 where the opening is.
use Prim.Native.Nat.{ℕ, zero, suc, ◌*◌, ◌≤◌, ◌<◌, max}
use native.Mathlib.Omega.{arith}
use native.Mathlib.Nat.{max-zero}
use mathlib.Core.Path.{◌≡◌, ◌∙◌}
use mathlib.Core.Bool.{and-false}
use borrow.Author.Tests.{le-leb, lt-leb}
use lib.Dec.{leb}
use Rattle.std.specs.Int.{div_ceil}
use Rattle.terms.specs.Answer.{figures, refused}
use Rattle.depth.specs.declared.walk.Walk.{Walk}
use Rattle.depth.specs.Walk.{ceiling, depth_from}
use Rattle.depth.specs.CeilingLaws.{ceiling-le, div_ceil-is}
use Rattle.depth.proofs.walk.Walk.depth.Goals as goal
use Rattle.depth.proofs.walk.Walk.depth.Goals.{then-cap-self-via-then-cap-self, then-cap-self-via-else-cap-self+then-most-opening}

module _ (p q cap : ℕ) (w : Walk) where
  held-too-much : cap < w.stretch → refused 7 ≡ depth_from p q cap w
  unfolding depth_from
  held-too-much h = rw (lt-leb _ _ h)

  opened-too-much : p * cap < w.opening * q → refused 7 ≡ depth_from p q cap w
  unfolding depth_from
  opened-too-much h = rw (lt-leb _ _ h, and-false (leb w.stretch cap))

  module _ (s : w.stretch ≤ cap) (o : w.opening * q ≤ p * cap) where
    no-opening : w.opening * q ≡ 0 → figures w.stretch ≡ depth_from p q cap w
    unfolding depth_from
    no-opening e =
        let z : ceiling 0 p ≡ 0 = omega (arith, ceiling-le 0 p 0 (omega arith)) in
        rw (le-leb _ _ s, le-leb _ _ o, e, z, max-zero)

    -- A product that is not 0 has a first factor that is not.
    some : (p cap x : ℕ) → x ≤ p * cap → (x ≡ 0 → ⊥) → 1 ≤ p
    some zero cap x h k = omega arith
    some (suc p) cap x h k = omega arith

    some-opening : (w.opening * q ≡ 0 → ⊥) → (f B : ℕ) → f ≡ div_ceil (w.opening * q) p → B ≡ max w.stretch f
        → figures B ≡ depth_from p q cap w
    unfolding depth_from
    some-opening n f B ef eB =
        rw (le-leb _ _ s, le-leb _ _ o, eB, ef ∙ div_ceil-is (w.opening * q) p (some p cap _ o n))

pub returns-then-cap-self : goal.returns-then-cap-self
returns-then-cap-self c =
    elim c.then-cap-self.branch [
      | then-cap-self-via-then-cap-self w ↦ held-too-much _ _ _ _ w.if-cap-self.true
      | then-cap-self-via-else-cap-self+then-most-opening w ↦ opened-too-much _ _ _ _ w.if-most-opening.true
    ]

pub returns-then-opening-eq0 : goal.returns-then-opening-eq0
returns-then-opening-eq0 c =
    no-opening _ _ _ _ c.if-cap-self.false c.if-most-opening.false c.if-opening-eq0.true

pub returns : goal.returns
returns c =
    some-opening _ _ _ _ c.if-cap-self.false c.if-most-opening.false c.if-opening-eq0.false
    _ _ c.div_ceil-fresh.ensures c.max.ensures

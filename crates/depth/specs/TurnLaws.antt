-- The walk of a trace turned round is the trace's own walk turned round: a period put before a walk does to its opening
-- what one pushed behind it does to its ending, and of two such periods either may come first.
-- Assumes nothing.
use Rattle.std.specs.Prelude.{ℕ, ◌+◌, ◌-◌, max, ◌≡◌, refl}
use Rattle.std.proofs.Common.{arith, sym, ap, ◌∙◌}
use mathlib.Core.List.{List, [], ◌∷◌, foldl, reverse, reverse-cons}
use Rattle.depth.specs.declared.walk.Walk.{Walk}
use Rattle.depth.specs.Walk.{started, pushed, turned, walk_of}
use Rattle.depth.specs.WalkLaws.{walk_more}
use Rattle.depth.specs.WalkRanges.{WalkRange}

-- One period more before the first.
abbrev pub preceded : ℕ → Walk → ℕ → Walk
preceded r w d = turned (pushed r (turned w) d)

-- Walks are the same by their figures.
walk_same : {a b g h o p e f n m : ℕ} → a ≡ b → g ≡ h → o ≡ p → e ≡ f → n ≡ m
    → ◌≡◌ {A = Walk} (record { sum = a; gained = g; opening = o; ending = e; stretch = n }) (record { sum = b; gained = h; opening = p; ending = f; stretch = m })
walk_same ea eg eo ee en = cc

-- The greater of a need a at one end and that of all periods, where d comes to that end and e to the other: the sum of
-- all periods may count e before the greater is taken or after it.
need_both : (a s g r d e : ℕ) → max a (s + e - (g + r)) + d - r ≡ max (a + d - r) (s + d + e - (g + r + r))
need_both a s g r d e = omega arith

greatest_of : (n a b x : ℕ) → max (max n a) (max b x) ≡ max (max n b) (max a x)
greatest_of n a b x = omega arith

-- Of a period before the walk and one behind it either may come first.
push_preceded : (r : ℕ) (w : Walk) (d e : ℕ) → pushed r (preceded r w d) e ≡ preceded r (pushed r w e) d
unfolding pushed
push_preceded r w d e =
    let swap : w.sum + e + d ≡ w.sum + d + e = omega arith in
    let o = need_both w.opening w.sum w.gained r d e in
    let n = need_both w.ending w.sum w.gained r e d in
    walk_same (sym swap) refl (sym o) n (rw (n, o, swap) (greatest_of w.stretch (w.opening + d - r) (w.ending + e - r) _))

fold-preceded : (r : ℕ) (w : Walk) (d : ℕ) (ds : List ℕ)
    → foldl (pushed r) (preceded r w d) ds ≡ preceded r (foldl (pushed r) w ds) d
fold-preceded r w d [] = refl
fold-preceded r w d (e ∷ ds) =
    ap (λ (v : Walk). foldl (pushed r) v ds) (push_preceded r w d e) ∙ fold-preceded r (pushed r w e) d ds

-- The walk of a trace with one more period before it.
pub walk-preceded : (r d : ℕ) (ds : List ℕ) → walk_of r (d ∷ ds) ≡ preceded r (walk_of r ds) d
unfolding walk_of pushed
walk-preceded r d ds = ap (λ (v : Walk). foldl (pushed r) v ds) first ∙ fold-preceded r started d ds
  where
    first : pushed r started d ≡ preceded r started d
    first = walk_same refl refl (omega arith) (omega arith) refl

-- The walk of a trace turned round.
pub walk-turned : (r : ℕ) (ds : List ℕ) → walk_of r (reverse ds) ≡ turned (walk_of r ds)
unfolding walk_of
walk-turned r [] = refl
walk-turned r (d ∷ ds) =
    ap (walk_of r) (reverse-cons d ds) ∙ walk_more r (reverse ds) d ∙ ap (λ (v : Walk). pushed r v d) (walk-turned r ds)
    ∙ ap turned (sym (walk-preceded r d ds))

-- Turned round, a walk keeps its ranges.
pub range_turned : {n : ℕ} {w : Walk} → WalkRange n w → WalkRange n (turned w)
range_turned k = omega (arith, k.sums, k.gains, k.openings, k.endings, k.stretches)

-- The walk's invariant is `Walking`; each turn is one period of the definition,
-- and at the end nothing of the trace is left.
use Prim.Native.Nat.{ℕ, ◌^◌, ◌≤◌, ◌<◌}
use native.Mathlib.Omega.{arith}
use mathlib.Core.Path.{◌≡◌, ◌∙◌, ap}
use mathlib.Core.List.{List}
use Rattle.std.specs.Prelude.{ℤ}
use Rattle.std.specs.Int.{int_min}
use lib.Signed.{mag}
use mir.Syntax.{w64}
use mir.Val.{to_z, of_z}
use mir.Facts.{to_z-of_z}
use Rattle.terms.specs.declared.Bucket.{Bucket}
use Rattle.terms.specs.declared.Factor.{Factor}
use Rattle.terms.specs.Limits.{depth_limit}
use Rattle.bucket.specs.Step.{start_of}
use Rattle.bucket.specs.Trace.{over_all, spare_from, min_z}
use Rattle.bucket.specs.Laws.{start_le}
use Rattle.bucket.specs.Trial.{trial_figures}
use Rattle.bucket.proofs.Walking.{min-is, walking_start, walking_step, over_end, spare_end}
use Rattle.bucket.proofs.trials.figures.Goals as goal

-- a trial is known by its parts
figures-by : (b : Bucket) (f : Factor) (ds : List ℕ) (y : ℕ) (z : ℤ) (n : ℕ) → y ≡ start_of f.p f.q b.depth.0
    → z ≡ spare_from b.rate.0 b.depth.0 y ds → n ≡ over_all b.rate.0 b.depth.0 y ds
    → record { spare = z; over = n } ≡ trial_figures b f ds
unfolding trial_figures
figures-by b f ds y z n ey ez en = rw (← ey, ez, en)

back : {z : ℤ} → mag z < 2 ^ 63 → to_z w64 (of_z w64 z) ≡ z
back h = to_z-of_z {w = w64} (record { sfits = h })

smaller : (a b : ℤ) {z b' : ℤ} → z ≡ int_min a b → b ≡ b' → z ≡ min_z a b'
smaller a b e f = e ∙ min-is a b ∙ ap (min_z a) f

pub to_spare-spare-requires : goal.to_spare-spare-requires
to_spare-spare-requires c =
    let started : c.starting_tokens-held.result ≤ depth_limit = let a = c.args in omega (arith, c.starting_tokens-held.ensures, start_le a.factor.p a.factor.q a.bucket.depth.0 c.requires.fresh_range.factor.part, c.requires.fresh_range.bucket.depths) in
    record { rate_le_rate_limit = c.requires.fresh_range.bucket.rates; held_le_depth_limit = started }

pub loop-demand-init : goal.loop-demand-init
loop-demand-init c =
    let started : c.starting_tokens-held.result ≤ depth_limit = let a = c.args in omega (arith, c.starting_tokens-held.ensures, start_le a.factor.p a.factor.q a.bucket.depth.0 c.requires.fresh_range.factor.part, c.requires.fresh_range.bucket.depths) in
    walking_start _ _ _ _ _ (started) c.requires.periods_range.some (back c.to_spare-spare.type_inv ∙ c.to_spare-spare.ensures)

pub loop-demand-preserved : goal.loop-demand-preserved
loop-demand-preserved c =
    walking_step c.loop-demand.invariant c.requires.fresh_range.bucket.depths c.loop-demand-test.true
    (omega (arith, c.type_inv.trace c.loop-demand.demand-index))
    c.step-period.ensures
    (back c.min-spare.type_inv ∙ smaller (to_z w64 c.loop-demand.spare-bits) (to_z w64 (of_z w64 c.to_spare.result)) c.min-spare.ensures.value (back c.to_spare.type_inv ∙ c.to_spare.ensures))

pub returns : goal.returns
returns c =
    let k = c.loop-demand.invariant in
    let l = c.loop-demand-test.false in
    figures-by _ _ _ _ _ _ c.starting_tokens-held.ensures (spare_end k l) (over_end k l)

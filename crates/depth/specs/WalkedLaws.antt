-- The depth calls' answers by what they begin with: the depth read off the walk, in archive order off the walk turned
-- round; or the same refusal.
-- Assumes nothing.
use Rattle.std.specs.Prelude.{ℕ, ◌≤◌, ◌≡◌, refl, Bool, true, false, List, reverse, leb, length}
use Rattle.std.proofs.Common.{le_trans, sym, ap, subst, ◌∙◌, leb-true}
use Rattle.std.proofs.lemmas.List.{length-reverse}
use Rattle.terms.specs.declared.Tariff.{Tariff}
use Rattle.terms.specs.Answer.{Answer, figures, refused, weigh, on_figures, and_then}
use Rattle.terms.specs.AnswerLaws.{same-figures, weigh-figures}
use Rattle.terms.specs.Bools.{and_both}
use Rattle.terms.specs.Limits.{rate_limit, trace_limit}
use Rattle.terms.specs.Ranges.{periods_ok, tariff_ok}
use Rattle.terms.specs.RangeRules.{TariffRange}
use Rattle.terms.specs.RangeLaws.{periods_range, tariff_range}
use Rattle.bucket.specs.Trace.{Demands}
use Rattle.depth.specs.declared.walk.Walk.{Walk}
use Rattle.depth.specs.Depth.{depth_from_end, depth_of, rate_ok, tariff_depth}
use Rattle.depth.specs.Walk.{depth_from, turned, walk_of}
use Rattle.depth.specs.Walked.{walk_for}
use Rattle.depth.specs.WalkRanges.{WalkRange, range_more, walk_range}
use Rattle.depth.specs.DepthLaws.{depth-walk}
use Rattle.depth.specs.TurnLaws.{walk-turned}

-- The depth read off a walk with a tariff's factor and depth cap.
abbrev pub read_off : Tariff → Walk → Answer ℕ
read_off t w = depth_from t.factor.p t.factor.q t.depth_cap.0 w

-- A tariff in its ranges and a rate under its cap.
pub record RateRange (t : Tariff) (r : ℕ) : Type 0 where
  pub tariff : TariffRange t
  pub rates : r ≤ rate_limit

pub rate_range : (t : Tariff) (r : ℕ) → rate_ok t r ≡ true → RateRange t r
rate_range t r h =
    let k = and_both (tariff_ok t) (leb r t.rate_cap.0) h in
    let f = tariff_range t k.0 in
    record { tariff = f; rates = le_trans (leb-true _ _ k.1) f.rate_caps }

-- The depth call's answer, on any list.
pub depth_by_walk : (t : Tariff) (r : ℕ) (ds : List ℕ) → and_then (walk_for t r ds) (read_off t) ≡ depth_of t r ds
unfolding walk_for depth_of
depth_by_walk t r ds = go (periods_ok (length ds)) (rate_ok t r) refl
  where
    go : (n k : Bool) → rate_ok t r ≡ k
        → and_then (weigh n 3 (weigh k 5 (figures (walk_of r ds)))) (read_off t) ≡ weigh n 3 (weigh k 5 (tariff_depth t r ds))
    go false k e = refl
    go true false e = refl
    go true true e = let f = (rate_range t r e).tariff.factor in depth-walk t.factor.p t.factor.q t.depth_cap.0 r ds f.part f.some

-- The list turned round is as long, and its walk is the list's turned round.
walk_for-turned : (t : Tariff) (r : ℕ) (ds : List ℕ) → walk_for t r (reverse ds) ≡ on_figures turned (walk_for t r ds)
unfolding walk_for
walk_for-turned t r ds = rw (length-reverse ds, walk-turned r ds) (go (periods_ok (length ds)) (rate_ok t r))
  where
    go : (n k : Bool)
        → weigh n 3 (weigh k 5 (figures (turned (walk_of r ds)))) ≡ on_figures turned (weigh n 3 (weigh k 5 (figures (walk_of r ds))))
    go false k = refl
    go true false = refl
    go true true = refl

-- The answer in archive order, on any list.
pub from_end_by_walk : (t : Tariff) (r : ℕ) (ds : List ℕ)
    → and_then (walk_for t r ds) (λ w. read_off t (turned w)) ≡ depth_from_end t r ds
from_end_by_walk t r ds =
    go (walk_for t r ds) ∙ ap (λ (a : Answer Walk). and_then a (read_off t)) (sym (walk_for-turned t r ds))
    ∙ depth_by_walk t r (reverse ds)
  where
    go : (a : Answer Walk) → and_then a (λ w. read_off t (turned w)) ≡ and_then (on_figures turned a) (read_off t)
    go (figures w) = refl
    go (refused n) = refl

-- What the read-out asks for: of a list of demands, the tariff and the walk are in their ranges.
pub record Ready (t : Tariff) (w : Walk) : Type 0 where
  pub tariff : TariffRange t
  pub walk : WalkRange trace_limit w

pub walk_ready : (t : Tariff) (r : ℕ) (ds : List ℕ) → Demands ds → {w : Walk} → walk_for t r ds ≡ figures w → Ready t w
unfolding walk_for
walk_ready t r ds h e =
    let n = weigh-figures (periods_ok (length ds)) 3 (weigh (rate_ok t r) 5 (figures (walk_of r ds))) e in
    let k = weigh-figures (rate_ok t r) 5 (figures (walk_of r ds)) n.1 in
    let f = rate_range t r k.0 in
    record {
      tariff = f.tariff;
      walk =
          subst (WalkRange trace_limit) (same-figures k.1) (range_more (periods_range _ n.0).few (walk_range r ds f.rates h));
    }

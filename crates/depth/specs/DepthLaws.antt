-- The depth answer is the smallest depth inside the cap that carries the trace,
-- refusal 7 is given exactly when there is none, and one walk gives it.
-- Assumes nothing.
use Rattle.std.specs.Prelude.{ℕ, ◌*◌, ◌≤◌, max, ◌≡◌, Bool, cond, List, [], ◌∷◌, ◌++◌, leb, length}
use Rattle.std.proofs.Common.{arith, sym, ap, subst, ◌∙◌, leb-true, le-leb}
use Rattle.std.proofs.Math.Nat.{max-le, le-max_left, le-max_right}
use Rattle.std.proofs.Math.Path.{refl}
use Rattle.std.proofs.Math.Bool.{true, false, false≢true}
use Rattle.terms.specs.declared.Tariff.{Tariff}
use Rattle.terms.specs.Ranges.{periods_ok}
use Rattle.terms.specs.Answer.{Answer, figures, refused, weigh}
use Rattle.terms.specs.AnswerLaws.{figures-refused, same-figures, weigh-figures, weigh-refused}
use Rattle.terms.specs.Bools.{and_both, both_and, not_true-false}
use Rattle.bucket.specs.Step.{start_of}
use Rattle.bucket.specs.Trace.{carries}
use Rattle.bucket.specs.Laws.{start_le, carries_deeper}
use Rattle.depth.specs.declared.walk.Walk.{Walk}
use Rattle.depth.specs.Depth.{least_depth, tariff_depth, rate_ok, depth_of}
use Rattle.depth.specs.Walk.{pushed, walk_of, ceiling, cap_meets, depth_from}
use Rattle.depth.specs.SearchLaws.{First, NonePasses, IsFirst, first_is, first_le, first_some, first_only}
use Rattle.depth.specs.CeilingLaws.{start_holds, holds_start, start_ceiling, ceiling_start}
use Rattle.depth.specs.WalkLaws.{Enough, carried-enough, enough-carried, walk_more}

-- B is the smallest depth that carries the trace at rate r, and at most the cap.
abbrev pub SmallestDepth : ℕ → ℕ → ℕ → ℕ → List ℕ → ℕ → Type 0
SmallestDepth p q cap r ds B = First (λ C. carries p q r C ds) cap B

-- No depth inside the cap carries the trace at rate r.
abbrev pub NoDepth : ℕ → ℕ → ℕ → ℕ → List ℕ → Type 0
NoDepth p q cap r ds = NonePasses (λ C. carries p q r C ds) cap

abbrev pub IsDepth : ℕ → ℕ → ℕ → ℕ → List ℕ → Answer ℕ → Type 0
IsDepth p q cap r ds = IsFirst (λ C. carries p q r C ds) cap

module _ (p q cap r : ℕ) (ds : List ℕ) where
  pub depth_is : IsDepth p q cap r ds (least_depth p q cap r ds)
  depth_is = first_is (λ C. carries p q r C ds) cap

  module _ {B : ℕ} (e : least_depth p q cap r ds ≡ figures B) where
    pub depth_smallest : SmallestDepth p q cap r ds B
    depth_smallest = subst (IsDepth p q cap r ds) e depth_is

    pub depth-within : B ≤ cap
    depth-within = depth_smallest.within

    pub depth-carries : carries p q r B ds ≡ true
    depth-carries = depth_smallest.passes

    pub depth-least : (C : ℕ) → carries p q r C ds ≡ true → B ≤ C
    depth-least C h = first_le (λ C. carries p q r C ds) cap B C depth_smallest h

  -- There is one exactly when some depth inside the cap carries the trace.
  pub depth-some : (C : ℕ) → C ≤ cap → carries p q r C ds ≡ true → (B : ℕ) × (least_depth p q cap r ds ≡ figures B)
  depth-some C l h = first_some (λ C. carries p q r C ds) cap C l h

  pub depth_none : {n : ℕ} → least_depth p q cap r ds ≡ refused n → (n ≡ 7) × NoDepth p q cap r ds
  depth_none e = subst (IsDepth p q cap r ds) e depth_is

  pub none_depth : NoDepth p q cap r ds → least_depth p q cap r ds ≡ refused 7
  none_depth h = first_only (λ C. carries p q r C ds) cap (least_depth p q cap r ds) (refused 7) depth_is (refl, h)

-- ---- One walk gives the depth: the greater of the stretch and the least depth that starts with the opening.

module _ (p q cap r : ℕ) (ds : List ℕ) (hp : p ≤ q) (hq : 1 ≤ q) where
  -- (r, C) carries the trace exactly when C is at least the stretch and starts with the opening.
  carries_needs : (C : ℕ) → carries p q r C ds ≡ true → Enough C (start_of p q C) (walk_of r ds)
  carries_needs C e = carried-enough r (start_le p q C hp) ds e

  needs_carries : (C : ℕ) → Enough C (start_of p q C) (walk_of r ds) → carries p q r C ds ≡ true
  needs_carries C n = enough-carried r (start_le p q C hp) ds n

  walk_first : (w : Walk) → w ≡ walk_of r ds → w.stretch ≤ cap → w.opening ≤ start_of p q cap
      → SmallestDepth p q cap r ds (max w.stretch (ceiling (w.opening * q) p))
  walk_first w f s n =
      record {
        within = max-le s (start_ceiling p q w.opening hq cap n);
        passes =
            needs_carries _
            (rw (← f)
            (record {
              opens = ceiling_start p q w.opening hq _ cap n (le-max_right w.stretch _);
              stretches = le-max_left w.stretch _;
            }));
        smaller = λ C l. not_true-false _ (λ e.
            let k : Enough C (start_of p q C) w = rw f (carries_needs C e) in
            omega (arith, max-le k.stretches (start_ceiling p q w.opening hq C k.opens)));
      }

  -- What a carrying depth inside the cap needs, the cap has.
  cap_needs : (C : ℕ) → C ≤ cap → carries p q r C ds ≡ true → Enough cap (start_of p q cap) (walk_of r ds)
  cap_needs C l e = carries_needs cap (carries_deeper p q r C ds cap l e)

  walk_is : (w : Walk) → w ≡ walk_of r ds → IsDepth p q cap r ds (depth_from p q cap w)
  unfolding depth_from
  walk_is w f = go (cap_meets p q cap w) refl
    where
      go : (t : Bool) → cap_meets p q cap w ≡ t
          → IsDepth p q cap r ds (cond t (figures (max w.stretch (ceiling (w.opening * q) p))) (refused 7))
      go true h =
          let k = and_both (leb w.stretch cap) (leb (w.opening * q) (p * cap)) h in
          walk_first w f (leb-true _ _ k.0) (holds_start p q w.opening cap hq (leb-true _ _ k.1))
      go false h = (
        refl,
        λ C l. not_true-false _ (λ e.
            let k : Enough cap (start_of p q cap) w = rw f (cap_needs C l e) in
            false≢true (sym h ∙ both_and (le-leb _ _ k.stretches) (le-leb _ _ (start_holds p q w.opening cap hq k.opens)))),
      )

  pub depth-walk : depth_from p q cap (walk_of r ds) ≡ least_depth p q cap r ds
  depth-walk = first_only (λ C. carries p q r C ds) cap _ _ (walk_is (walk_of r ds) refl) (depth_is p q cap r ds)

-- What is read off any walk is inside the cap.
pub walk-within : (p q cap : ℕ) (w : Walk) {B : ℕ} → 1 ≤ q → depth_from p q cap w ≡ figures B → B ≤ cap
unfolding depth_from
walk-within p q cap w {B} hq e = go (cap_meets p q cap w) refl e
  where
    go : (t : Bool) → cap_meets p q cap w ≡ t
        → cond t (figures (max w.stretch (ceiling (w.opening * q) p))) (refused 7) ≡ figures B → B ≤ cap
    go true h e =
        let k = and_both (leb w.stretch cap) (leb (w.opening * q) (p * cap)) h in
        subst (λ (C : ℕ). C ≤ cap) (same-figures e)
        (max-le (leb-true _ _ k.0) (start_ceiling p q w.opening hq cap (holds_start p q w.opening cap hq (leb-true _ _ k.1))))
    go false h e = absurd (figures-refused (sym e))

-- Of a trace with one more period at its end, one push more gives it.
pub depth-more : (p q cap r : ℕ) (ds : List ℕ) (d : ℕ) → p ≤ q → 1 ≤ q
    → depth_from p q cap (pushed r (walk_of r ds) d) ≡ least_depth p q cap r (ds ++ (d ∷ []))
depth-more p q cap r ds d hp hq =
    ap (depth_from p q cap) (sym (walk_more r ds d)) ∙ depth-walk p q cap r (ds ++ (d ∷ [])) hp hq

-- ---- The call

module _ (t : Tariff) (r : ℕ) (ds : List ℕ) where
  -- With a trace, a tariff and a rate in their ranges the smallest depth decides.
  pub depth_in_range : periods_ok (length ds) ≡ true → rate_ok t r ≡ true → depth_of t r ds ≡ tariff_depth t r ds
  unfolding depth_of
  depth_in_range h k = rw (h, k)

  -- Figures are the smallest depth, and refusal 7 says that there is none.
  pub depth-found : {B : ℕ} → depth_of t r ds ≡ figures B → SmallestDepth t.factor.p t.factor.q t.depth_cap.0 r ds B
  unfolding depth_of
  depth-found e =
      let h = (weigh-figures (periods_ok (length ds)) 3 (weigh (rate_ok t r) 5 (tariff_depth t r ds)) e).1 in
      depth_smallest _ _ _ _ _ (weigh-figures (rate_ok t r) 5 (tariff_depth t r ds) h).1

  pub depth_not_found : depth_of t r ds ≡ refused 7 → NoDepth t.factor.p t.factor.q t.depth_cap.0 r ds
  unfolding depth_of
  depth_not_found e =
      let h = (weigh-refused (periods_ok (length ds)) 3 7 (weigh (rate_ok t r) 5 (tariff_depth t r ds)) refl e).1 in
      (depth_none _ _ _ _ _ (weigh-refused (rate_ok t r) 5 7 (tariff_depth t r ds) refl h).1).1

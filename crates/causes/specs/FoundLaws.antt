-- What the searches for a cause find: for a depth above 0 an opening, or else a stretch. Were none short, a depth one
-- smaller would meet the needs before every period (`NeedLaws`), and so it would carry the trace.
-- Assumes nothing.
use Rattle.std.specs.Prelude.{ℕ, suc, ◌+◌, ◌-◌, ◌≤◌, ◌<◌, ◌≡◌, refl, true, false, List, eqb, length, take, drop}
use Rattle.std.proofs.Common.{arith, le_trans, sym, ap, subst, ◌∙◌, ltb-true, ltb-false, ne_eqb, length-drop, drop_at, length-take-le, take-add}
use Rattle.std.proofs.Math.Seq.{slice}
use Rattle.terms.specs.declared.Tariff.{Tariff}
use Rattle.terms.specs.Answer.{Answer, figures, refused, figure_or, weigh}
use Rattle.terms.specs.AnswerLaws.{weigh-figures}
use Rattle.terms.specs.Bools.{true-false}
use Rattle.terms.specs.Limits.{depth_limit}
use Rattle.terms.specs.RangeLaws.{periods_range}
use Rattle.terms.specs.RangeRules.{PeriodsRange}
use Rattle.terms.specs.Ranges.{periods_ok}
use Rattle.depth.specs.Depth.{depth_of, rate_ok, tariff_depth}
use Rattle.depth.specs.DepthLaws.{depth-found}
use Rattle.depth.specs.Need.{need_before}
use Rattle.depth.specs.NeedLaws.{Meets, depth_meets_least}
use Rattle.depth.specs.SearchLaws.{FirstFrom, IsFirstFrom, NoneFrom, from_is}
use Rattle.depth.specs.WalkedLaws.{RateRange, rate_range}
use Rattle.causes.specs.Cause.{opening, stretch, start_at, from_to, need_of, short, is_found, opening_end, stretch_start, stretch_end, cause_of}
use Rattle.causes.specs.PeriodNeedLaws.{fronts_met}

-- ---- What is true of a cause, y being the starting tokens of depth C

-- Periods 1 to v are the first whose need the starting tokens fall short of.
pub record OpeningShort (r y : ℕ) (ds : List ℕ) (v : ℕ) : Type 0 where
  pub some : 1 ≤ v
  pub inside : v ≤ length ds
  pub short_of : y < need_of r (from_to 1 v ds)
  pub least : (w : ℕ) → 1 ≤ w → w < v → need_of r (from_to 1 w ds) ≤ y

-- No opening is short.
abbrev pub OpeningsMet : ℕ → ℕ → List ℕ → Type 0
OpeningsMet r y ds = (w : ℕ) → 1 ≤ w → w ≤ length ds → need_of r (from_to 1 w ds) ≤ y

-- No stretch that ends with period w is short.
abbrev pub StretchesMet : ℕ → ℕ → List ℕ → ℕ → Type 0
StretchesMet r C ds w = (u : ℕ) → 2 ≤ u → u ≤ w → need_of r (from_to u w ds) ≤ C

-- No opening is short; periods u to v are a stretch whose need the depth falls short of, none that ends earlier is
-- short, and none that ends with them and begins earlier.
pub record StretchShort (r y C : ℕ) (ds : List ℕ) (u v : ℕ) : Type 0 where
  pub openings : OpeningsMet r y ds
  pub late : 2 ≤ u
  pub ordered : u ≤ v
  pub inside : v ≤ length ds
  pub short_of : C < need_of r (from_to u v ds)
  pub least_last : (w : ℕ) → 2 ≤ w → w < v → StretchesMet r C ds w
  pub least_first : (w : ℕ) → 2 ≤ w → w < u → need_of r (from_to w v ds) ≤ C

-- ---- The searches

module _ (r : ℕ) (ds : List ℕ) where
  met : (y u v : ℕ) → short r y ds u v ≡ false → need_of r (from_to u v ds) ≤ y
  met y u v e = ltb-false y (need_of r (from_to u v ds)) e

  none_opens : (y : ℕ) → NoneFrom (λ v. short r y ds 1 v) (length ds) 1 → OpeningsMet r y ds
  none_opens y none w h l = met y 1 w (none w h (omega arith))

  none_stretches : (C v : ℕ) → is_found (stretch_start r C ds v) ≡ false → StretchesMet r C ds v
  none_stretches C v e = go (stretch_start r C ds v) (from_is (λ u. short r C ds u v) (v - 1) 2) e
    where
      go : (x : Answer ℕ) → IsFirstFrom (λ u. short r C ds u v) (v - 1) 2 x → is_found x ≡ false → StretchesMet r C ds v
      go (figures u) k e = absurd (true-false refl e)
      go (refused n) k e = λ u h m. met C u v (k.1 u h (omega arith))

  -- Periods n + 1 to n + m.
  pub part : (n m : ℕ) → n ≤ length ds → slice n (n + m) ds ≡ take m (drop n ds)
  part n m h = ap (drop n) (take-add n m ds) ∙ drop_at (take n ds) (take m (drop n ds)) n (length-take-le n ds h)

  -- A bucket that no opening and no stretch is short for meets the needs before every period.
  pub all_met : (y C : ℕ) → OpeningsMet r y ds → ((w : ℕ) → 2 ≤ w → w ≤ length ds → StretchesMet r C ds w)
      → Meets r C y ds
  all_met y C openings stretches = record { first = fronts_met r y ds openings; later = later }
    where
      later : (n : ℕ) → need_before r (drop (suc n) ds) ≤ C
      later n = fronts_met r C (drop (suc n) ds) (λ m h l.
          let inside : suc n + m ≤ length ds = omega (arith, length-drop (suc n) ds) in
          let e : n + 2 - 1 ≡ suc n = omega arith in
          let k = stretches (suc n + m) (omega arith) inside (n + 2) (omega arith) (omega arith) in
          omega (arith, k, ap (λ (f : ℕ). need_of r (slice f (suc n + m) ds)) e, ap (need_of r) (part (suc n) m (omega arith))))

-- ---- The ranges of what a depth is answered for

pub record Asked (t : Tariff) (r : ℕ) (ds : List ℕ) (B : ℕ) : Type 0 where
  pub periods : PeriodsRange (length ds)
  pub rate : RateRange t r
  pub depths : B ≤ depth_limit

pub asked : (t : Tariff) (r : ℕ) (ds : List ℕ) {B : ℕ} → depth_of t r ds ≡ figures B → Asked t r ds B
unfolding depth_of
asked t r ds e =
    let n = weigh-figures (periods_ok (length ds)) 3 (weigh (rate_ok t r) 5 (tariff_depth t r ds)) e in
    let k = rate_range t r (weigh-figures (rate_ok t r) 5 (tariff_depth t r ds) n.1).0 in
    record { periods = periods_range _ n.0; rate = k; depths = le_trans (depth-found t r ds e).within k.tariff.depth_caps }

-- ---- What the searches find for a depth above 0

module _ (t : Tariff) (r : ℕ) (ds : List ℕ) where
  -- An opening, or else a stretch.
  pub data Found (C : ℕ) : Type 0 where
    opens : (v : ℕ) → opening_end r (start_at t C) ds ≡ figures v → Found C
    stretches : (u v n : ℕ) → opening_end r (start_at t C) ds ≡ refused n → stretch_end r C ds ≡ figures v
        → stretch_start r C ds v ≡ figures u → Found C

  module _ {B : ℕ} (e : depth_of t r ds ≡ figures B) (h : 1 ≤ B) where
    abbrev C : ℕ
    C = B - 1

    -- A depth one smaller does not meet the needs.
    not_met : Meets r C (start_at t C) ds → ⊥
    not_met k = omega (arith, depth_meets_least t r ds e C k)

    pub found : Found C
    found =
        opening_search (opening_end r (start_at t C) ds) refl (from_is (λ v. short r (start_at t C) ds 1 v) (length ds) 1)
      where
        start_search : (v n : ℕ) → opening_end r (start_at t C) ds ≡ refused n → stretch_end r C ds ≡ figures v
            → (x : Answer ℕ) → stretch_start r C ds v ≡ x → is_found x ≡ true → Found C
        start_search v n o f (figures u) g k = stretches u v n o f g
        start_search v n o f (refused m) g k = absurd (true-false k refl)

        end_search : (n : ℕ) → opening_end r (start_at t C) ds ≡ refused n → OpeningsMet r (start_at t C) ds
            → (x : Answer ℕ) → stretch_end r C ds ≡ x → IsFirstFrom (λ v. is_found (stretch_start r C ds v)) (length ds - 1) 2 x → Found C
        end_search n o m (figures v) f k = start_search v n o f (stretch_start r C ds v) refl k.passes
        end_search n o m (refused j) f k =
            absurd (not_met (all_met r ds (start_at t C) C m (λ w i l. none_stretches r ds C w (k.1 w i (omega arith)))))

        opening_search : (x : Answer ℕ) → opening_end r (start_at t C) ds ≡ x
            → IsFirstFrom (λ v. short r (start_at t C) ds 1 v) (length ds) 1 x → Found C
        opening_search (figures v) o k = opens v o
        opening_search (refused n) o k =
            end_search n o (none_opens r ds (start_at t C) k.1) (stretch_end r C ds) refl (from_is (λ v. is_found (stretch_start r C ds v)) (length ds - 1) 2)

    -- The cause is what the searches find.
    above : eqb B 0 ≡ false
    above = ne_eqb B 0 (λ z. omega arith)

    pub cause-opens : (v : ℕ) → opening_end r (start_at t C) ds ≡ figures v → cause_of t r ds B ≡ opening v
    unfolding cause_of
    cause-opens v o = rw (above, o)

    pub cause-stretches : (u v n : ℕ) → opening_end r (start_at t C) ds ≡ refused n → stretch_end r C ds ≡ figures v
        → stretch_start r C ds v ≡ figures u
        → cause_of t r ds B ≡ stretch u v
    unfolding cause_of
    cause-stretches u v n o f g = rw (above, o, f, g)

    pub opening-is : (v : ℕ) → opening_end r (start_at t C) ds ≡ figures v → OpeningShort r (start_at t C) ds v
    opening-is v o =
        let k : FirstFrom (λ w. short r (start_at t C) ds 1 w) (length ds) 1 v =
        subst (IsFirstFrom (λ w. short r (start_at t C) ds 1 w) (length ds) 1) o (from_is _ (length ds) 1) in
        record {
          some = k.from;
          inside = omega (arith, k.within);
          short_of = ltb-true _ _ k.passes;
          least = λ w i l. met r ds (start_at t C) 1 w (k.smaller w i l);
        }

    pub stretch-is : (u v n : ℕ) → opening_end r (start_at t C) ds ≡ refused n → stretch_end r C ds ≡ figures v
        → stretch_start r C ds v ≡ figures u → StretchShort r (start_at t C) C ds u v
    stretch-is u v n o f g =
        let none = subst (IsFirstFrom (λ w. short r (start_at t C) ds 1 w) (length ds) 1) o (from_is _ (length ds) 1) in
        let last : FirstFrom (λ w. is_found (stretch_start r C ds w)) (length ds - 1) 2 v =
        subst (IsFirstFrom (λ w. is_found (stretch_start r C ds w)) (length ds - 1) 2) f (from_is _ (length ds - 1) 2) in
        let first : FirstFrom (λ w. short r C ds w v) (v - 1) 2 u =
        subst (IsFirstFrom (λ w. short r C ds w v) (v - 1) 2) g (from_is _ (v - 1) 2) in
        record {
          openings = none_opens r ds (start_at t C) none.1;
          late = first.from;
          ordered = omega (arith, first.from, first.within);
          inside = omega (arith, last.from, last.within);
          short_of = ltb-true _ _ first.passes;
          least_last = λ w i l. none_stretches r ds C w (last.smaller w i l);
          least_first = λ w i l. met r ds C w v (first.smaller w i l);
        }

    -- What the code finds where no opening is short.
    pub record Stretched : Type 0 where
      pub first : ℕ
      pub last : ℕ
      pub is_last : stretch_end r C ds ≡ figures last
      pub is_first : stretch_start r C ds last ≡ figures first
      pub is_short : StretchShort r (start_at t C) C ds first last
      pub named : cause_of t r ds B ≡ stretch first last

    pub stretched : figure_or (opening_end r (start_at t C) ds) 0 ≡ 0 → Stretched
    stretched e = go found
      where
        go : Found C → Stretched
        go (opens v o) = absurd (omega (arith, (opening-is v o).some, sym (ap (λ (a : Answer ℕ). figure_or a 0) o) ∙ e))
        go (stretches u v n o f g) = record { first = u; last = v; is_last = f; is_first = g; is_short = stretch-is u v n o f g; named = cause-stretches u v n o f g }

-- What a cause says of the bucket: the periods that are named are not carried with one token of depth less, and the
-- last of them is the first period in which such a bucket discards.
-- Assumes nothing.
use Rattle.std.specs.Prelude.{ℕ, suc, ◌+◌, ◌-◌, ◌*◌, ◌≤◌, ◌<◌, ◌≡◌, Bool, List, ◌++◌, take, drop}
use native.Mathlib.Omega.{arith}
use Rattle.std.proofs.Common.{mul-add, sym, subst, ◌∙◌, take-append-drop, length-take-le, take-take}
use Rattle.std.proofs.Math.Nat.{mul-zero}
use Rattle.std.proofs.Math.Path.{refl, ap}
use Rattle.std.proofs.Math.Bool.{true, false}
use borrow.Author.Tests.{ltb-true, ltb-false}
use Rattle.std.proofs.Math.Dec.{ltb}
use Rattle.std.proofs.Math.ListN.{length}
use Rattle.std.proofs.Math.Seq.{length-slice, slice}
use Rattle.terms.specs.declared.Tariff.{Tariff}
use Rattle.terms.specs.Answer.{figures}
use Rattle.terms.specs.Bools.{not_true-false}
use Rattle.terms.specs.Records.{total}
use Rattle.bucket.specs.Trace.{carries, carries_from}
use Rattle.depth.specs.Depth.{depth_of}
use Rattle.depth.specs.Need.{need_before}
use Rattle.depth.specs.NeedLaws.{carried_meets, depth_meets, meets_carried}
use Rattle.causes.specs.Cause.{opening, stretch, start_at, demand_of, from_to, need_of}
use Rattle.causes.specs.CauseLaws.{IsCause}
use Rattle.causes.specs.FoundLaws.{OpeningShort, StretchShort, StretchesMet, all_met, part}
use Rattle.causes.specs.PeriodNeedLaws.{all_needed, demand_both, front_need}

-- Tokens that fall short of the need of some periods do not carry them, in a bucket of any depth.
pub short-discards : (r B y : ℕ) (es : List ℕ) → y < need_of r es → carries_from r B y es ≡ false
short-discards r B y es h = not_true-false _ (λ e. omega (arith, (carried_meets r B y es e).first, all_needed r es))

-- So a depth one smaller, fresh, does not carry the opening that is named …
pub opening-discards : (t : Tariff) (r : ℕ) (ds : List ℕ) (B v : ℕ) → IsCause t r ds B (opening v)
    → carries_from r (B - 1) (start_at t (B - 1)) (from_to 1 v ds) ≡ false
opening-discards t r ds B v k = short-discards r (B - 1) _ _ k.short_of

-- … and however full it is, it does not carry the stretch.
pub stretch-discards : (t : Tariff) (r : ℕ) (ds : List ℕ) (B u v : ℕ) → IsCause t r ds B (stretch u v) → (y : ℕ)
    → y ≤ B - 1 → carries_from r (B - 1) y (from_to u v ds) ≡ false
stretch-discards t r ds B u v k y l = short-discards r (B - 1) y _ (omega (arith, k.short_of))

-- ---- Sums of first periods

module _ (r : ℕ) (ds : List ℕ) where
  -- Demands of the first n periods.
  abbrev sum : ℕ → ℕ
  sum n = demand_of (take n ds)

  part-sum : (j n : ℕ) → j ≤ n → demand_of (slice j n ds) + sum j ≡ sum n
  part-sum j n l =
      let e : demand_of (take j (take n ds) ++ slice j n ds) ≡ sum n = ap demand_of (take-append-drop j (take n ds)) in
      omega (arith, e, demand_both (take j (take n ds)) (slice j n ds), ap demand_of (take-take j n ds l))

  part_gain : (j n : ℕ) → j ≤ n → r * (n - j) + r * j ≡ r * n
  part_gain j n l = let e : n - j + j ≡ n = omega arith in sym (mul-add r (n - j) j) ∙ ap (λ (m : ℕ). r * m) e

  -- The need of periods j + 1 to n, in sums and tokens gained.
  need_sums : (j n : ℕ) → j ≤ n → n ≤ length ds → need_of r (slice j n ds) ≡ sum n + r * j - (sum j + r * n)
  unfolding need_of
  need_sums j n l m =
      let e : r * length (slice j n ds) ≡ r * (n - j) = ap (λ (k : ℕ). r * k) (length-slice j n ds m) in
      omega (arith, e, part-sum j n l, part_gain j n l)

-- ---- The first period in which a depth one smaller discards

module _ (t : Tariff) (r : ℕ) (ds : List ℕ) {B : ℕ} (e : depth_of t r ds ≡ figures B) where
  abbrev C : ℕ
  C = B - 1

  abbrev y : ℕ
  y = start_at t C

  -- The depth that is answered meets the need of every stretch.
  stretch-met : (u v : ℕ) → 2 ≤ u → u ≤ v → v ≤ length ds → need_of r (from_to u v ds) ≤ B
  stretch-met u v h l m =
      let i : suc (u - 2) ≡ u - 1 = omega arith in
      let n : u - 1 + (v - (u - 1)) ≡ v = omega arith in
      let a = subst (λ (j : ℕ). need_before r (drop j ds) ≤ B) i ((depth_meets t r ds e).later (u - 2)) in
      let f = part r ds (u - 1) (v - (u - 1)) (omega arith) in
      omega (arith, a, front_need r (v - (u - 1)) (drop (u - 1) ds), ap (need_of r) f, ap (λ (j : ℕ). need_of r (slice (u - 1) j ds)) n)

  -- No short stretch ends before the opening that is named: what the periods from its end to the opening's demand,
  -- their tokens pay for, so the opening would be short at its end already.
  before-opening : (v : ℕ) → OpeningShort r y ds v → (w : ℕ) → w < v → StretchesMet r C ds w
  unfolding total
  before-opening v k w l u h m = go (ltb C (need_of r (from_to u w ds))) refl
    where
      go : (b : Bool) → ltb C (need_of r (from_to u w ds)) ≡ b → need_of r (from_to u w ds) ≤ C
      go false f = ltb-false C _ f
      go true f =
          absurd
          (omega (
            arith,
            ltb-true C (need_of r (from_to u w ds)) f,
            stretch-met u v h (omega arith) k.inside,
            k.short_of,
            k.least w (omega arith) l,
            need_sums r ds (u - 1) w (omega arith) (omega (arith, k.inside)),
            need_sums r ds (u - 1) v (omega arith) k.inside,
            need_sums r ds 0 w (omega arith) (omega (arith, k.inside)),
            need_sums r ds 0 v (omega arith) k.inside,
            mul-zero r,
          ))

  -- Periods whose openings and stretches are all met are carried.
  front-carried : (n : ℕ) → n ≤ length ds → ((w : ℕ) → 1 ≤ w → w ≤ n → need_of r (from_to 1 w ds) ≤ y)
      → ((w : ℕ) → 2 ≤ w → w ≤ n → StretchesMet r C ds w) → carries_from r C y (take n ds) ≡ true
  front-carried n l openings stretches =
      meets_carried r C y (take n ds) (all_met r (take n ds) y C (λ w i m. opens w i (inside w m)) (λ w i m u h j. ends w i (inside w m) u h j))
    where
      inside : (w : ℕ) → w ≤ length (take n ds) → w ≤ n
      inside w m = omega (arith, length-take-le n ds l)

      opens : (w : ℕ) → 1 ≤ w → w ≤ n → need_of r (from_to 1 w (take n ds)) ≤ y
      opens w i m = subst (λ (es : List ℕ). need_of r es ≤ y) (sym (take-take w n ds m)) (openings w i m)

      ends : (w : ℕ) → 2 ≤ w → w ≤ n → StretchesMet r C (take n ds) w
      ends w i m u h j =
          subst (λ (es : List ℕ). need_of r (drop (u - 1) es) ≤ C) (sym (take-take w n ds m)) (stretches w i m u h j)

  -- Period v is the first in which a fresh bucket one smaller discards.
  pub record FirstDiscards (v : ℕ) : Type 0 where
    pub carried : carries t.factor.p t.factor.q r C (take (v - 1) ds) ≡ true
    pub discards : carries t.factor.p t.factor.q r C (take v ds) ≡ false

  pub opening_first : (v : ℕ) → OpeningShort r y ds v → FirstDiscards v
  opening_first v k =
      record {
        carried =
            front-carried (v - 1) (omega (arith, k.inside)) (λ w i m. k.least w i (omega (arith, k.some)))
            (λ w i m. before-opening v k w (omega (arith, k.some)));
        discards = short-discards r C y _ k.short_of;
      }

  pub stretch_first : (u v : ℕ) → StretchShort r y C ds u v → FirstDiscards v
  stretch_first u v k =
      record {
        carried =
            front-carried (v - 1) (omega (arith, k.inside)) (λ w i m. k.openings w i (omega (arith, k.inside)))
            (λ w i m. k.least_last w i (omega (arith, k.late, k.ordered)));
        discards = not_true-false _ (λ f.
            let i : suc (u - 2) ≡ u - 1 = omega (arith, k.late) in
            let a =
            subst (λ (j : ℕ). need_before r (drop j (take v ds)) ≤ C) i ((carried_meets r C y (take v ds) f).later (u - 2)) in
            omega (arith, a, all_needed r (from_to u v ds), k.short_of));
      }

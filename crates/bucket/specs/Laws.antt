-- Laws of the bucket: conservation, what carrying is equivalent to, and what it is monotone in.
-- Each goes by induction over the periods, with arithmetic for one period.
-- Assumes nothing.
use Rattle.std.specs.Prelude.{ℕ, zero, suc, ◌+◌, ◌-◌, ◌*◌, ◌≤◌, ◌<◌, ◌≡◌, refl, Bool, true, false, ◌&&◌, cond, eqb, ltb, length, get_or, take, drop, ℤ, pos, negsuc, ◌-ℤ◌, ◌≤ℤ◌}
use Rattle.std.proofs.Common.{arith, add-zero, mul-suc, mul-le-mul_right, mul-le-mul_left, le-div_iff_mul-le, div-mul-le_self, le_trans, le_refl, sym, subst, ◌∙◌, ⊎_elim, eqb-true, eq-eqb, ne_eqb, ltb-true, ltb-false, get_or-drop}
use Rattle.std.proofs.Math.Nat.{sub-zero, div-le_of_le-mul, div-zero, min-eq_left, le-min}
use Rattle.std.proofs.Math.Bool.{and-true, and_assoc}
use mathlib.Core.List.Memᴰ
use mathlib.Core.List.{List, [], ◌∷◌, Memᴰ}
use Rattle.std.proofs.Math.Dec.{leb-suc-zero}
use Rattle.std.proofs.Math.IntN.{sub_ℕ}
use Rattle.std.specs.Int.Signed.{non_neg}
use Rattle.terms.specs.Limits.{demand_limit}
use Rattle.terms.specs.Bools.{and_both, both_and}
use Rattle.bucket.specs.Step.{start_of, over, held}
use Rattle.bucket.specs.Least.{min_nonneg, least_first, least-each, least_one}
use Rattle.bucket.specs.Trace.{Demands, held_after, sum_of, sent_all, over_all, lost_all, carries_from, carries, gap, gaps, min_z, least_of, spare_from}

-- Starting tokens plus r for each period is what was sent, lost and is still held.
pub conservation : (r B y : ℕ) (ds : List ℕ) → y + r * length ds ≡ sent_all r B y ds + lost_all r B y ds + held_after r B y ds
unfolding sum_of held_after
conservation r B y [] = omega arith
conservation r B y (d ∷ ds) = omega (arith, conservation r B (held r B y d) ds, mul-suc r (length ds))

-- A fresh bucket holds at most its depth.
pub start_le : (p q B : ℕ) → p ≤ q → start_of p q B ≤ B
unfolding start_of
start_le p q B h = div-le_of_le-mul q (mul-le-mul_right B h)

pub start_mono : (p q B C : ℕ) → B ≤ C → start_of p q B ≤ start_of p q C
unfolding start_of
start_mono p zero B C h = rw (div-zero (p * B), div-zero (p * C)) (omega arith)
start_mono p (suc q) B C h =
    let z : 0 < suc q = omega arith in
    (le-div_iff_mul-le z).1 (le_trans (div-mul-le_self (p * B) (suc q)) (mul-le-mul_left p h))

-- Carried exactly when nothing is over in all.
pub carried-over : (r B y : ℕ) (ds : List ℕ) → carries_from r B y ds ≡ true → over_all r B y ds ≡ 0
unfolding sum_of carries_from
carried-over r B y [] h = refl
carried-over r B y (d ∷ ds) h =
    let k = and_both (eqb (over r y d) 0) (carries_from r B (held r B y d) ds) h in
    omega (arith, eqb-true, carried-over r B (held r B y d) ds k.1)

pub over-carried : (r B y : ℕ) (ds : List ℕ) → over_all r B y ds ≡ 0 → carries_from r B y ds ≡ true
unfolding sum_of carries_from
over-carried r B y [] h = refl
over-carried r B y (d ∷ ds) h =
    both_and (eq-eqb (over r y d) 0 (omega arith)) (over-carried r B (held r B y d) ds (omega arith))

-- Of two traces of the same length, the first has at most the demand of the second in each period.
pub data Lighter : List ℕ → List ℕ → Type 0 where
  none : Lighter [] []
  more : {d e : ℕ} {ds es : List ℕ} → d ≤ e → Lighter ds es → Lighter (d ∷ ds) (e ∷ es)

pub lighter_self : (ds : List ℕ) → Lighter ds ds
lighter_self [] = none
lighter_self (d ∷ ds) = more (le_refl d) (lighter_self ds)

-- One period with at least the rate, the depth and the tokens, and at most the demand,
-- still has nothing over and holds at least as much.
period_more : (r s B C y z d e : ℕ) → r ≤ s → B ≤ C → y ≤ z → d ≤ e → over r y e ≡ 0 → (over s z d ≡ 0) × (held r B y e ≤ held s C z d)
period_more r s B C y z d e hr hB hy hd k =
    let f : e ≤ y + r = omega arith in
    let g : d ≤ z + s = omega arith in
    (omega arith, rw (min-eq_left f, min-eq_left g) (le-min (omega arith) (omega arith)))

-- Carrying goes up with rate, depth and tokens, and down with demand.
pub carried-more : (r s B C y z : ℕ) {ds es : List ℕ} → r ≤ s → B ≤ C → y ≤ z → Lighter ds es → carries_from r B y es ≡ true → carries_from s C z ds ≡ true
unfolding carries_from
carried-more r s B C y z hr hB hy none k = refl
carried-more r s B C y z hr hB hy (more {d} {e} {ds} {es} h l) k =
    let a = and_both (eqb (over r y e) 0) (carries_from r B (held r B y e) es) k in
    let b = period_more r s B C y z d e hr hB hy h (eqb-true _ _ a.0) in
    both_and (eq-eqb _ _ b.0) (carried-more r s B C (held r B y e) (held s C z d) hr hB b.1 l a.1)

module _ (p q r B : ℕ) (ds : List ℕ) where
  pub carries_deeper : (C : ℕ) → B ≤ C → carries p q r B ds ≡ true → carries p q r C ds ≡ true
  carries_deeper C h = carried-more r r B C _ _ (omega arith) h (start_mono p q B C h) (lighter_self ds)

  pub carries_faster : (s : ℕ) → r ≤ s → carries p q r B ds ≡ true → carries p q s B ds ≡ true
  carries_faster s h = carried-more r s B B _ _ h (omega arith) (omega arith) (lighter_self ds)

  pub carries_lighter : (es : List ℕ) → Lighter es ds → carries p q r B ds ≡ true → carries p q r B es ≡ true
  carries_lighter es l = carried-more r r B B _ _ (omega arith) (omega arith) (omega arith) l

-- Traces of 16-bit numbers: with one more period in front, without the first, the first n of one, and those after them.
pub demands-cons : {d : ℕ} {ds : List ℕ} → d ≤ demand_limit → Demands ds → Demands (d ∷ ds)
demands-cons {d} {ds} l k = record { each = each_of }
  where
    each_of : (i : ℕ) → get_or (d ∷ ds) i 0 ≤ demand_limit
    each_of zero = l
    each_of (suc i) = k.each i

pub demands-tail : {d : ℕ} {ds : List ℕ} → Demands (d ∷ ds) → Demands ds
demands-tail h = record { each = λ i. h.each (suc i) }

pub demands-take : (n : ℕ) (ds : List ℕ) → Demands ds → Demands (take n ds)
demands-take zero ds h = record { each = λ i. omega arith }
demands-take (suc n) [] h = h
demands-take (suc n) (d ∷ ds) h = demands-cons (h.each 0) (demands-take n ds (demands-tail h))

pub demands-drop : (n : ℕ) (ds : List ℕ) → Demands ds → Demands (drop n ds)
demands-drop n ds h = record { each = λ i. subst (λ (d : ℕ). d ≤ demand_limit) (sym (get_or-drop n ds i 0)) (h.each (n + i)) }

-- ---- Spare

pub sub_is : (a b : ℕ) → pos a -ℤ pos b ≡ sub_ℕ a b
sub_is a zero = rw (leb-suc-zero a, add-zero, sub-zero)
sub_is a (suc b) = refl

-- A period has nothing over exactly when its y + r − d is not below 0.
gap-over : (r y d : ℕ) → non_neg (gap r y d) ≡ eqb (over r y d) 0
gap-over r y d = rw (sub_is (y + r) d) (go (ltb (y + r) d) refl)
  where
    go : (b : Bool) → ltb (y + r) d ≡ b → non_neg (cond b (negsuc (d - suc (y + r))) (pos (y + r - d))) ≡ eqb (over r y d) 0
    go true h = sym (ne_eqb (over r y d) 0 (λ e. omega (arith, ltb-true)))
    go false h = sym (eq-eqb (over r y d) 0 (omega (arith, ltb-false)))

least-gaps : (r B y : ℕ) (z : ℤ) (ds : List ℕ) → non_neg (least_of z (gaps r B y ds)) ≡ non_neg z && carries_from r B y ds
unfolding least_of gaps carries_from
least-gaps r B y z [] = sym (and-true (non_neg z))
least-gaps r B y z (d ∷ ds) =
    least-gaps r B (held r B y d) (min_z z (gap r y d)) ds
    ∙ rw (min_nonneg z (gap r y d), gap-over r y d, and_assoc)

-- Carried exactly when spare is not below 0.
pub carried_spare : (r B y : ℕ) (ds : List ℕ) → non_neg (spare_from r B y ds) ≡ carries_from r B y ds
unfolding spare_from carries_from
carried_spare r B y [] = refl
carried_spare r B y (d ∷ ds) = least-gaps r B (held r B y d) (gap r y d) ds ∙ rw (gap-over r y d)

-- Spare is at most y + r − d in each period, and equal to it in one: it is the least of them.

pub spare_each : (r B y : ℕ) (ds : List ℕ) (x : ℤ) → Memᴰ x (gaps r B y ds) → spare_from r B y ds ≤ℤ x
unfolding gaps spare_from
spare_each r B y [] x m = absurd (Memᴰ.not-nil m)
spare_each r B y (d ∷ ds) x m =
    ⊎_elim (λ e. subst (λ (v : ℤ). least_of (gap r y d) (gaps r B (held r B y d) ds) ≤ℤ v) (sym e) (least_first (gap r y d) (gaps r B (held r B y d) ds)))
    (λ n. least-each (gap r y d) (gaps r B (held r B y d) ds) x n) (Memᴰ.cases_cons m)

pub spare_one : (r B y d : ℕ) (ds : List ℕ) → Memᴰ (spare_from r B y (d ∷ ds)) (gaps r B y (d ∷ ds))
unfolding gaps spare_from
spare_one r B y d ds = least_one (gap r y d) (gaps r B (held r B y d) ds)

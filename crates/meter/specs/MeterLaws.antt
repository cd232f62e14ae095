-- Laws of a meter record: its rules as orders and an equation of numbers, opening, and one offer.
-- Assumes nothing.
use Rattle.std.specs.Prelude.{ℕ, ◌+◌, ◌*◌, ◌≤◌, ◌<◌, ◌≡◌, refl, Bool, true, false, leb, ltb}
use Rattle.std.proofs.Common.{arith, mul-add, mul-le-mul, sym, ap, ◌∙◌}
use borrow.Author.Tests.{leb-true, le-leb, eqb-true, eq-eqb, lt-ltb, le-ltb, ltb-true, ltb-false}
use Rattle.terms.specs.Limits.{demand_limit, rate_limit, meter_limit, total_limit}
use Rattle.terms.specs.declared.Bucket.{Bucket}
use Rattle.terms.specs.declared.Factor.{Factor}
use Rattle.terms.specs.Answer.{figures, refused, weigh}
use Rattle.terms.specs.AnswerLaws.{figures-refused, same-figures, same_refusal}
use Rattle.terms.specs.Bools.{and_three, and_six, both_and}
use Rattle.terms.specs.Ranges.{fresh_ok}
use Rattle.terms.specs.RangeRules.{FreshRange}
use Rattle.terms.specs.RangeLaws.{fresh_range, fresh_ok_lem}
use Rattle.bucket.specs.Step.{start_of, sent, held, lost, period_of}
use Rattle.bucket.specs.Laws.{start_le}
use Rattle.meter.specs.declared.meters.Meter.{Meter}
use Rattle.meter.specs.Meter.{totals_ok, balanced, meter_ok, fresh_meter, open_of, offer_of, record_after}

pub record TotalsRange (m : Meter) : Type 0 where
  pub holds : m.held ≤ m.bucket.depth.0
  pub times : m.periods ≤ meter_limit
  pub sents : m.sent ≤ total_limit
  pub overs : m.over ≤ total_limit
  pub losts : m.lost ≤ total_limit
  pub paced : m.over ≤ demand_limit * m.periods

pub totals_range : (m : Meter) → totals_ok m ≡ true → TotalsRange m
totals_range m h =
    let s = leb m.sent total_limit in
    let o = leb m.over total_limit in
    let l = leb m.lost total_limit in
    let k = and_six (leb m.held m.bucket.depth.0) (leb m.periods meter_limit) s o l (leb m.over (demand_limit * m.periods)) h in
    omega (arith, leb-true)

pub totals_ok_lem : (m : Meter) → TotalsRange m → totals_ok m ≡ true
totals_ok_lem m k =
    both_and (both_and (both_and (both_and (both_and (le-leb _ _ k.holds) (le-leb _ _ k.times)) (le-leb _ _ k.sents)) (le-leb _ _ k.overs)) (le-leb _ _ k.losts)) (le-leb _ _ k.paced)

-- A record that breaks none of the rules of refusal 8, as orders and an equation of numbers.
pub record Sound (m : Meter) : Type 0 where
  pub fresh : FreshRange m.bucket m.factor
  pub totals : TotalsRange m
  pub balance : start_of m.factor.p m.factor.q m.bucket.depth.0 + m.bucket.rate.0 * m.periods ≡ m.sent + m.lost + m.held

pub meter_sound : (m : Meter) → meter_ok m ≡ true → Sound m
unfolding meter_ok
meter_sound m h =
    let k = and_three (fresh_ok m.bucket m.factor) (totals_ok m) (balanced m) h in
    record { fresh = fresh_range _ _ k.0; totals = totals_range m k.1; balance = eqb-true _ _ k.2 }

pub sound_meter : (m : Meter) → Sound m → meter_ok m ≡ true
unfolding meter_ok
sound_meter m k = both_and (both_and (fresh_ok_lem _ _ k.fresh) (totals_ok_lem m k.totals)) (eq-eqb _ _ k.balance)

-- ---- Opening

-- What opening gives is the fresh record, of a bucket and factor in their ranges.
pub open_fresh : (b : Bucket) (f : Factor) (m : Meter) → open_of b f ≡ figures m → (m ≡ fresh_meter b f) × FreshRange b f
open_fresh b f m e = go (fresh_ok b f) refl e
  where
    go : (t : Bool) → fresh_ok b f ≡ t → weigh t 5 (figures (fresh_meter b f)) ≡ figures m → (m ≡ fresh_meter b f) × FreshRange b f
    go true h k = (sym (same-figures k), fresh_range b f h)
    go false h k = absurd (figures-refused (sym k))

-- ---- One offer

module _ (m : Meter) (d : ℕ) where
  pub offer_broken : meter_ok m ≡ false → offer_of m d ≡ refused 8
  unfolding offer_of
  offer_broken h = rw h

  pub offer_full : meter_ok m ≡ true → meter_limit ≤ m.periods → offer_of m d ≡ refused 9
  unfolding offer_of
  offer_full h k = rw (h, le-ltb m.periods meter_limit k)

  pub offer_taken : meter_ok m ≡ true → m.periods < meter_limit
      → offer_of m d ≡ figures (period_of m.bucket.rate.0 m.bucket.depth.0 m.held d)
  unfolding offer_of
  offer_taken h k = rw (h, lt-ltb m.periods meter_limit k)

-- A refused offer counts nowhere.
pub offer_refused : (m : Meter) (d n : ℕ) → offer_of m d ≡ refused n → record_after m (offer_of m d) ≡ m
offer_refused m d n e = ap (record_after m) e

pub sound_never_8 : (m : Meter) (d : ℕ) → Sound m → offer_of m d ≡ refused 8 → ⊥
sound_never_8 m d k e = go (ltb m.periods meter_limit) refl
  where
    go : (b : Bool) → ltb m.periods meter_limit ≡ b → ⊥
    go true t = figures-refused (sym (offer_taken m d (sound_meter m k) (ltb-true _ _ t)) ∙ e)
    go false t = let z = same_refusal (sym (offer_full m d (sound_meter m k) (ltb-false _ _ t)) ∙ e) in omega arith

-- An accepted offer keeps the balance: what the period brings is what it sends, loses and leaves.
balance-more : (start r B y n s l d : ℕ) → start + r * n ≡ s + l + y → start + r * (n + 1) ≡ s + sent r y d + (l + lost r B y d) + held r B y d
balance-more start r B y n s l d e = omega (arith, mul-add r n 1)

-- It keeps a record sound: each total is within what the balance leaves.
pub taken_sound : (m : Meter) (d : ℕ) → Sound m → m.periods < meter_limit → d ≤ demand_limit
    → Sound (record_after m (figures (period_of m.bucket.rate.0 m.bucket.depth.0 m.held d)))
taken_sound m d k l h =
    let B = m.bucket.depth.0 in
    let e = balance-more _ m.bucket.rate.0 B m.held m.periods m.sent m.lost d k.balance in
    let n : m.periods + 1 ≤ meter_limit = omega arith in
    let g : m.bucket.rate.0 * (m.periods + 1) ≤ rate_limit * meter_limit = mul-le-mul k.fresh.bucket.rates n in
    let z = start_le m.factor.p m.factor.q B k.fresh.factor.part in
    record {
      fresh = k.fresh;
      totals = record {
        holds = omega arith;
        times = n;
        sents = omega (arith, k.fresh.bucket.depths);
        overs = omega (arith, k.totals.paced);
        losts = omega (arith, k.fresh.bucket.depths);
        paced = omega (arith, k.totals.paced);
      };
      balance = e;
    }

-- Laws of the meter over a list of offers: what it accepts, its totals, its balance, and when it refuses.
-- One induction over the offers, from any sound record; an opened meter is the case of a fresh one.
-- Assumes nothing.
use Prim.Native.Nat.{ℕ, suc, ◌+◌, ◌-◌, ◌*◌, ◌≤◌, ◌<◌, min}
use native.Mathlib.Omega.{arith}
use Rattle.std.proofs.Common.{add_assoc, sym, ap, subst, ◌∙◌, ltb-true, ltb-false, length-take, take_all}
use Rattle.std.specs.Prelude.{◌≡◌, refl, Bool, true, false, List, [], ◌∷◌, ltb, length, take}
use Rattle.std.proofs.Math.Seq.{take-nil}
use Rattle.terms.specs.declared.Bucket.{Bucket}
use Rattle.terms.specs.declared.Factor.{Factor}
use Rattle.terms.specs.Limits.{meter_limit}
use Rattle.terms.specs.Answer.{figures, refused, weigh, and_then}
use Rattle.terms.specs.AnswerLaws.{same-figures, then_found}
use Rattle.terms.specs.RangeRules.{FreshRange}
use Rattle.terms.specs.RangeLaws.{fresh_ok_lem}
use Rattle.bucket.specs.Step.{start_of, period_of}
use Rattle.bucket.specs.Trace.{Demands, held_after, sum_of, sent_all, over_all, lost_all, carries}
use Rattle.bucket.specs.Laws.{demands-tail, start_le, conservation, carried-over, over-carried}
use Rattle.meter.specs.declared.meters.Meter.{Meter}
use Rattle.meter.specs.Meter.{offer_of, record_after, fresh_meter, open_of, after_offers, accepted, offers_of, meter_run, meter_on}
use Rattle.meter.specs.MeterLaws.{Sound, open_fresh, sound_meter, offer_full, offer_taken, taken_sound, sound_never_8}

-- The record m once the demands ds have all been accepted: each figure is that of the definitions,
-- on top of what it was.
abbrev pub advanced : Meter → List ℕ → Meter
advanced m ds =
    let r = m.bucket.rate.0 in
    let B = m.bucket.depth.0 in
    record {
      bucket = m.bucket;
      factor = m.factor;
      held = held_after r B m.held ds;
      periods = m.periods + length ds;
      sent = m.sent + sent_all r B m.held ds;
      over = m.over + over_all r B m.held ds;
      lost = m.lost + lost_all r B m.held ds;
    }

meter_by : {b : Bucket} {f : Factor} {y n n' s s' o o' l l' : ℕ} → n ≡ n' → s ≡ s' → o ≡ o' → l ≡ l'
    → ◌≡◌ {A = Meter} (record { bucket = b; factor = f; held = y; periods = n; sent = s; over = o; lost = l })
    (record { bucket = b; factor = f; held = y; periods = n'; sent = s'; over = o'; lost = l' })
meter_by en es eo el = cc

advanced_none : (m : Meter) → m ≡ advanced m []
unfolding held_after sum_of
advanced_none m = meter_by (omega arith) (omega arith) (omega arith) (omega arith)

advanced-more : (m : Meter) (d : ℕ) (ds : List ℕ)
    → advanced (record_after m (figures (period_of m.bucket.rate.0 m.bucket.depth.0 m.held d))) ds ≡ advanced m (d ∷ ds)
unfolding held_after sum_of
advanced-more m d ds = meter_by (omega arith) (add_assoc _ _ _) (add_assoc _ _ _) (add_assoc _ _ _)

-- What any list of offers does to a sound record: it stays sound, takes offers until it is full, and counts just those.
pub record Metered (m : Meter) (ds : List ℕ) : Type 0 where
  pub sound : Sound (after_offers m ds)
  pub accepts : accepted m ds ≡ take (meter_limit - m.periods) ds
  pub records : after_offers m ds ≡ advanced m (take (meter_limit - m.periods) ds)

module _ (m : Meter) (d : ℕ) (ds : List ℕ) (k : Sound m) where
  metered_taken : m.periods < meter_limit → Metered (record_after m (figures (period_of m.bucket.rate.0 m.bucket.depth.0 m.held d))) ds
      → Metered m (d ∷ ds)
  unfolding after_offers accepted
  metered_taken l g =
      let e = offer_taken m d (sound_meter m k) l in
      let n : meter_limit - m.periods ≡ suc (meter_limit - (m.periods + 1)) = omega arith in
      record {
        sound = rw e g.sound;
        accepts = rw (e, n) (ap (d ∷◌) g.accepts);
        records = rw (e, n) (g.records ∙ advanced-more m d (take (meter_limit - (m.periods + 1)) ds));
      }

  metered_full : meter_limit ≤ m.periods → Metered m ds → Metered m (d ∷ ds)
  unfolding after_offers accepted
  metered_full l g =
      let e = offer_full m d (sound_meter m k) l in
      let n : meter_limit - m.periods ≡ 0 = omega arith in
      record { sound = rw e g.sound; accepts = rw (e, n) (rw n at g.accepts); records = rw (e, n) (rw n at g.records) }

pub metered : (m : Meter) (ds : List ℕ) → Sound m → Demands ds → Metered m ds
unfolding after_offers accepted
metered m [] k h = record { sound = k; accepts = sym (take-nil (meter_limit - m.periods)); records = rw (take-nil {A = ℕ} (meter_limit - m.periods)) (advanced_none m) }
metered m (d ∷ ds) k h =
    go (ltb m.periods meter_limit) refl (λ l. metered (record_after m (figures (period_of m.bucket.rate.0 m.bucket.depth.0 m.held d))) ds (taken_sound m d k l (h.each 0)) (demands-tail h)) (metered m ds k (demands-tail h))
  where
    go : (b : Bool) → ltb m.periods meter_limit ≡ b
        → (m.periods < meter_limit → Metered (record_after m (figures (period_of m.bucket.rate.0 m.bucket.depth.0 m.held d))) ds)
        → Metered m ds → Metered m (d ∷ ds)
    go true e next same = let l = ltb-true _ _ e in metered_taken m d ds k l (next l)
    go false e next same = metered_full m d ds k (ltb-false _ _ e) same

-- Where a sound record has periods to spare no offer is refused.
pub offers_taken : (m : Meter) (ds : List ℕ) → Sound m → Demands ds → m.periods + length ds ≤ meter_limit → offers_of m ds ≡ figures (after_offers m ds)
unfolding offers_of after_offers
offers_taken m [] k h l = refl
offers_taken m (d ∷ ds) k h l =
    let n : m.periods < meter_limit = omega arith in
    let e = offer_taken m d (sound_meter m k) n in
    rw e (offers_taken (record_after m (figures (period_of m.bucket.rate.0 m.bucket.depth.0 m.held d))) ds (taken_sound m d k n (h.each 0)) (demands-tail h) (omega arith))

-- ---- An opened meter

module _ (b : Bucket) (f : Factor) (range : FreshRange b f) where
  pub opened_sound : Sound (fresh_meter b f)
  opened_sound =
      let B = b.depth.0 in
      let z : start_of f.p f.q B ≤ B = start_le f.p f.q B range.factor.part in
      record {
        fresh = range;
        totals = record { holds = z; times = omega arith; sents = omega arith; overs = omega arith; losts = omega arith; paced = omega arith };
        balance = omega arith;
      }

  module _ (ds : List ℕ) (h : Demands ds) where
    all : Metered (fresh_meter b f) ds
    all = metered (fresh_meter b f) ds opened_sound h

    -- It accepts the first 1,000,000 offers and refuses the others.
    pub opened_accepts : accepted (fresh_meter b f) ds ≡ take meter_limit ds
    opened_accepts = all.accepts

    first : after_offers (fresh_meter b f) ds ≡ meter_on b f (take meter_limit ds)
    first = all.records ∙ meter_by (omega arith) (omega arith) (omega arith) (omega arith)

    -- Each total is the sum over the accepted offers.
    pub opened_totals : after_offers (fresh_meter b f) ds ≡ meter_on b f (accepted (fresh_meter b f) ds)
    opened_totals = first ∙ ap (meter_on b f) (sym opened_accepts)

    -- starting tokens + r × periods = sent + lost + tokens held
    pub opened_balance : let m = after_offers (fresh_meter b f) ds in
        start_of f.p f.q b.depth.0 + b.rate.0 * m.periods ≡ m.sent + m.lost + m.held
    opened_balance = rw first (conservation b.rate.0 b.depth.0 (start_of f.p f.q b.depth.0) (take meter_limit ds))

    periods_are : (after_offers (fresh_meter b f) ds).periods ≡ min meter_limit (length ds)
    periods_are = ap (λ (m : Meter). m.periods) first ∙ length-take meter_limit ds

    -- It meets refusal 9 exactly after 1,000,000 periods, and refusal 8 never.
    pub opened_full : (d : ℕ) → meter_limit ≤ length ds → offer_of (after_offers (fresh_meter b f) ds) d ≡ refused 9
    opened_full d l = offer_full _ d (sound_meter _ all.sound) (omega (arith, periods_are))

    pub opened_takes : (d : ℕ) → length ds < meter_limit → let m = after_offers (fresh_meter b f) ds in
        offer_of m d ≡ figures (period_of b.rate.0 b.depth.0 m.held d)
    opened_takes d l =
        offer_taken _ d (sound_meter _ all.sound) (omega (arith, periods_are))
        ∙ ap (λ (m : Meter). figures (period_of m.bucket.rate.0 m.bucket.depth.0 (after_offers (fresh_meter b f) ds).held d)) first

    pub opened_never_8 : (d : ℕ) → offer_of (after_offers (fresh_meter b f) ds) d ≡ refused 8 → ⊥
    opened_never_8 d e = sound_never_8 _ d all.sound e

    -- On a trace of at most 1,000,000 periods every total is the definition's,
    -- and over is 0 exactly when the bucket carries the trace.
    pub opened_trace : length ds ≤ meter_limit → after_offers (fresh_meter b f) ds ≡ meter_on b f ds
    opened_trace l = first ∙ ap (meter_on b f) (take_all meter_limit ds l)

    -- … and a meter opened on the bucket and offered the trace refuses nothing.
    pub run-metered : length ds ≤ meter_limit → meter_run b f ds ≡ figures (meter_on b f ds)
    run-metered l =
        ap (λ (ok : Bool). and_then (weigh ok 5 (figures (fresh_meter b f))) (λ m. offers_of m ds)) (fresh_ok_lem b f range)
        ∙ offers_taken (fresh_meter b f) ds opened_sound h (omega arith)
        ∙ ap figures (opened_trace l)

    pub run_sound : length ds ≤ meter_limit → (m : Meter) → meter_run b f ds ≡ figures m → Sound m
    run_sound l m e = subst Sound (opened_trace l ∙ same-figures (sym (run-metered l) ∙ e)) all.sound

    over-is : length ds ≤ meter_limit
        → (after_offers (fresh_meter b f) ds).over ≡ over_all b.rate.0 b.depth.0 (start_of f.p f.q b.depth.0) ds
    over-is l = ap (λ (m : Meter). m.over) (opened_trace l)

    pub opened_carries : length ds ≤ meter_limit → carries f.p f.q b.rate.0 b.depth.0 ds ≡ true
        → (after_offers (fresh_meter b f) ds).over ≡ 0
    opened_carries l k = over-is l ∙ carried-over _ _ _ ds k

    pub carries_opened : length ds ≤ meter_limit → (after_offers (fresh_meter b f) ds).over ≡ 0
        → carries f.p f.q b.rate.0 b.depth.0 ds ≡ true
    carries_opened l k = over-carried _ _ _ ds (sym (over-is l) ∙ k)

-- What any meter holds that has taken a run: its figures are in their ranges.
pub metered-sound : (b : Bucket) (f : Factor) (ds : List ℕ) → Demands ds → length ds ≤ meter_limit → (m : Meter) → meter_run b f ds ≡ figures m → Sound m
metered-sound b f ds h l m e =
    let o = then_found (open_of b f) (λ m. offers_of m ds) e in
    run_sound b f (open_fresh b f o.0 o.1).1 ds h l m e

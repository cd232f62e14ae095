-- The meter: its record, opening it, and one offer (01, "The bucket"; refusals 5, 8 and 9).
-- Assumes nothing.
use Rattle.std.specs.Prelude.{ℕ, ◌+◌, ◌*◌, ◌≡◌, Bool, ◌&&◌, List, [], ◌∷◌, leb, ltb, eqb, length}
use Rattle.terms.specs.declared.Bucket.{Bucket}
use Rattle.terms.specs.declared.Factor.{Factor}
use Rattle.terms.specs.Answer.{Answer, figures, refused, weigh, and_then}
use Rattle.terms.specs.Refusals.{says}
use Rattle.terms.specs.Limits.{demand_limit, meter_limit, total_limit}
use Rattle.terms.specs.Ranges.{fresh_ok}
use Rattle.bucket.specs.declared.period.Period.{Period}
use Rattle.bucket.specs.Step.{start_of, period_of}
use Rattle.bucket.specs.Trace.{held_after, sent_all, over_all, lost_all}
use Rattle.meter.specs.declared.meters.Meter.{Meter}
use Rattle.meter.specs.declared.meters.Offered.{Offered}

-- Tokens held, periods and totals within their limits.
abbrev pub totals_ok : Meter → Bool
totals_ok m =
    leb m.held m.bucket.depth.0 && leb m.periods meter_limit && leb m.sent total_limit && leb m.over total_limit
    && leb m.lost total_limit && leb m.over (demand_limit * m.periods)

-- starting tokens + r × periods = sent + lost + tokens held
abbrev pub balanced : Meter → Bool
balanced m =
    eqb (start_of m.factor.p m.factor.q m.bucket.depth.0 + m.bucket.rate.0 * m.periods) (m.sent + m.lost + m.held)

-- A record that breaks none of the rules of refusal 8.
unfoldable pub meter_ok : Meter → Bool
meter_ok m = fresh_ok m.bucket m.factor && totals_ok m && balanced m

-- The record of a meter that has taken no offer: the bucket is fresh.
abbrev pub fresh_meter : Bucket → Factor → Meter
fresh_meter b f =
    record { bucket = b; factor = f; held = start_of f.p f.q b.depth.0; periods = 0; sent = 0; over = 0; lost = 0 }

-- Opening: 5 for a bucket or factor outside its range.
abbrev pub open_of : Bucket → Factor → Answer Meter
open_of b f = weigh (fresh_ok b f) 5 (figures (fresh_meter b f))

-- Offering: 8 for a record that breaks a rule, 9 for a full meter; else one period of the bucket.
unfoldable pub offer_of : Meter → ℕ → Answer Period
offer_of m d =
    weigh (meter_ok m) 8
    (weigh (ltb m.periods meter_limit) 9 (figures (period_of m.bucket.rate.0 m.bucket.depth.0 m.held d)))

-- The record after an answered offer: an accepted one counts in each total, a refused one nowhere.
abbrev pub record_after : Meter → Answer Period → Meter
record_after m (refused n) = m
record_after m (figures x) =
    record {
      bucket = m.bucket;
      factor = m.factor;
      held = x.held;
      periods = m.periods + 1;
      sent = m.sent + x.sent;
      over = m.over + x.over;
      lost = m.lost + x.lost;
    }

-- The record after a list of offers, each made on the record from the one before.
unfoldable pub after_offers : Meter → List ℕ → Meter
after_offers m [] = m
after_offers m (d ∷ ds) = after_offers (record_after m (offer_of m d)) ds

-- The offers of a list that are accepted, in order.
abbrev pub kept_if : Answer Period → ℕ → List ℕ → List ℕ
kept_if (figures x) d ds = d ∷ ds
kept_if (refused n) d ds = ds

unfoldable pub accepted : Meter → List ℕ → List ℕ
accepted m [] = []
accepted m (d ∷ ds) = kept_if (offer_of m d) d (accepted (record_after m (offer_of m d)) ds)

-- The record that a list of offers leaves where each is accepted, or the first refusal.
unfoldable pub offers_of : Meter → List ℕ → Answer Meter
offers_of m [] = figures m
offers_of m (d ∷ ds) = and_then (offer_of m d) (λ x. offers_of (record_after m (figures x)) ds)

-- A meter opened on a bucket with a factor and offered a run's demands, first to last.
abbrev pub meter_run : Bucket → Factor → List ℕ → Answer Meter
meter_run b f ds = and_then (open_of b f) (λ m. offers_of m ds)

-- The record of a meter opened on (b, f) that has accepted the demands ds: its figures are those of the definitions.
abbrev pub meter_on : Bucket → Factor → List ℕ → Meter
meter_on b f ds =
    let y = start_of f.p f.q b.depth.0 in
    record {
      bucket = b;
      factor = f;
      held = held_after b.rate.0 b.depth.0 y ds;
      periods = length ds;
      sent = sent_all b.rate.0 b.depth.0 y ds;
      over = over_all b.rate.0 b.depth.0 y ds;
      lost = lost_all b.rate.0 b.depth.0 y ds;
    }

-- What an offer promises: the answer, and the record that comes back with it.
pub record Answered (m : Meter) (d : ℕ) (r : Offered) : Type 0 where
  pub answers : says r.answer ≡ offer_of m d
  pub records : r.meter ≡ record_after m (offer_of m d)

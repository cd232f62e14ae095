-- The meters of a plan, run by run: how the totals grow, and that what is left to meter completes them.
-- Assumes nothing.
use Rattle.std.specs.Prelude.{ℕ, ◌+◌, ◌-◌, ◌*◌, ◌≤◌, ◌≡◌, refl, length, take, drop}
use Rattle.std.proofs.Common.{arith, add_assoc, zero-add, add-zero, subst, ◌∙◌, length-take, length-drop}
use Rattle.std.proofs.Math.Path.{sym, ap}
use mathlib.Core.List.{List, [], ◌∷◌}
use Rattle.terms.specs.declared.BucketRecord.{BucketRecord}
use Rattle.terms.specs.declared.Factor.{Factor}
use Rattle.terms.specs.Answer.{Answer, figures, refused, on_figures, and_then}
use Rattle.terms.specs.Limits.{meter_limit, total_limit, trace_limit}
use Rattle.terms.specs.Records.{Cutting, run_length, total}
use Rattle.bucket.specs.Laws.{demands-take, demands-drop}
use Rattle.bucket.specs.Trace.{Demands}
use Rattle.meter.specs.declared.meters.Meter.{Meter}
use Rattle.meter.specs.Meter.{meter_run}
use Rattle.meter.specs.MeterLaws.{Sound}
use Rattle.meter.specs.MeterRuns.{metered-sound}
use Rattle.recording.specs.declared.metering.MeterTotals.{MeterTotals}
use Rattle.recording.specs.Recording.{meters_of, totals_of}

abbrev pub none : MeterTotals
none = record { sent = 0; over = 0; lost = 0; held = 0 }

-- Totals with one meter more.
abbrev pub added : MeterTotals → Meter → MeterTotals
added t m = record { sent = t.sent + m.sent; over = t.over + m.over; lost = t.lost + m.lost; held = t.held + m.held }

-- The totals of at most n meters.
pub record Few (n : ℕ) (t : MeterTotals) : Type 0 where
  pub sents : t.sent ≤ total_limit * n
  pub overs : t.over ≤ total_limit * n
  pub losts : t.lost ≤ total_limit * n
  pub helds : t.held ≤ total_limit * n

totals_by : {s s' o o' l l' h h' : ℕ} → s ≡ s' → o ≡ o' → l ≡ l' → h ≡ h'
    → ◌≡◌ {A = MeterTotals} (record { sent = s; over = o; lost = l; held = h }) (record { sent = s'; over = o'; lost = l'; held = h' })
totals_by es eo el eh = cc

-- Two totals together.
abbrev plus : MeterTotals → MeterTotals → MeterTotals
plus t u = record { sent = t.sent + u.sent; over = t.over + u.over; lost = t.lost + u.lost; held = t.held + u.held }

plus_none : (t : MeterTotals) → plus t (totals_of []) ≡ t
unfolding total
plus_none t = totals_by (add-zero _) (add-zero _) (add-zero _) (add-zero _)

none_plus : (t : MeterTotals) → plus none t ≡ t
none_plus t = totals_by (zero-add _) (zero-add _) (zero-add _) (zero-add _)

plus-more : (t : MeterTotals) (m : Meter) (ms : List Meter) → plus t (totals_of (m ∷ ms)) ≡ plus (added t m) (totals_of ms)
unfolding total
plus-more t m ms = totals_by (sym (add_assoc _ _ _)) (sym (add_assoc _ _ _)) (sym (add_assoc _ _ _)) (sym (add_assoc _ _ _))

-- What the meters still to come make of the totals so far.
abbrev completed : MeterTotals → Answer (List Meter) → Answer MeterTotals
completed t = on_figures (λ ms. plus t (totals_of ms))

completed_none : (a : Answer (List Meter)) → completed none a ≡ on_figures totals_of a
completed_none (figures ms) = ap figures (none_plus (totals_of ms))
completed_none (refused n) = refl

completed-more : (t : MeterTotals) (m : Meter) (a : Answer (List Meter)) → completed t (on_figures (m ∷◌) a) ≡ completed (added t m) a
completed-more t m (figures ms) = ap figures (plus-more t m ms)
completed-more t m (refused n) = refl

-- i of a plan's runs are metered, and the totals so far are t: the records xs and the rest of the trace, which their
-- runs make up, are left. `whole` is what all the meters end with.
pub record Metering (f : Factor) (whole : Answer MeterTotals) (t : MeterTotals) (i : ℕ) (rest : List ℕ) (xs : Cutting) : Type 0 where
  pub few : Few i t
  pub short : length rest ≤ trace_limit
  pub demands : Demands rest
  pub runs : total run_length xs ≡ length rest
  pub is : completed t (meters_of f rest xs) ≡ whole

pub none_metered : (f : Factor) (ds : List ℕ) (xs : Cutting) → length ds ≤ trace_limit → Demands ds → total run_length xs ≡ length ds
    → Metering f (on_figures totals_of (meters_of f ds xs)) none 0 ds xs
none_metered f ds xs l d e =
    record {
      few = record { sents = omega arith; overs = omega arith; losts = omega arith; helds = omega arith };
      short = l;
      demands = d;
      runs = e;
      is = completed_none (meters_of f ds xs);
    }

module _ {f : Factor} {whole : Answer MeterTotals} {t : MeterTotals} {i : ℕ} {rest : List ℕ} {left : Cutting} (s : Metering f whole t i rest left) where
  pub all_metered : left ≡ [] → figures t ≡ whole
  unfolding meters_of
  all_metered e = ap figures (sym (plus_none t)) ∙ ap (λ (xs : Cutting). completed t (meters_of f rest xs)) (sym e) ∙ s.is

  -- The next run, of the record x: `run` is its part of the trace, and `later` what follows.
  module _ (x : BucketRecord) (xs : Cutting) (e : left ≡ x ∷ xs) where
    pub run_inside : run_length x ≤ length rest
    unfolding total
    run_inside = omega (arith, s.runs, ap (total run_length) e)

    module _ (run later : List ℕ) (front : run ≡ take (run_length x) rest) (back : later ≡ drop (run_length x) rest) where
      abbrev metered : Answer Meter
      metered = meter_run x.bucket f run

      abbrev onward : Answer Meter → Answer MeterTotals
      onward a = completed t (and_then a (λ m. on_figures (m ∷◌) (meters_of f later xs)))

      next : onward metered ≡ whole
      unfolding meters_of
      next = rw (front, back) (ap (λ (ys : Cutting). completed t (meters_of f rest ys)) (sym e) ∙ s.is)

      pub run_refused : (n : ℕ) → refused n ≡ metered → refused n ≡ whole
      run_refused n g = ap onward g ∙ next

      module _ (m : Meter) (g : figures m ≡ metered) where
        pub run_metered : Sound m
        run_metered =
            let few : length run ≤ meter_limit = omega (arith, s.short, ap length front, length-take (run_length x) rest) in
            let demands : Demands run = subst Demands (sym front) (demands-take (run_length x) rest s.demands) in
            metered-sound x.bucket f run demands few m (sym g)

        pub one_metered : (u : MeterTotals) → u ≡ added t m → Metering f whole u (i + 1) later xs
        unfolding total
        one_metered u h =
            let o = run_metered in
            let l : length later ≡ length rest - run_length x = ap length back ∙ length-drop (run_length x) rest in
            let one : Metering f whole (added t m) (i + 1) later xs =
            record {
              few = record {
                sents = omega (arith, s.few.sents, o.totals.sents);
                overs = omega (arith, s.few.overs, o.totals.overs);
                losts = omega (arith, s.few.losts, o.totals.losts);
                helds = omega (arith, s.few.helds, o.totals.holds, o.fresh.bucket.depths);
              };
              short = omega (arith, s.short, l);
              demands = subst Demands (sym back) (demands-drop (run_length x) rest s.demands);
              runs = omega (arith, s.runs, ap (total run_length) e, l);
              is = sym (completed-more t m (meters_of f later xs)) ∙ ap onward g ∙ next;
            } in
            subst (λ (v : MeterTotals). Metering f whole v (i + 1) later xs) (sym h) one

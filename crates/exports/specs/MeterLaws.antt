-- A meter over a list of offers: each refusal, and the figures stored.
-- Assumes nothing.
use Rattle.std.specs.Prelude.{ℕ, ◌≤◌, ◌≡◌, refl, true, false, List, leb, length}
use Rattle.std.proofs.Common.{sym, ap, ◌∙◌}
use Rattle.std.proofs.lemmas.List.Edits.{sets}
use Rattle.terms.specs.declared.Bucket.{Bucket}
use Rattle.terms.specs.declared.Factor.{Factor}
use Rattle.terms.specs.Answer.{Answer, figures, refused, on_figures}
use Rattle.terms.specs.Lent.{filled}
use Rattle.terms.specs.Ranges.{fresh_ok}
use Rattle.encoding.specs.StoreLaws.{sets_front}
use Rattle.meter.specs.declared.meters.Meter.{Meter}
use Rattle.meter.specs.Meter.{meter_run}
use Rattle.exports.specs.Answers.{coded, meter_figures, meter_in}

module _ (b : Bucket) (f : Factor) (ds old : List ℕ) where
  abbrev metering : Answer Meter
  metering = meter_in (length old) b f ds

  -- r is answered, and the totals that held `old` hold `new`.
  abbrev pub MetersCoded : ℕ → List ℕ → Type 0
  MetersCoded r new = (r ≡ coded (on_figures (λ m. m.periods) metering)) × (new ≡ filled (on_figures meter_figures metering) old)

  coded_as : (a : Answer Meter) → metering ≡ a → (r : ℕ) (new : List ℕ)
      → r ≡ coded (on_figures (λ m. m.periods) a) → new ≡ filled (on_figures meter_figures a) old → MetersCoded r new
  coded_as a e r new g h =
      (g ∙ sym (ap (λ (x : Answer Meter). coded (on_figures (λ m. m.periods) x)) e), h ∙ sym (ap (λ (x : Answer Meter). filled (on_figures meter_figures x) old) e))

  refused_as : (n : ℕ) → metering ≡ refused n → (r : ℕ) → r ≡ coded (refused n) → MetersCoded r old
  refused_as n e r g = coded_as (refused n) e r old g refl

  pub meter_figures_lem : fresh_ok b f ≡ false → (r : ℕ) → r ≡ coded (refused 5) → MetersCoded r old
  unfolding meter_in
  meter_figures_lem e = refused_as 5 (rw e)

  module _ (e : fresh_ok b f ≡ true) where
    pub meter_list : leb 5 (length old) ≡ false → (r : ℕ) → r ≡ coded (refused 6) → MetersCoded r old
    unfolding meter_in
    meter_list g = refused_as 6 (rw (e, g))

    module _ (g : leb 5 (length old) ≡ true) where
      run_is : metering ≡ meter_run b f ds
      unfolding meter_in
      run_is = rw (e, g)

      pub meter_refused : (n : ℕ) → meter_run b f ds ≡ refused n → (r : ℕ) → r ≡ coded (refused n) → MetersCoded r old
      meter_refused n h = refused_as n (run_is ∙ h)

      pub meter_totals : (m : Meter) → meter_run b f ds ≡ figures m → 5 ≤ length old → (new : List ℕ) → new ≡ sets old 0 (meter_figures m) → MetersCoded m.periods new
      meter_totals m h l new s = coded_as (figures m) (run_is ∙ h) m.periods new refl (s ∙ sets_front (meter_figures m) old l)

-- Booking: once the demands of the order and the records of the calls are stored in the lent lists, the claim holds of
-- these.
-- Assumes nothing.
use Rattle.std.specs.Prelude.{ℕ, ◌≤◌, ◌≡◌, refl, List, length}
use Rattle.std.proofs.Common.{arith, sym, ap, subst, ◌∙◌}
use Rattle.terms.specs.Answer.{Answer, figures, refused, on_figures}
use Rattle.terms.specs.AnswerLaws.{on_figures_lem, on_refused}
use Rattle.terms.specs.Lent.{filled}
use Rattle.terms.specs.Records.{Cutting}
use Rattle.encoding.specs.NumberLaws.{Bytes}
use Rattle.order_file.specs.Order.{trace_part}
use Rattle.order_file.specs.OrderRules.{spread_rules}
use Rattle.planning.specs.PlannedLaws.{IsPlanned, is-planned}
use Rattle.booking.specs.declared.calls.BookedRecords.{BookedRecords}
use Rattle.booking.specs.Booking.{Lent, Steps, lent, answer_of, lent_after}
use Rattle.booking.specs.CallLaws.{Sizes, Called, sizes_of, booked_in, booked_records}
use Rattle.booking.specs.Claim.{Claim}
use Rattle.booking.specs.ClaimLaws.{booked-sizes, claim-holds}
use Rattle.booking.specs.StepLaws.{Found, found_back, found-same, planned-short, steps-found}

lent_by : {a a' : List ℕ} {b b' : Cutting} {c c' : List ℕ} {d d' : Cutting} → a ≡ a' → b ≡ b' → c ≡ c' → d ≡ d' → lent a b c d ≡ lent a' b' c' d'
lent_by e f g h = rw (e, f, g, h)

module _ (bs : List ℕ) (h : Bytes bs) (old : Lent) (bytes : List ℕ) where
  abbrev z : Sizes
  z = sizes_of old

  abbrev all : Answer Steps
  all = booked_in z bs

  pub refused-claim : (n : ℕ) → Called bs z old.bytes bytes (refused n) → Claim bs old (lent old.demands old.plan bytes old.back) (refused n)
  refused-claim n c =
      let none : all ≡ refused n = on_refused booked_records all (sym c.answers) in
      let same = booked-sizes old bs ∙ none in
      let written = c.writes ∙ ap (λ (a : Answer Steps). filled (on_figures (λ s. s.recording.file) a) old.bytes) none in
      claim-holds bs h old (lent old.demands old.plan bytes old.back) (refused n)
      (sym (ap (on_figures answer_of) same))
      (lent_by refl refl written refl ∙ ap (λ (a : Answer Steps). lent_after a old) (sym same))

  module _ (r : BookedRecords) (c : Called bs z old.bytes bytes (figures r)) where
    made : (s : Steps) × (all ≡ figures s) × (booked_records s ≡ r)
    made = on_figures_lem booked_records all (sym c.answers)

    abbrev s : Steps
    s = made.0

    found : Found bs z s
    found = steps-found bs z s made.1

    is : IsPlanned z.demands z.plan bs s.planning
    is = is-planned z.demands z.plan bs s.planning found.is_plan

    -- What is stored fits the lent lists.
    pub demands_fit : length r.order.demands ≤ length old.demands
    demands_fit =
        let same : length r.order.demands ≡ length s.planning.demands = ap (λ (y : BookedRecords). length y.order.demands) (sym made.2) in
        omega (arith, same, (spread_rules z.demands (trace_part bs) s.planning.demands is.as_ordered.spread).1)

    pub plan_fits : length r.plan ≤ length old.plan
    plan_fits =
        let same : length r.plan ≡ length s.planning.cutting = ap (λ (y : BookedRecords). length y.plan) (sym made.2) in
        omega (arith, same, (planned-short bs z.demands z.plan s.planning is).0)

    pub back_fits : length r.back ≤ length old.back
    back_fits =
        let same : length r.back ≡ length s.recording.plan.buckets = ap (λ (y : BookedRecords). length y.back) (sym made.2) in
        omega (arith, same, ap length (found-same bs z s found), found_back bs z s found)

    pub booked-claim : (demands : List ℕ) (plan back : Cutting) → demands ≡ filled (figures r.order.demands) old.demands
        → plan ≡ filled (figures r.plan) old.plan → back ≡ filled (figures r.back) old.back
        → Claim bs old (lent demands plan bytes back) (figures r.booking)
    booked-claim demands plan back d p q =
        let same = booked-sizes old bs ∙ made.1 in
        let written = c.writes ∙ ap (λ (a : Answer Steps). filled (on_figures (λ t. t.recording.file) a) old.bytes) made.1 in
        claim-holds bs h old (lent demands plan bytes back) (figures r.booking)
        (ap (λ (y : BookedRecords). figures y.booking) (sym made.2) ∙ ap (on_figures answer_of) (sym same))
        (lent_by
        (d ∙ ap (λ (y : BookedRecords). filled (figures y.order.demands) old.demands) (sym made.2))
        (p ∙ ap (λ (y : BookedRecords). filled (figures y.plan) old.plan) (sym made.2))
        written
        (q ∙ ap (λ (y : BookedRecords). filled (figures y.back) old.back) (sym made.2))
        ∙ ap (λ (a : Answer Steps). lent_after a old) (sym same))

  -- So booking keeps the claim on what is lent, whatever it answers.
  pub records-claim : (a : Answer BookedRecords) → Called bs z old.bytes bytes a → (demands : List ℕ) (plan back : Cutting)
      → demands ≡ filled (on_figures (λ r. r.order.demands) a) old.demands → plan ≡ filled (on_figures (λ r. r.plan) a) old.plan
      → back ≡ filled (on_figures (λ r. r.back) a) old.back → Claim bs old (lent demands plan bytes back) (on_figures (λ r. r.booking) a)
  records-claim (figures r) c demands plan back d p q = booked-claim r c demands plan back d p q
  records-claim (refused n) c demands plan back d p q =
      subst (λ (x : Lent). Claim bs old x (refused n)) (lent_by (sym d) (sym p) refl (sym q)) (refused-claim n c)

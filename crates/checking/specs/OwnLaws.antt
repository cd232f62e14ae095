-- A plan of our own gets a yes and an excess of 0: the one that planning finds for an order, and so whatever booking
-- recorded for it.
-- Assumes nothing.
use Rattle.std.specs.Prelude.{ℕ, ◌≤◌, ◌≡◌, List, take}
use Rattle.std.proofs.Common.{sym, ap, subst, ◌∙◌}
use Rattle.terms.specs.Answer.{Answer, figures}
use Rattle.terms.specs.AnswerLaws.{on_figures_lem}
use Rattle.terms.specs.LentLaws.{filled-front}
use Rattle.series.specs.Series.{true_cost_of}
use Rattle.order_file.specs.declared.orders.Order.{Order}
use Rattle.order_file.specs.OrderedLaws.{ordered_as}
use Rattle.plan_file.specs.declared.answers.Recorded.{Recorded}
use Rattle.plan_file.specs.Plan.{plan_in}
use Rattle.plan_file.specs.PlanRules.{read-holds}
use Rattle.planning.specs.Planning.{Planned}
use Rattle.planning.specs.PlannedLaws.{IsPlanned, is-planned}
use Rattle.recording.specs.declared.recorded.Booking.{Booking}
use Rattle.booking.specs.Booking.{Lent, Steps, booked, answer_of, lent_after}
use Rattle.booking.specs.BookingLaws.{planned-series}
use Rattle.booking.specs.CallLaws.{Sizes, sizes_of}
use Rattle.booking.specs.Claim.{cost_in, Claim}
use Rattle.booking.specs.ClaimLaws.{booked-sizes}
use Rattle.booking.specs.StepLaws.{Found, found-recorded, steps-found}
use Rattle.checking.specs.declared.verdicts.Verdict.TheVariants.{Yes}
use Rattle.checking.specs.Check.{check_of}
use Rattle.checking.specs.CheckLaws.{Right, least-yes}

-- A plan found for an order, as a file that holds it reads.
abbrev pub own_plan : Planned → Recorded
own_plan x = record { periods = x.order.periods; cost = true_cost_of x.order.tariff x.cutting; buckets = x.cutting }

pub planned-yes : {space room : ℕ} {order : List ℕ} {x : Planned} → IsPlanned space room order x → (plan : List ℕ) → plan_in plan ≡ figures (own_plan x) → check_of order plan ≡ figures (Yes 0)
planned-yes {space} {room} {order} {x} is plan e =
    let o = ordered_as is.as_ordered in
    let s = planned-series is in
    let cost : true_cost_of x.order.tariff x.cutting ≡ cost_in order x.cutting = ap (λ (y : Order). true_cost_of y.tariff x.cutting) o in
    let right : Right order plan = record { stated = own_plan x; is_read = e; same_periods = ap (λ (y : Order). y.periods) o; carried = s.carried; true_cost = cost } in
    least-yes order plan x.order is.as_ordered.read right (λ ys c. subst (λ (n : ℕ). n ≤ cost_in order ys) (sym cost) (s.cheapest ys c))

-- Whatever booking recorded for an order: the front of the bytes it leaves, as long as the file.
module _ (order : List ℕ) (old after : Lent) (answer : Answer Booking) (claim : Claim order old after answer) (b : Booking) (e : answer ≡ figures b) where
  abbrev z : Sizes
  z = sizes_of old

  given : (s : Steps) × (booked old order ≡ figures s) × (answer_of s ≡ b)
  given = on_figures_lem answer_of (booked old order) (sym claim.answers ∙ e)

  abbrev s : Steps
  s = given.0

  steps : Found order z s
  steps = steps-found order z s (sym (booked-sizes old order) ∙ given.1)

  abbrev pub recorded_file : List ℕ
  recorded_file = take b.length after.bytes

  file-is : recorded_file ≡ s.recording.file
  file-is =
      ap (λ (l : Lent). take b.length l.bytes) (claim.leaves ∙ ap (λ (a : Answer Steps). lent_after a old) given.1)
      ∙ ap (λ (x : Booking). take x.length (lent_after (figures s) old).bytes) (sym given.2)
      ∙ filled-front s.recording.file old.bytes

  pub booked-yes : check_of order recorded_file ≡ figures (Yes 0)
  booked-yes =
      planned-yes (is-planned z.demands z.plan order s.planning steps.is_plan) recorded_file
      (ap plan_in file-is ∙ read-holds z.back s.recording.file s.recording.plan steps.is_read ∙ ap figures (found-recorded order z s steps))

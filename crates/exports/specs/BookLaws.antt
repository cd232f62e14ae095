-- The plan file that is booked here is the one that the whole list of demand 3's calls leaves, with lists of 512
-- entries: being read back and metered it meets no refusal. A check gives it a yes and an excess of 0.
-- Assumes nothing.
use Rattle.std.specs.Prelude.{ℕ, ◌≡◌, refl, List, length}
use Rattle.std.proofs.Common.{sym, ap, ◌∙◌}
use Rattle.terms.specs.Answer.{Answer, figures, refused, on_figures}
use Rattle.terms.specs.AnswerLaws.{then_figures, then_found, then_refused}
use Rattle.terms.specs.Limits.{trace_limit}
use Rattle.encoding.specs.NumberLaws.{Bytes}
use Rattle.plan_file.specs.Plan.{plan_file}
use Rattle.plan_file.specs.PlanLaws.{file-read}
use Rattle.plan_file.specs.PlanRules.{read-holds}
use Rattle.planning.specs.Planning.{Planned, planned}
use Rattle.planning.specs.PlannedLaws.{is-planned}
use Rattle.recording.specs.Recording.{Recording, read_back}
use Rattle.booking.specs.Booking.{Lent, Steps, booked, plan_figures}
use Rattle.booking.specs.CallLaws.{Sizes, sizes, sizes_of, booked_in, file_in, recording_in, written_in}
use Rattle.booking.specs.ClaimLaws.{booked-sizes}
use Rattle.booking.specs.StepLaws.{planned-short, steps-figures, written_is}
use Rattle.checking.specs.declared.verdicts.Verdict.TheVariants.{Yes}
use Rattle.checking.specs.Check.{check_of}
use Rattle.checking.specs.OwnLaws.{planned-yes}
use Rattle.exports.specs.Answers.{plan_file_in}

-- The file alone.
abbrev pub file_answered : Answer Steps → Answer (List ℕ)
file_answered = on_figures (λ s. s.recording.file)

module _ (bs : List ℕ) (h : Bytes bs) (room : ℕ) where
  abbrev z : Sizes
  z = sizes trace_limit trace_limit room trace_limit

  abbrev planning : Answer Planned
  planning = planned trace_limit trace_limit bs

  -- the list read back into has room for any plan
  file-written : (x : Planned) → planning ≡ figures x → written_in z x ≡ file_in z x
  file-written x e = let is = is-planned trace_limit trace_limit bs x e in written_is bs h z x is (planned-short bs trace_limit trace_limit x is).1

  file-is : (x : Planned) → planning ≡ figures x → file_in z x ≡ plan_file_in room bs
  file-is x e = then_figures planning (λ y. plan_file trace_limit room (plan_figures y) y.cutting) e

  booked_in_lem : file_answered (booked_in z bs) ≡ plan_file_in room bs
  booked_in_lem = go planning refl
    where
      go : (a : Answer Planned) → planning ≡ a → file_answered (booked_in z bs) ≡ plan_file_in room bs
      go (refused n) e = ap file_answered (sym (then_refused planning _ e)) ∙ then_refused planning _ e
      go (figures x) e = written (file_in z x) refl
        where
          written : (b : Answer (List ℕ)) → file_in z x ≡ b → file_answered (booked_in z bs) ≡ plan_file_in room bs
          written (figures file) w =
              let is = is-planned trace_limit trace_limit bs x e in
              ap file_answered (steps-figures bs h z x is e file (file-written x e ∙ w)) ∙ sym w ∙ file-is x e
          written (refused m) w =
              let r : recording_in z x ≡ refused m =
              sym (then_refused (written_in z x) (read_back trace_limit x.order.tariff.factor x.demands) (file-written x e ∙ w)) in
              let f : booked_in z bs ≡ refused m =
              sym (then_figures planning _ e) ∙ ap (on_figures {B = Steps} (λ (y : Recording). record { planning = x; recording = y })) r in
              ap file_answered f ∙ sym w ∙ file-is x e

-- Of everything lent, with lists of 512 entries.
pub record Spacious (lent : Lent) : Type 0 where
  pub demands : length lent.demands ≡ trace_limit
  pub plan : length lent.plan ≡ trace_limit
  pub back : length lent.back ≡ trace_limit

pub booked-file : (bs : List ℕ) → Bytes bs → (lent : Lent) → Spacious lent → file_answered (booked lent bs) ≡ plan_file_in (length lent.bytes) bs
booked-file bs h lent s =
    let e : sizes_of lent ≡ sizes trace_limit trace_limit (length lent.bytes) trace_limit = rw (s.demands, s.plan, s.back) refl in
    ap file_answered (booked-sizes lent bs ∙ ap (λ (x : Sizes). booked_in x bs) e) ∙ booked_in_lem bs h (length lent.bytes)

-- So a check gives it a yes and an excess of 0.
pub file-yes : (room : ℕ) (bs file : List ℕ) → plan_file_in room bs ≡ figures file → check_of bs file ≡ figures (Yes 0)
file-yes room bs file e =
    let a = then_found (planned trace_limit trace_limit bs) (λ x. plan_file trace_limit room (plan_figures x) x.cutting) e in
    let x = a.0 in
    let is = is-planned trace_limit trace_limit bs x a.1 in
    let few = (planned-short bs trace_limit trace_limit x is).1 in
    planned-yes is file (read-holds trace_limit file _ (file-read trace_limit room (plan_figures x) x.cutting file refl a.2 trace_limit few))

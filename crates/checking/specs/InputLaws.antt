-- Of two files, one behind the other, bytes behind the longest order and the longest plan change nothing: an order that
-- states more than the longest is refused by its header, and so is a plan that has more.
-- Assumes nothing.
use Rattle.std.specs.Prelude.{ℕ, ◌+◌, ◌≤◌, ◌<◌, ◌≡◌, refl, Bool, true, false, List, ◌++◌, leb, length, take, drop}
use Rattle.std.proofs.Common.{arith, sym, ap, ◌∙◌, leb-true, leb-false, length-append, length-drop, take-append-drop, length-take-le, take-take}
use Rattle.std.proofs.lemmas.List.{drop-append-le, take-append-le}
use Rattle.terms.specs.Answer.{Answer, refused, and_then}
use Rattle.terms.specs.AnswerLaws.{then_refused}
use Rattle.terms.specs.Limits.{trace_limit}
use Rattle.encoding.specs.Number.{number_at}
use Rattle.encoding.specs.NumberLaws.{number_front}
use Rattle.order_file.specs.Order.{tariff_offset, order_length, order_end, read_order}
use Rattle.order_file.specs.OrderLaws.{long_more as long_order}
use Rattle.order_file.specs.Ordered.{ordered}
use Rattle.plan_file.specs.declared.answers.Recorded.{Recorded}
use Rattle.plan_file.specs.Plan.{longest_plan, plan_in}
use Rattle.plan_file.specs.PlanLaws.{long_more as long_plan}
use Rattle.text.specs.Fitted.{fitted}
use Rattle.checking.specs.declared.verdicts.Verdict.{Verdict}
use Rattle.checking.specs.Check.{verdict_line, compared, check_of, check_in, check_files}

-- The longest order.
abbrev longest_order : ℕ
longest_order = order_length trace_limit

-- An order that is refused is so whatever the plan.
unread : (order plan : List ℕ) (n : ℕ) → read_order order ≡ refused n → check_of order plan ≡ refused n
unread order plan n e =
    let o : ordered trace_limit order ≡ refused n = sym (then_refused (read_order order) _ e) in
    sym (then_refused (ordered trace_limit order) (λ x. and_then (plan_in plan) (compared x)) o)

module _ (room : ℕ) (front more : List ℕ) (long : longest_order + longest_plan < length front) where
  abbrev stated : ℕ
  stated = number_at 4 front 16

  same : number_at 4 (front ++ more) 16 ≡ stated
  same = number_front 4 front more 16 (omega (arith, long))

  abbrev end : ℕ
  end = order_end front

  inside : end ≤ length front
  inside = omega arith

  front-order : take end (front ++ more) ≡ take end front
  front-order = take-append-le end front more inside

  -- The order ends where it did, and behind it there are more bytes than a plan has.
  short : stated ≤ longest_order → check_files room (front ++ more) ≡ check_files room front
  short l =
      let ends : order_end (front ++ more) ≡ end = omega (arith, l, long, same, length-append front more) in
      let plan : plan_in (drop end (front ++ more)) ≡ plan_in (drop end front) =
      ap plan_in (drop-append-le end front more inside) ∙ long_plan (drop end front) more (omega (arith, l, long, length-drop end front)) in
      ap (λ (n : ℕ). check_in room (take n (front ++ more)) (drop n (front ++ more))) ends
      ∙ ap (λ (bs : List ℕ). check_in room bs (drop end (front ++ more))) front-order
      ∙ ap (λ (a : Answer Recorded). and_then (and_then (ordered trace_limit (take end front)) (λ x. and_then a (compared x))) (λ v. fitted room (verdict_line v))) plan

  -- The order states more than the longest.
  far : longest_order < stated → check_files room (front ++ more) ≡ check_files room front
  far l =
      let end' = order_end (front ++ more) in
      let order = take end front in
      let order' = take end' (front ++ more) in
      let later : end ≤ end' = omega (arith, same, length-append front more) in
      let begins : take end order' ≡ order = take-take end end' (front ++ more) later ∙ front-order in
      let whole : order ++ drop end order' ≡ order' = ap (λ (bs : List ℕ). bs ++ drop end order') (sym begins) ∙ take-append-drop end order' in
      let count : length order ≡ end = length-take-le end front inside in
      let header : tariff_offset ≤ length order = omega (arith, count, l, long) in
      let says : number_at 4 order 16 ≡ stated = sym (number_front 4 order (drop end front) 16 (omega (arith, header))) ∙ ap (λ (bs : List ℕ). number_at 4 bs 16) (take-append-drop end front) in
      let r = long_order order (drop end order') header (omega (arith, l, says)) in
      let refuses : Answer Verdict → Answer (List ℕ) = λ a. and_then a (λ v. fitted room (verdict_line v)) in
      ap refuses (unread order' (drop end' (front ++ more)) r.0 (ap read_order (sym whole) ∙ r.2))
      ∙ sym (ap refuses (unread order (drop end front) r.0 r.1))

  pub files_more : check_files room (front ++ more) ≡ check_files room front
  files_more = go (leb stated longest_order) refl
    where
      go : (b : Bool) → leb stated longest_order ≡ b → check_files room (front ++ more) ≡ check_files room front
      go true e = short (leb-true stated longest_order e)
      go false e = far (leb-false stated longest_order e)

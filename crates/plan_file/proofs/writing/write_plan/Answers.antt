-- Past the tests the header and the records are stored one after the other.
use Rattle.std.specs.Prelude.{ℕ, ◌≡◌, List, ◌++◌, length, take}
use Rattle.std.proofs.Common.{arith, sym, ap, ◌∙◌, length-take-le}
use Rattle.std.proofs.lemmas.Grind.{common_steps}
use Rattle.std.proofs.lemmas.List.Edits.{sets}
use Rattle.terms.specs.Answer.{figures}
use Rattle.terms.specs.Records.{Cutting}
use Rattle.encoding.specs.FillLaws.{fill_stored}
use Rattle.encoding.specs.Number.{bytes_of, bytes_of_all}
use Rattle.encoding.specs.StoreLaws.{sets_both}
use Rattle.plan_file.specs.Plan.{buckets_offset, plan_bytes, plan_file, plan_length, plan_words, record_bytes, write_plan}
use Rattle.plan_file.specs.PlanRules.{length-head, length-plan}
use Rattle.plan_file.proofs.writing.write_plan.Goals as goal

-- the header stored with the number of records, and then the records
stored : (T k cost : ℕ) (xs : Cutting) → length xs ≡ k → (old new newer : List ℕ) → new ≡ sets old 0 (bytes_of_all (bytes_of 4) (plan_words T k) ++ bytes_of 8 cost)
    → newer ≡ sets new buckets_offset (bytes_of_all record_bytes xs) → newer ≡ sets old 0 (plan_bytes T cost xs)
stored T k cost xs n old new newer e f =
    sets_both old (bytes_of_all (bytes_of 4) (plan_words T k) ++ bytes_of 8 cost) (bytes_of_all record_bytes xs) new newer buckets_offset (length-head T k cost) e f
    ∙ ap (λ (m : ℕ). sets old 0 (bytes_of_all (bytes_of 4) (plan_words T m) ++ bytes_of 8 cost ++ bytes_of_all record_bytes xs)) (sym n)

pub returns : goal.returns
unfolding plan_file
returns c =
    let a = c.args in
    let xs = take a.plan.buckets a.list.now in
    let count : length xs ≡ a.plan.buckets = length-take-le _ _ c.if-list-buckets.false in
    let n = length-plan a.plan.periods a.plan.cost xs ∙ ap plan_length count in
    let written : write_plan (length a.bytes.now) a.plan a.list.now ≡ figures (plan_bytes a.plan.periods a.plan.cost xs) = grind (arith, common_steps) in
    let all = fill_stored _ a.bytes.now _ _ _ written (sym n) (omega (arith, c.if-bytes-length.false, n))
    (stored a.plan.periods a.plan.buckets a.plan.cost xs count _ _ _ c.put_header.ensures c.put_records.ensures) in
    record { result_value = all.0; bytes_after = all.1 }

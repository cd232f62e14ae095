-- The plan file rule by rule: which refusal each broken rule gives, and that a plan that breaks none is read.
-- Assumes nothing.
use Rattle.std.specs.Prelude.{ℕ, ◌+◌, ◌≤◌, ◌≡◌, Bool, true, false, List, [], ◌∷◌, ◌++◌, leb, eqb, length}
use Rattle.std.proofs.Common.{arith, sym, ap, ap₂, subst, ◌∙◌, leb-true, le-leb, eqb-true, eq-eqb, length-append}
use Rattle.std.proofs.Math.Path.{refl}
use Rattle.terms.specs.declared.BucketRecord.{BucketRecord}
use Rattle.terms.specs.Answer.{Answer, figures, refused, weigh}
use Rattle.terms.specs.AnswerLaws.{same-figures, weigh-figures, on_figures_lem, then_figures, then_refused, then_found}
use Rattle.terms.specs.Bools.{and_three, both_and}
use Rattle.terms.specs.Limits.{cost_limit, trace_limit}
use Rattle.terms.specs.Ranges.{periods_ok}
use Rattle.terms.specs.Records.{Cutting, run_length, run_rate, run_depth}
use Rattle.terms.specs.RangeRules.{PeriodsRange}
use Rattle.terms.specs.RangeLaws.{periods_range, periods_ok_lem}
use Rattle.plan_file.specs.declared.answers.PlanFigures.{PlanFigures}
use Rattle.encoding.specs.Number.{bytes_of, number_at, bytes_of_all}
use Rattle.encoding.specs.NumberLaws.{length_items, length-bytes, length_all}
use Rattle.encoding.specs.Header.{Placed, placed_as}
use Rattle.encoding.specs.HeaderLaws.{placed_range, placed_ok}
use Rattle.plan_file.specs.RecordLaws.{RecordsRange, records_range, records_ok_lem}
use Rattle.plan_file.specs.declared.answers.Recorded.{Recorded}
use Rattle.plan_file.specs.Plan.{figures_in, plan_kind, cost_offset, buckets_offset, plan_length, plan_bytes, counts_ok, records_ok, records_in, plan_in, fitting, read_plan, recorded_figures, plan_words, record_bytes, plan_file}

-- T and k in their ranges, as orders of numbers.
pub record CountsRange (T k : ℕ) : Type 0 where
  pub periods : PeriodsRange T
  pub some : 1 ≤ k
  pub few : k ≤ T

pub counts_range : (T k : ℕ) → counts_ok T k ≡ true → CountsRange T k
counts_range T k h =
    let c = and_three (periods_ok T) (leb 1 k) (leb k T) h in
    record { periods = periods_range T c.0; some = leb-true _ _ c.1; few = leb-true _ _ c.2 }

pub counts_ok_lem : (T k : ℕ) → CountsRange T k → counts_ok T k ≡ true
counts_ok_lem T k c = both_and (both_and (periods_ok_lem T c.periods) (le-leb _ _ c.some)) (le-leb _ _ c.few)

-- ---- Reading, rule by rule

-- A plan's parts in their places.
abbrev pub plan_placed : List ℕ → Bool
plan_placed bs = placed_as 12 cost_offset buckets_offset (plan_length (number_at 4 bs 8)) bs

-- The records where the bytes have them.
abbrev pub buckets_in : List ℕ → Cutting
buckets_in bs = records_in (number_at 4 bs 8) bs

module _ (bs : List ℕ) where
  -- T, the cost and the records where the bytes have them.
  abbrev pub recorded_in : Recorded
  recorded_in = record { periods = number_at 4 bs 4; cost = number_at 8 bs cost_offset; buckets = buckets_in bs }

  pub plan-short : leb cost_offset (length bs) ≡ false → plan_in bs ≡ refused 1
  unfolding plan_in
  plan-short h = rw h

  module _ (long : leb cost_offset (length bs) ≡ true) where
    pub plan_foreign : eqb (number_at 4 bs 0) plan_kind ≡ false → plan_in bs ≡ refused 2
    unfolding plan_in
    plan_foreign h = rw (long, h)

    module _ (kind : eqb (number_at 4 bs 0) plan_kind ≡ true) where
      pub plan-periods : counts_ok (number_at 4 bs 4) (number_at 4 bs 8) ≡ false → plan_in bs ≡ refused 3
      unfolding plan_in
      plan-periods h = rw (long, kind, h)

      module _ (counts : counts_ok (number_at 4 bs 4) (number_at 4 bs 8) ≡ true) where
        pub plan_misplaced : plan_placed bs ≡ false → plan_in bs ≡ refused 4
        unfolding plan_in
        plan_misplaced h = rw (long, kind, counts, h)

        module _ (places : plan_placed bs ≡ true) where
          pub plan-cost : leb (number_at 8 bs cost_offset) cost_limit ≡ false → plan_in bs ≡ refused 5
          unfolding plan_in
          plan-cost h = rw (long, kind, counts, places, h)

          module _ (cost : leb (number_at 8 bs cost_offset) cost_limit ≡ true) where
            pub plan-records : records_ok (number_at 4 bs 4) (buckets_in bs) ≡ false → plan_in bs ≡ refused 5
            unfolding plan_in
            plan-records h = rw (long, kind, counts, places, cost, h)

            pub plan_figures_lem : records_ok (number_at 4 bs 4) (buckets_in bs) ≡ true → plan_in bs ≡ figures recorded_in
            unfolding plan_in
            plan_figures_lem h = rw (long, kind, counts, places, cost, h) refl

-- The rules of the format as document 01 lists them.
pub record PlanRules (bs : List ℕ) : Type 0 where
  pub header : cost_offset ≤ length bs
  pub kind : number_at 4 bs 0 ≡ plan_kind
  pub counts : CountsRange (number_at 4 bs 4) (number_at 4 bs 8)
  pub placed : Placed 12 cost_offset buckets_offset (plan_length (number_at 4 bs 8)) bs
  pub cost : number_at 8 bs cost_offset ≤ cost_limit
  pub records : RecordsRange (number_at 4 bs 4) (buckets_in bs)

-- Every plan that breaks no rule of its format is read.
pub rules_read : (bs : List ℕ) → PlanRules bs → plan_in bs ≡ figures (recorded_in bs)
rules_read bs r =
    plan_figures_lem bs (le-leb _ _ r.header) (eq-eqb _ _ r.kind) (counts_ok_lem _ _ r.counts)
    (placed_ok 12 cost_offset buckets_offset _ bs r.placed) (le-leb _ _ r.cost) (records_ok_lem _ _ r.records)

-- And no other.
pub read_rules : (bs : List ℕ) (x : Recorded) → plan_in bs ≡ figures x → PlanRules bs × (x ≡ recorded_in bs)
unfolding plan_in
read_rules bs x e =
    let T = number_at 4 bs 4 in
    let k = number_at 4 bs 8 in
    let a = weigh-figures (leb cost_offset (length bs)) 1 _ e in
    let b = weigh-figures (eqb (number_at 4 bs 0) plan_kind) 2 _ a.1 in
    let c = weigh-figures (counts_ok T k) 3 _ b.1 in
    let d = weigh-figures (plan_placed bs) 4 _ c.1 in
    let f = weigh-figures (leb (number_at 8 bs cost_offset) cost_limit) 5 _ d.1 in
    let g = weigh-figures (records_ok T (buckets_in bs)) 5 _ f.1 in (
      record {
        header = leb-true _ _ a.0;
        kind = eqb-true _ _ b.0;
        counts = counts_range T k c.0;
        placed = placed_range 12 cost_offset buckets_offset (plan_length k) bs d.0;
        cost = leb-true _ _ f.0;
        records = records_range T (buckets_in bs) g.0;
      },
      sym (same-figures g.1),
    )

-- So the records of a plan that is read are in their ranges.
pub read_range : (bs : List ℕ) (x : Recorded) → plan_in bs ≡ figures x → RecordsRange x.periods x.buckets
read_range bs x e =
    let r = read_rules bs x e in
    subst (λ (y : Recorded). RecordsRange y.periods y.buckets) (sym r.1) r.0.records

-- ---- The figures of a plan that is read

-- A plan with the figures y is read.
pub record IsPlan (bs : List ℕ) (y : PlanFigures) : Type 0 where
  pub is_read : plan_in bs ≡ figures (recorded_in bs)
  pub is_count : number_at 4 bs 8 ≡ y.buckets
  pub bytes : length bs ≡ plan_length y.buckets

pub is_plan : (bs : List ℕ) (y : PlanFigures) → figures y ≡ recorded_figures (plan_in bs) → IsPlan bs y
is_plan bs y e =
    let f = on_figures_lem figures_in (plan_in bs) (sym e) in
    let r = read_rules bs f.0 f.1 in
    let n : number_at 4 bs 8 ≡ y.buckets =
    sym (length_items _ 12 (number_at 4 bs 8) buckets_offset) ∙ ap (λ (x : Recorded). length x.buckets) (sym r.1) ∙ ap (λ (z : PlanFigures). z.buckets) f.2 in
    record { is_read = f.1 ∙ ap figures r.1; is_count = n; bytes = r.0.placed.bytes ∙ ap plan_length n }

-- It has no more buckets than the longest trace has periods.
pub plan-few : (bs : List ℕ) (y : PlanFigures) → figures y ≡ recorded_figures (plan_in bs) → y.buckets ≤ trace_limit
plan-few bs y e =
    let f = on_figures_lem figures_in (plan_in bs) (sym e) in
    let c = (read_rules bs f.0 f.1).0.counts in
    omega (arith, (is_plan bs y e).is_count, c.few, c.periods.few)

-- What reading into a list gives is what the file holds.
pub read-holds : (room : ℕ) (bs : List ℕ) (x : Recorded) → read_plan room bs ≡ figures x → plan_in bs ≡ figures x
read-holds room bs x e =
    let f = then_found (plan_in bs) (fitting room) e in
    f.1 ∙ (weigh-figures (leb (length f.0.buckets) room) 6 (figures f.0) f.2).1

-- A plan that is read fits a list that has room for its records.
pub read_fits : (room : ℕ) (bs : List ℕ) (x : Recorded) → plan_in bs ≡ figures x → length x.buckets ≤ room → read_plan room bs ≡ figures x
read_fits room bs x e l = sym (then_figures (plan_in bs) (fitting room) e) ∙ ap (λ (ok : Bool). weigh ok 6 (figures x)) (le-leb _ _ l)

-- And where the list has less room, it is refused.
pub read_full : (room : ℕ) (bs : List ℕ) (x : Recorded) → plan_in bs ≡ figures x → leb (length x.buckets) room ≡ false → read_plan room bs ≡ refused 6
read_full room bs x e h = sym (then_figures (plan_in bs) (fitting room) e) ∙ ap (λ (ok : Bool). weigh ok 6 (figures x)) h

-- 512 records are room for any plan, so reading with them refuses what the file itself is refused for and nothing else.
pub read_whole : (bs : List ℕ) → read_plan trace_limit bs ≡ plan_in bs
read_whole bs = go (plan_in bs) refl
  where
    go : (a : Answer Recorded) → plan_in bs ≡ a → read_plan trace_limit bs ≡ plan_in bs
    go (figures x) e = read_fits trace_limit bs x e (plan-few bs (figures_in x) (sym (ap recorded_figures e))) ∙ sym e
    go (refused n) e = sym (then_refused (plan_in bs) (fitting trace_limit) e) ∙ sym e

-- ---- Writing, rule by rule

module _ (space room : ℕ) (x : PlanFigures) (xs : Cutting) where
  abbrev this : Answer (List ℕ)
  this = plan_file space room x xs

  pub write_periods : counts_ok x.periods x.buckets ≡ false → this ≡ refused 3
  unfolding plan_file
  write_periods h = rw h

  module _ (counts : counts_ok x.periods x.buckets ≡ true) where
    pub write_cost : leb x.cost cost_limit ≡ false → this ≡ refused 5
    unfolding plan_file
    write_cost h = rw (counts, h)

    module _ (cost : leb x.cost cost_limit ≡ true) where
      pub write_list : leb x.buckets space ≡ false → this ≡ refused 6
      unfolding plan_file
      write_list h = rw (counts, cost, h)

      module _ (list : leb x.buckets space ≡ true) where
        pub write_records : records_ok x.periods xs ≡ false → this ≡ refused 5
        unfolding plan_file
        write_records h = rw (counts, cost, list, h)

        module _ (records : records_ok x.periods xs ≡ true) where
          pub write_room : leb (plan_length x.buckets) room ≡ false → this ≡ refused 6
          unfolding plan_file
          write_room h = rw (counts, cost, list, records, h)

          pub write_figures_lem : leb (plan_length x.buckets) room ≡ true → this ≡ figures (plan_bytes x.periods x.cost xs)
          unfolding plan_file
          write_figures_lem h = rw (counts, cost, list, records, h) refl

-- What is known of a plan that is written.
pub record WriteRules (space room : ℕ) (x : PlanFigures) (xs : Cutting) (bs : List ℕ) : Type 0 where
  pub counts : CountsRange x.periods x.buckets
  pub cost : x.cost ≤ cost_limit
  pub list : x.buckets ≤ space
  pub records : RecordsRange x.periods xs
  pub bytes : plan_length x.buckets ≤ room
  pub is : plan_bytes x.periods x.cost xs ≡ bs

pub write_rules : (space room : ℕ) (x : PlanFigures) (xs : Cutting) (bs : List ℕ) → plan_file space room x xs ≡ figures bs → WriteRules space room x xs bs
unfolding plan_file
write_rules space room x xs bs e =
    let a = weigh-figures (counts_ok x.periods x.buckets) 3 _ e in
    let b = weigh-figures (leb x.cost cost_limit) 5 _ a.1 in
    let c = weigh-figures (leb x.buckets space) 6 _ b.1 in
    let d = weigh-figures (records_ok x.periods xs) 5 _ c.1 in
    let f = weigh-figures (leb (plan_length x.buckets) room) 6 _ d.1 in
    record {
      counts = counts_range x.periods x.buckets a.0;
      cost = leb-true _ _ b.0;
      list = leb-true _ _ c.0;
      records = records_range x.periods xs d.0;
      bytes = leb-true _ _ f.0;
      is = same-figures f.1;
    }

-- ---- The bytes of a plan

pub length-head : (T k cost : ℕ) → length (bytes_of_all (bytes_of 4) (plan_words T k) ++ bytes_of 8 cost) ≡ buckets_offset
length-head T k cost =
    length-append (bytes_of_all (bytes_of 4) (plan_words T k)) (bytes_of 8 cost)
    ∙ ap₂ (λ (m n : ℕ). m + n) (length_all (bytes_of 4) 4 (length-bytes 4) (plan_words T k)) (length-bytes 8 cost)

pub length_record : (x : BucketRecord) → length (record_bytes x) ≡ 12
length_record x = length_all (bytes_of 4) 4 (length-bytes 4) (run_length x ∷ run_rate x ∷ run_depth x ∷ [])

pub length-plan : (T cost : ℕ) (xs : Cutting) → length (plan_bytes T cost xs) ≡ plan_length (length xs)
length-plan T cost xs =
    length-append (bytes_of_all (bytes_of 4) (plan_words T (length xs)) ++ bytes_of 8 cost) (bytes_of_all record_bytes xs)
    ∙ ap₂ (λ (m n : ℕ). m + n) (length-head T (length xs) cost) (length_all record_bytes 12 length_record xs)

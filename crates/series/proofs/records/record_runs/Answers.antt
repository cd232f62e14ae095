-- The records so far and those of the best cutting from the period reached on are the whole.
use Prim.Native.Nat.{ℕ, ◌+◌, ◌-◌, ◌≤◌, ◌<◌}
use Rattle.series.specs.Cutting.{bests}
use Rattle.series.specs.OutlineLaws.{carried-count}
use Rattle.series.specs.RecordLaws.{Firsts, NextRun, next_run}
use Rattle.series.specs.Series.{cheapest_cut, run_record}
use Rattle.series.specs.SeriesLaws.{IsSeries, series-is}
use Rattle.record_list.specs.Held.{no_record}
use Rattle.record_list.specs.PartLaws.{rest_next}
use Rattle.std.proofs.Common.{append-nil, append_assoc, length-append}
use Rattle.terms.specs.Records.{Cutting, run_length}
use Rattle.terms.specs.Answer.{figures}
use Rattle.terms.specs.AnswerLaws.{same-figures}
use Rattle.terms.specs.RangeRules.{PeriodsRange}
use Rattle.terms.specs.declared.Bucket.{Bucket}
use Rattle.terms.specs.declared.BucketRecord.{BucketRecord}
use Rattle.terms.specs.declared.Tariff.{Tariff}
use borrow.Rule.Slice.PartAt.{part_count}
use lib.ListN.{length, take, drop, get_or, drop_of_length-le}
use mathlib.Core.List.{List, [], ◌∷◌, ◌++◌}
use mathlib.Core.Path.{◌≡◌, refl, sym, ap, subst, ◌∙◌}
use native.Mathlib.Omega.{arith}
use Rattle.series.proofs.records.record_runs.Invariants.{Recording}
use Rattle.series.proofs.records.record_runs.Goals as goal

begin : (t : Tariff) (ds firsts : List ℕ) → Firsts t ds firsts → Recording t ds [] 0
begin t ds firsts f =
    record {
      cut = f.cut;
      found = f.found;
      few = carried-count t (subst (IsSeries t ds) f.found (series-is t ds)).kind;
      inside = omega arith;
      rest = f.found;
      all = refl;
    }

module _ (t : Tariff) (ds : List ℕ) (records : Cutting) (start : ℕ) (r : Recording t ds records start) where
  abbrev k : ℕ
  k = length records

  module _ (firsts : List ℕ) (f : Firsts t ds firsts) (l : start < length ds) where
    -- the run that a turn stores
    abbrev this : BucketRecord
    this = get_or r.cut k no_record

    next : NextRun t ds r.cut start k this
    next = next_run t ds r.cut start k l r.rest

    length-is : get_or firsts start 0 ≡ run_length this
    length-is = f.first start r.inside ∙ next.length_kept

    ends : start + get_or firsts start 0 ≤ length ds
    ends = omega (arith, length-is, next.inside)

    begins : 1 ≤ get_or firsts start 0
    begins = omega (arith, length-is, next.some)

    abbrev part : List ℕ
    part = take (start + get_or firsts start 0 - start) (drop start ds)

    part-is : part ≡ take (run_length this) (drop start ds)
    part-is =
        let e : start + get_or firsts start 0 - start ≡ run_length this = omega (arith, length-is) in
        ap (λ (n : ℕ). take n (drop start ds)) e

    part_length : length part ≡ get_or firsts start 0
    part_length = sym (part_count ds start (start + get_or firsts start 0) (omega arith, ends)) ∙ omega arith

    part_range : PeriodsRange (length ds) → PeriodsRange (length part)
    part_range p = record { some = omega (arith, part_length, begins); few = omega (arith, part_length, ends, p.few) }

    part-record : run_record t part ≡ figures this
    part-record = ap (run_record t) part-is ∙ next.is_record

    k-room : PeriodsRange (length ds) → k < 512
    k-room p = omega (arith, next.more, r.few, p.few)

    step : (b : Bucket) → run_record t part ≡ figures (record { periods = length part; bucket = b })
        → Recording t ds (records ++ record { periods = get_or firsts start 0; bucket = b } ∷ []) (start + get_or firsts start 0)
    step b e =
        let y : BucketRecord = record { periods = get_or firsts start 0; bucket = b } in
        let this_is : y ≡ this = ap (λ (n : ℕ). record { periods = n; bucket = b }) (sym part_length) ∙ same-figures (sym e ∙ part-record) in
        let longer : length (records ++ y ∷ []) ≡ k + 1 = omega (arith, length-append records (y ∷ [])) in
        let left = drop (k + 1) r.cut in
        record {
          cut = r.cut;
          found = r.found;
          few = r.few;
          inside = ends;
          rest =
              ap (λ (n : ℕ). cheapest_cut t (drop (start + n) ds)) length-is
              ∙ next.onward
              ∙ ap (λ (n : ℕ). figures (drop n r.cut)) (sym longer);
          all =
              ap (λ (n : ℕ). (records ++ y ∷ []) ++ drop n r.cut) longer
              ∙ append_assoc records (y ∷ []) left
              ∙ ap (λ (x : BucketRecord). records ++ x ∷ left) this_is
              ∙ ap (λ (xs : Cutting). records ++ xs) (sym (rest_next r.cut k next.more))
              ∙ r.all;
        }

  end : length ds ≤ start → figures records ≡ cheapest_cut t ds
  unfolding bests
  end l =
      let e : drop k r.cut ≡ [] = same-figures (sym r.rest ∙ ap (cheapest_cut t) (drop_of_length-le ds l)) in
      ap figures (sym (append-nil records) ∙ ap (λ (xs : Cutting). records ++ xs) (sym e) ∙ r.all) ∙ sym r.found

pub loop-start-init : goal.loop-start-init
loop-start-init c = rw c.new-records.ensures (begin _ _ _ c.requires.firsts)

pub overflow_cast-end : goal.overflow_cast-end
overflow_cast-end c =
    let run_ends : c.loop-start.start + get_or c.args.firsts.now c.loop-start.start 0 ≤ length c.args.trace.now = ends _ _ _ _ c.loop-start.invariant _ c.requires.firsts c.loop-start-test.true in
    omega (arith, run_ends, c.requires.periods_range.few)

pub overflow_add-end : goal.overflow_add-end
overflow_add-end c =
    let run_ends : c.loop-start.start + get_or c.args.firsts.now c.loop-start.start 0 ≤ length c.args.trace.now = ends _ _ _ _ c.loop-start.invariant _ c.requires.firsts c.loop-start-test.true in
    omega (arith, run_ends, c.requires.periods_range.few)

pub slice_bounds-bucket_of-end : goal.slice_bounds-bucket_of-end
slice_bounds-bucket_of-end c =
    let run_ends : c.loop-start.start + get_or c.args.firsts.now c.loop-start.start 0 ≤ length c.args.trace.now = ends _ _ _ _ c.loop-start.invariant _ c.requires.firsts c.loop-start-test.true in
    run_ends

pub bucket_of-bucket-requires : goal.bucket_of-bucket-requires
bucket_of-bucket-requires c =
    let f = c.requires.firsts in
    record { periods_range = part_range _ _ _ _ c.loop-start.invariant _ f c.loop-start-test.true c.requires.periods_range; tariff_range = c.requires.tariff_range; has_bucket = (_, part-record _ _ _ _ c.loop-start.invariant _ f c.loop-start-test.true) }

pub push-requires : goal.push-requires
push-requires c = k-room _ _ _ _ c.loop-start.invariant _ c.requires.firsts c.loop-start-test.true c.requires.periods_range

pub loop-start-smaller : goal.loop-start-smaller
loop-start-smaller c = omega (arith, c.loop-start-test.true, begins _ _ _ _ c.loop-start.invariant _ c.requires.firsts c.loop-start-test.true)

pub loop-start-preserved : goal.loop-start-preserved
loop-start-preserved c = rw c.push.ensures (step _ _ _ _ c.loop-start.invariant _ c.requires.firsts c.loop-start-test.true _ c.bucket_of-bucket.ensures)

pub returns : goal.returns
returns c = end _ _ _ _ c.loop-start.invariant c.loop-start-test.false

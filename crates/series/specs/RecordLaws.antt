-- How the records are stored one by one: the first run is the one kept for its start, its bucket is the single answer
-- on its own part of the trace, and what follows is the best cutting from its end on.
-- Assumes nothing.
use Rattle.std.specs.Prelude.{ℕ, suc, ◌+◌, ◌≤◌, ◌<◌, ◌≡◌, refl, List, [], ◌∷◌, length, take, drop, get_or}
use Rattle.std.proofs.Common.{arith, add-one, sym, ap, ◌∙◌, length-drop, drop-cons, drop-drop}
use Rattle.terms.specs.declared.BucketRecord.{BucketRecord}
use Rattle.terms.specs.declared.Tariff.{Tariff}
use Rattle.terms.specs.Answer.{Answer, figures, refused}
use Rattle.terms.specs.Limits.{trace_limit}
use Rattle.terms.specs.RangeRules.{PeriodsRange, TariffRange}
use Rattle.terms.specs.RangeLaws.{periods_ok_lem, tariff_ok_lem}
use Rattle.single.specs.Single.{single_of}
use Rattle.series.specs.RunLaws.{best-runs, best_of_none}
use Rattle.series.specs.Series.{run_cost, record_for, run_record, cheapest_cut, plan_of}
use Rattle.record_list.specs.Held.{no_record}
use Rattle.terms.specs.Records.{Cutting, run_length}
use Rattle.series.specs.SeriesLaws.{record_whole, series-is}
use Rattle.first_runs.specs.Outline.{unpriced}
use Rattle.series.specs.Outline.{outline_of}
use Rattle.series.specs.SuffixLaws.{Kept, outline_from, outline_none, outline_found, outline_plan}

-- The record of a run is what the single call finds for it.
pub record_single : (t : Tariff) (run : List ℕ) → TariffRange t → PeriodsRange (length run) → run_record t run ≡ record_for (length run) (single_of t run)
unfolding single_of
record_single t run h few = rw (periods_ok_lem _ few, tariff_ok_lem t h) refl

-- A run that has a bucket.
abbrev pub HasBucket : Tariff → List ℕ → Type 0
HasBucket t run = (x : BucketRecord) × (run_record t run ≡ figures x)

-- The run that begins at `start`, all being the cutting and k the records before it.
pub record NextRun (t : Tariff) (ds : List ℕ) (all : Cutting) (start k : ℕ) (x : BucketRecord) : Type 0 where
  pub more : k < length all
  pub some : 1 ≤ run_length x
  pub inside : start + run_length x ≤ length ds
  pub length_kept : (outline_from t ds start).first ≡ run_length x
  pub is_record : run_record t (take (run_length x) (drop start ds)) ≡ figures x
  pub onward : cheapest_cut t (drop (start + run_length x) ds) ≡ figures (drop (k + 1) all)

module _ (t : Tariff) (ds : List ℕ) (all : Cutting) (start k : ℕ) (l : start < length ds) (e : cheapest_cut t (drop start ds) ≡ figures (drop k all)) where
  some_left : k < length all
  some_left = go (drop k all) refl
    where
      go : (ys : Cutting) → drop k all ≡ ys → k < length all
      go [] f =
          let none = best_of_none run_length (run_cost t) (run_record t) (drop start ds) (e ∙ ap figures f) in
          absurd (omega (arith, length-drop start ds, ap length none))
      go (y ∷ ys) f = omega (arith, length-drop k all, ap length f)

  pub next_run : NextRun t ds all start k (get_or all k no_record)
  next_run =
      let x = get_or all k no_record in
      let f = e ∙ ap figures (drop-cons all k no_record some_left) in
      let r = best-runs run_length (run_cost t) (run_record t) (record_whole t) (drop start ds) x (drop (suc k) all) f in
      record {
        more = some_left;
        some = r.some;
        inside = omega (arith, r.inside, length-drop start ds);
        length_kept = ap (λ (a : Answer Cutting). (outline_of t a).first) f;
        is_record = r.first;
        onward =
            ap (cheapest_cut t) (sym (drop-drop (run_length x) start ds)) ∙ r.onward ∙ ap (λ (n : ℕ). figures (drop n all)) (sym (add-one k));
      }

-- A cutting is found, and the list holds the length of the first run from each period on.
pub record Firsts (t : Tariff) (ds firsts : List ℕ) : Type 0 where
  pub cut : Cutting
  pub found : cheapest_cut t ds ≡ figures cut
  pub room : length ds < length firsts
  pub first : (j : ℕ) → j ≤ length ds → get_or firsts j 0 ≡ (outline_from t ds j).first

-- ---- The outline from the first period on

module _ (t : Tariff) (h : TariffRange t) (ds : List ℕ) (few : length ds ≤ trace_limit) (costs counts firsts : List ℕ) (k : Kept t ds 0 costs counts firsts) where
  -- Without a cost no cutting is carried.
  pub kept_none : get_or costs 0 0 ≡ unpriced → cheapest_cut t ds ≡ refused 7
  kept_none e = outline_none t h ds few (cheapest_cut t ds) (series-is t ds) (sym (k.cost.at 0 (omega arith) (omega arith)) ∙ e)

  -- With one its runs can be recorded, and its figures are the plan's.
  module _ (n : get_or costs 0 0 ≡ unpriced → ⊥) where
    found : (xs : Cutting) × (cheapest_cut t ds ≡ figures xs)
    found = outline_found t (cheapest_cut t ds) (λ e. n (k.cost.at 0 (omega arith) (omega arith) ∙ e))

    pub kept_firsts : Firsts t ds firsts
    kept_firsts = record { cut = found.0; found = found.1; room = k.first.room; first = λ j l. k.first.at j (omega arith) l }

    pub kept-plan : figures (record { buckets = get_or counts 0 0; cost = get_or costs 0 0 }) ≡ plan_of t (cheapest_cut t ds)
    kept-plan =
        ap (λ (m : ℕ). figures (record { buckets = m; cost = get_or costs 0 0 })) (k.count.at 0 (omega arith) (omega arith))
        ∙ ap (λ (m : ℕ). figures (record { buckets = (outline_from t ds 0).buckets; cost = m })) (k.cost.at 0 (omega arith) (omega arith))
        ∙ sym (outline_plan t (cheapest_cut t ds) found.0 found.1)

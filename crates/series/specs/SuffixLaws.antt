-- What the search keeps, from each period on; that what is found from one start on is the best cutting's outline;
-- and how one more period is added in front.
-- Assumes nothing.
use Rattle.std.specs.Prelude.{ℕ, suc, ◌+◌, ◌-◌, ◌≤◌, ◌<◌, ◌≡◌, refl, Bool, true, false, List, [], ◌∷◌, eqb, ltb, take, drop, set, replicate}
use Rattle.std.proofs.Common.{arith, add-one, sym, subst, ◌∙◌, true≢false, inl, inr, eqb-true, le-ltb, length-set, length-drop, drop_of_length-le, get_or-take, get_or-drop, drop-drop, get_or-set_same, get_or-set_other}
use Rattle.std.proofs.Math.Path.{ap}
use borrow.Rule.Slice.PartAt.{part_count}
use Rattle.std.proofs.lemmas.Bool.{eqb-false}
use Rattle.std.proofs.Math.ListN.{length, get_or}
use Rattle.std.proofs.lemmas.List.{get_or-replicate}
use Rattle.terms.specs.declared.Tariff.{Tariff}
use Rattle.terms.specs.Answer.{Answer, figures, refused}
use Rattle.terms.specs.Limits.{trace_limit}
use Rattle.terms.specs.RangeRules.{TariffRange}
use Rattle.terms.specs.Records.{Cutting, run_length, total}
use Rattle.single.specs.Cost.{cost_of}
use Rattle.single.specs.PreferenceLaws.{not_smaller, smaller_not}
use Rattle.single.specs.Single.{Serves, bucket_of}
use Rattle.first_runs.specs.declared.outlines.Choice.{Choice}
use Rattle.first_runs.specs.declared.outlines.Outline.{Outline}
use Rattle.first_runs.specs.Charge.{Far}
use Rattle.first_runs.specs.Outline.{unpriced, begun, ahead}
use Rattle.first_runs.specs.OutlineLaws.{ahead_only, not_ahead-cost}
use Rattle.first_runs.specs.SearchLaws.{starts_with, Served, Kind, Rests, BestFirst}
use Rattle.series.specs.Cutting.{FirstRun, run, longer, wins, first_run, bests}
use Rattle.series.specs.CuttingLaws.{cut_first}
use Rattle.series.specs.Outline.{outline_of}
use Rattle.series.specs.OutlineLaws.{carried-below, outline_cost, outline_count}
use Rattle.series.specs.RunLaws.{best_of_none, best-runs}
use Rattle.series.specs.Series.{run_cost, true_cost_of, ServesRun, Carried, cutting_preferred, run_record, cheapest_cut, plan_of}
use Rattle.series.specs.SeriesLaws.{IsSeries, series-is, record_whole}

-- The outline of the best cutting of what is left from a period on.
abbrev pub outline_from : Tariff → List ℕ → ℕ → Outline
outline_from t ds j = outline_of t (cheapest_cut t (drop j ds))

-- The figures of an outline, each kept in a list of its own.
abbrev pub kept_cost : Outline → ℕ
kept_cost o = o.cost

abbrev pub kept_count : Outline → ℕ
kept_count o = o.buckets

abbrev pub kept_first : Outline → ℕ
kept_first o = o.first

-- The list holds one figure of the outlines from period `from` on, counted from 0; the last is that of no period.
pub record Held (figure : Outline → ℕ) (t : Tariff) (ds : List ℕ) (from : ℕ) (list : List ℕ) : Type 0 where
  pub room : length ds < length list
  pub at : (j : ℕ) → from ≤ j → j ≤ length ds → get_or list j 0 ≡ figure (outline_from t ds j)

pub record Kept (t : Tariff) (ds : List ℕ) (from : ℕ) (costs counts firsts : List ℕ) : Type 0 where
  pub cost : Held kept_cost t ds from costs
  pub count : Held kept_count t ds from counts
  pub first : Held kept_first t ds from firsts

-- The list holds one figure of the outlines of what is left of some periods after 1, 2, .. and all of them.
pub record After (figure : Outline → ℕ) (t : Tariff) (ds list : List ℕ) : Type 0 where
  pub all : length list ≡ length ds
  pub at : (i : ℕ) → i < length ds → get_or list i 0 ≡ figure (outline_from t ds (suc i))

pub record Left (t : Tariff) (ds : List ℕ) (costs counts : List ℕ) : Type 0 where
  pub some : 0 < length ds
  pub cost : After kept_cost t ds costs
  pub count : After kept_count t ds counts

-- A cost other than what stands for none is that of a cutting.
pub outline_found : (t : Tariff) (a : Answer Cutting) → ((outline_of t a).cost ≡ unpriced → ⊥)
    → (xs : Cutting) × (a ≡ figures xs)
outline_found t (figures xs) n = (xs, refl)
outline_found t (refused m) n = absurd (n refl)

-- ---- The best cutting of some periods, from those of what is left after its first run

-- Where a cutting is not preferred its outline is not ahead: its first run, for one, is not longer.
first_not_longer : (ys xs : Cutting) → longer run_length ys xs ≡ false
    → ltb (first_run run_length xs) (first_run run_length ys) ≡ false
unfolding longer
first_not_longer [] xs h = le-ltb (first_run run_length xs) 0 (omega arith)
first_not_longer (y ∷ ys) [] h = absurd (true≢false h)
first_not_longer (y ∷ ys) (x ∷ xs) h =
    le-ltb (run_length x) (run_length y) (smaller_not (run_length x) (run_length y) _ h).0

not_preferred-ahead : (t : Tariff) (ys xs : Cutting) → cutting_preferred t ys xs ≡ false
    → ahead (outline_of t (figures ys)) (outline_of t (figures xs)) ≡ false
unfolding wins ahead
not_preferred-ahead t ys xs h =
    let c = smaller_not (true_cost_of t ys) (true_cost_of t xs) _ h in
    not_smaller _ _ _ c.0 (λ e. let n =
    smaller_not (length ys) (length xs) _ (c.1 e) in not_smaller _ _ _ n.0 (λ f. first_not_longer ys xs (n.1 f)))

module _ (t : Tariff) (h : TariffRange t) (ds : List ℕ) (few : length ds ≤ trace_limit) (costs counts : List ℕ) (k : Left t ds costs counts) where
  -- A bound on a figure of every outline is one on the list.
  left_bound : (figure : Outline → ℕ) (limit : ℕ) (list : List ℕ)
      → ((es : List ℕ) → length es ≤ trace_limit → (a : Answer Cutting) → IsSeries t es a → figure (outline_of t a) ≤ limit)
      → After figure t ds list → (i : ℕ) → i < length ds → get_or list i 0 ≤ limit
  left_bound figure limit list bound a i l =
      subst (λ (n : ℕ). n ≤ limit) (sym (a.at i l)) (bound (drop (suc i) ds) (omega (arith, length-drop (suc i) ds)) (cheapest_cut t (drop (suc i) ds)) (series-is t (drop (suc i) ds)))

  -- The lists can be added up.
  pub left-rests : Rests t ds costs counts
  left-rests =
      record {
        tariffs = h;
        few = few;
        costs_all = k.cost.all;
        counts_all = k.count.all;
        cost = left_bound kept_cost unpriced costs (outline_cost t h) k.cost;
        count = left_bound kept_count trace_limit counts (outline_count t h) k.count;
      }

  -- A first run that is served, with the best cutting of what is left after it.
  module _ (i r B : ℕ) (inside : i < length ds) (s : Serves t (take (i + 1) ds) (bucket_of r B)) (zs : Cutting) (e : cheapest_cut t (drop (suc i) ds) ≡ figures zs) where
    abbrev whole : Cutting
    whole = record { periods = suc i; bucket = bucket_of r B } ∷ zs

    whole-carried : Carried t ds whole
    whole-carried =
        let f : FirstRun run_length (ServesRun t) ds (record { periods = suc i; bucket = bucket_of r B }) =
        record { some = omega arith; inside = inside; fits = subst (λ (n : ℕ). Serves t (take n ds) (bucket_of r B)) (add-one i) s } in
        run f (subst (IsSeries t (drop (suc i) ds)) e (series-is t (drop (suc i) ds))).kind

    whole_outline : starts_with t ds costs counts i r B ≡ outline_of t (figures whole)
    unfolding total
    whole_outline =
        ap (λ (n : ℕ). begun costs counts i (cost_of t n (bucket_of r B))) (add-one i)
        ∙ ap (λ (n : ℕ). record { cost = cost_of t (suc i) (bucket_of r B) + n; buckets = get_or counts i 0 + 1; first = i + 1 }) (k.cost.at i inside ∙ ap (λ (a : Answer Cutting). (outline_of t a).cost) e)
        ∙ ap (λ (n : ℕ). record { cost = true_cost_of t whole; buckets = n + 1; first = i + 1 }) (k.count.at i inside ∙ ap (λ (a : Answer Cutting). (outline_of t a).buckets) e)
        ∙ ap (λ (n : ℕ). record { cost = true_cost_of t whole; buckets = n; first = i + 1 }) (add-one (length zs))
        ∙ ap (λ (n : ℕ). record { cost = true_cost_of t whole; buckets = length whole; first = n }) (add-one i)

  -- What is found, if it is not that of no cutting, is that of a carried one.
  pub record Found (o : Outline) : Type 0 where
    pub cut : Cutting
    pub carried : Carried t ds cut
    pub is : o ≡ outline_of t (figures cut)

  served_found : (o : Outline) → Served t ds costs counts o → Found o
  served_found o s =
      let i = s.place in
      let l : get_or costs i 0 < unpriced = omega (arith, s.below, ap (λ (x : Outline). x.cost) s.is) in
      let rest = outline_found t (cheapest_cut t (drop (suc i) ds)) (λ e. omega (arith, l, k.cost.at i s.inside ∙ e)) in
      record {
        cut = whole i s.rate s.depth s.inside s.serves rest.0 rest.1;
        carried = whole-carried i s.rate s.depth s.inside s.serves rest.0 rest.1;
        is = s.is ∙ whole_outline i s.rate s.depth s.inside s.serves rest.0 rest.1;
      }

  module _ (c : Choice) (f : BestFirst t ds costs counts c) where
    abbrev o : Outline
    o = c.outline

    -- The best cutting is not ahead of what is found …
    best_behind : (xs : Cutting) → cheapest_cut t ds ≡ figures xs → Carried t ds xs
        → ahead (outline_of t (figures xs)) o ≡ false
    best_behind [] e d =
        absurd (omega (arith, k.some, ap length (best_of_none run_length (run_cost t) (run_record t) ds e)))
    best_behind (x ∷ xs) e d =
        let b = best-runs run_length (run_cost t) (run_record t) (record_whole t) ds x xs e in
        let g = (cut_first run_length (run_cost t) (ServesRun t) d).0.fits in
        let i = run_length x - 1 in
        let n : run_length x ≡ suc i = omega (arith, b.some) in
        let inside : i < length ds = omega (arith, b.inside, n) in
        let s : Serves t (take (i + 1) ds) x.bucket =
        subst (λ (m : ℕ). Serves t (take m ds) x.bucket) (n ∙ sym (add-one i)) g in
        let rest : cheapest_cut t (drop (suc i) ds) ≡ figures xs =
        subst (λ (m : ℕ). cheapest_cut t (drop m ds) ≡ figures xs) n b.onward in
        let is : starts_with t ds costs counts i x.bucket.rate.0 x.bucket.depth.0 ≡ outline_of t (figures (x ∷ xs)) =
        whole_outline i x.bucket.rate.0 x.bucket.depth.0 inside s xs rest ∙ ap (λ (m : ℕ). outline_of t (figures (record { periods = m; bucket = x.bucket } ∷ xs))) (sym n) in
        subst (λ (y : Outline). ahead y o ≡ false) is (f.passed x.bucket.rate.0 i g.rates inside x.bucket.depth.0 s)

    -- … so what is found is its outline.
    pub search_found : o ≡ outline_of t (cheapest_cut t ds)
    search_found = go (cheapest_cut t ds) refl (series-is t ds) f.kind
      where
        go : (a : Answer Cutting) → cheapest_cut t ds ≡ a → IsSeries t ds a → Kind t ds costs counts o
            → o ≡ outline_of t a
        go (figures xs) e b (inl none) =
            absurd (omega (arith, carried-below t h few b.kind, not_ahead-cost o (outline_of t (figures xs)) (best_behind xs e b.kind), ap (λ (x : Outline). x.cost) none))
        go (figures xs) e b (inr s) =
            let x = served_found o s in
            ahead_only o (outline_of t (figures xs))
            (subst (λ (x : Outline). ahead x (outline_of t (figures xs)) ≡ false) (sym x.is) (not_preferred-ahead t x.cut xs (b.none_preferred x.cut x.carried)))
            (best_behind xs e b.kind)
        go (refused n) e b (inl none) = none
        go (refused n) e b (inr s) = let x = served_found o s in absurd (b.1 x.cut x.carried)

-- The charges at which no walk stops.
pub far_all : Far (replicate 512 (unpriced + 1))
far_all = record { room = omega arith; each = λ i l. get_or-replicate 512 i (unpriced + 1) 0 l }

-- ---- One more period in front

-- A part of a list, by its entries.
part_at : (xs : List ℕ) (a n i : ℕ) → i < n → get_or (take n (drop a xs)) i 0 ≡ get_or xs (a + i) 0
part_at xs a n i l = get_or-take n (drop a xs) i 0 l ∙ get_or-drop a xs i 0

-- A list that follows f from one entry on, and now from the entry before it.
set_before : (f : ℕ → ℕ) (xs : List ℕ) (start end v : ℕ) → start < length xs → v ≡ f start
    → ((j : ℕ) → suc start ≤ j → j ≤ end → get_or xs j 0 ≡ f j)
    → (j : ℕ) → start ≤ j → j ≤ end → get_or (set xs start v) j 0 ≡ f j
set_before f xs start end v room e all j l m = go (eqb j start) refl
  where
    go : (b : Bool) → eqb j start ≡ b → get_or (set xs start v) j 0 ≡ f j
    go true g =
        let i = eqb-true j start g in
        ap (λ (n : ℕ). get_or (set xs start v) n 0) i ∙ get_or-set_same xs start v 0 room ∙ e ∙ ap f (sym i)
    go false g = get_or-set_other xs start j v 0 (eqb-false j start g) ∙ all j (omega (arith, eqb-false)) m

module _ (t : Tariff) (ds : List ℕ) (start : ℕ) (l : start < length ds) where
  left-length : length (drop start ds) ≡ length ds - start
  left-length = length-drop start ds

  -- What is left after i + 1 more periods.
  left_on : (i : ℕ) → outline_from t ds (suc start + i) ≡ outline_from t (drop start ds) (suc i)
  left_on i =
      let e : suc start + i ≡ start + suc i = omega arith in
      ap (λ (es : List ℕ). outline_of t (cheapest_cut t es)) (ap (λ (n : ℕ). drop n ds) e ∙ sym (drop-drop (suc i) start ds))

  module _ (figure : Outline → ℕ) (list : List ℕ) (k : Held figure t ds (suc start) list) where
    held_after : After figure t (drop start ds) (take (length ds + 1 - suc start) (drop (suc start) list))
    held_after =
        record {
          all = sym (part_count list (suc start) (length ds + 1) (omega arith, omega (arith, k.room))) ∙ omega (arith, left-length);
          at = λ i m.
              part_at list (suc start) (length ds + 1 - suc start) i (omega (arith, left-length))
              ∙ k.at (suc start + i) (omega arith) (omega (arith, left-length)) ∙ ap figure (left_on i);
        }

    held_more : (o : Outline) → o ≡ outline_from t ds start → Held figure t ds start (set list start (figure o))
    held_more o e =
        record {
          room = omega (arith, k.room, length-set list start (figure o));
          at = set_before (λ j. figure (outline_from t ds j)) list start (length ds) (figure o) (omega (arith, k.room)) (ap figure e) k.at;
        }

  module _ (costs counts firsts : List ℕ) (k : Kept t ds (suc start) costs counts firsts) where
    pub kept-left : Left t (drop start ds) (take (length ds + 1 - suc start) (drop (suc start) costs)) (take (length ds + 1 - suc start) (drop (suc start) counts))
    kept-left = record { some = omega (arith, left-length); cost = held_after kept_cost costs k.cost; count = held_after kept_count counts k.count }

    pub kept_more : (o : Outline) → o ≡ outline_from t ds start
        → Kept t ds start (set costs start o.cost) (set counts start o.buckets) (set firsts start o.first)
    kept_more o e = record { cost = held_more kept_cost costs k.cost o e; count = held_more kept_count counts k.count o e; first = held_more kept_first firsts k.first o e }

-- ---- Before the first turn and after the last

-- After the last period nothing is left, and it costs nothing.
none_left : (t : Tariff) (ds : List ℕ) (j : ℕ) → length ds ≤ j
    → outline_from t ds j ≡ record { cost = 0; buckets = 0; first = 0 }
unfolding bests total
none_left t ds j l = ap (λ (es : List ℕ). outline_of t (cheapest_cut t es)) (drop_of_length-le ds l)

held_start : (figure : Outline → ℕ) (t : Tariff) (ds : List ℕ) → length ds ≤ trace_limit
    → figure (record { cost = 0; buckets = 0; first = 0 }) ≡ 0
    → Held figure t ds (length ds) (replicate 513 0)
held_start figure t ds few z = record { room = omega arith; at = λ j l m. get_or-replicate 513 j 0 0 (omega arith) ∙ sym z ∙ ap figure (sym (none_left t ds j l)) }

pub kept_start : (t : Tariff) (ds : List ℕ) → length ds ≤ trace_limit
    → Kept t ds (length ds) (replicate 513 0) (replicate 513 0) (replicate 513 0)
kept_start t ds few = record { cost = held_start kept_cost t ds few refl; count = held_start kept_count t ds few refl; first = held_start kept_first t ds few refl }

-- An outline without a cost is that of refusal 7, and the outline of a cutting gives the figures of a plan.
pub outline_none : (t : Tariff) → TariffRange t → (ds : List ℕ) → length ds ≤ trace_limit → (a : Answer Cutting)
    → IsSeries t ds a
    → (outline_of t a).cost ≡ unpriced → a ≡ refused 7
outline_none t h ds few (figures xs) k e = absurd (omega (arith, carried-below t h few k.kind))
outline_none t h ds few (refused n) k e = ap refused k.0

pub outline_plan : (t : Tariff) (a : Answer Cutting) (xs : Cutting) → a ≡ figures xs
    → plan_of t a ≡ figures (record { buckets = (outline_of t a).buckets; cost = (outline_of t a).cost })
outline_plan t a xs e =
    ap (plan_of t) e
    ∙ ap (λ (b : Answer Cutting). figures (record { buckets = (outline_of t b).buckets; cost = (outline_of t b).cost })) (sym e)

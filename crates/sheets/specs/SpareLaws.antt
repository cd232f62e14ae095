-- No spare on a sheet is below 0, since the bucket of each run carries it.
-- Assumes nothing.
use Rattle.std.specs.Prelude.{ℕ, ◌+◌, ◌-◌, ◌≡◌, refl, true, List, [], ◌∷◌, ◌++◌, ℤ, length, take, drop}
use Rattle.std.proofs.Common.{ap, ◌∙◌}
use Rattle.std.specs.Int.Signed.{non_neg}
use Rattle.terms.specs.declared.Bucket.{Bucket}
use Rattle.terms.specs.declared.Factor.{Factor}
use Rattle.terms.specs.declared.Tariff.{Tariff}
use Rattle.terms.specs.Answer.{figures}
use Rattle.terms.specs.Limits.{trace_limit}
use Rattle.terms.specs.Records.{Cutting, Each, run_length}
use Rattle.bucket.specs.Laws.{carried_spare}
use Rattle.bucket.specs.Step.{start_of}
use Rattle.bucket.specs.Trace.{carries_from}
use Rattle.bucket.specs.Trial.{trial_figures}
use Rattle.series.specs.Cutting.{none, run}
use Rattle.series.specs.Series.{Carried, true_cost_of}
use Rattle.text.specs.Lines.{plan_line, bucket_line}
use Rattle.planning.specs.Planning.{Planned, planned}
use Rattle.planning.specs.PlannedLaws.{is-planned, planned-cheapest}
use Rattle.sheets.specs.Sheet.{run_line, run_lines, sheet_text}

-- ---- The spares that are printed

-- The spares of the runs, first to last.
unfoldable pub spares_of : Factor → List ℕ → Cutting → List ℤ
spares_of f ds [] = []
spares_of f ds (x ∷ xs) = (trial_figures x.bucket f (take (run_length x) ds)).spare ∷ spares_of f (drop (run_length x) ds) xs

-- The lines of the runs with these spares on them.
unfoldable pub lines_with : ℕ → List ℕ → Cutting → List ℤ → List ℕ
lines_with first ds [] zs = []
lines_with first ds (x ∷ xs) [] = []
lines_with first ds (x ∷ xs) (z ∷ zs) =
    let n = run_length x in
    bucket_line first (first + length (take n ds) - 1) x.bucket z ++ lines_with (first + n) (drop n ds) xs zs

lines-spares : (f : Factor) (first : ℕ) (ds : List ℕ) (xs : Cutting) → run_lines f first ds xs ≡ lines_with first ds xs (spares_of f ds xs)
unfolding run_lines spares_of lines_with
lines-spares f first ds [] = refl
lines-spares f first ds (x ∷ xs) =
    ap (λ (ys : List ℕ). run_line f first x.bucket (take (run_length x) ds) ++ ys) (lines-spares f (first + run_length x) (drop (run_length x) ds) xs)

-- ---- None is below 0

-- The spare of a bucket that carries its run.
pub run_spare : (f : Factor) (b : Bucket) (ds : List ℕ) → carries_from b.rate.0 b.depth.0 (start_of f.p f.q b.depth.0) ds ≡ true
    → non_neg (trial_figures b f ds).spare ≡ true
unfolding trial_figures
run_spare f b ds h = carried_spare b.rate.0 b.depth.0 (start_of f.p f.q b.depth.0) ds ∙ h

module _ (t : Tariff) where
  carried-spares : {ds : List ℕ} {xs : Cutting} → Carried t ds xs → Each (λ z. non_neg z ≡ true) (spares_of t.factor ds xs)
  unfolding spares_of
  carried-spares none = tt
  carried-spares (run {ds} {x} {xs} f c) = (run_spare t.factor x.bucket (take (run_length x) ds) f.fits.carried, carried-spares c)

-- An order's sheet is its first line and the lines with these spares, and none of them is below 0.
pub sheet_spares : (bs : List ℕ) (x : Planned) → planned trace_limit trace_limit bs ≡ figures x
    → let t = x.order.tariff in
    let zs = spares_of t.factor x.demands x.cutting in
    (sheet_text x ≡ plan_line x.order.periods (length x.cutting) (true_cost_of t x.cutting) ++ lines_with 1 x.demands x.cutting zs)
    × Each (λ z. non_neg z ≡ true) zs
sheet_spares bs x e =
    let t = x.order.tariff in
    let first = plan_line x.order.periods (length x.cutting) (true_cost_of t x.cutting) in (
      ap (λ (ys : List ℕ). first ++ ys) (lines-spares t.factor 1 x.demands x.cutting),
      carried-spares t (planned-cheapest (is-planned trace_limit trace_limit bs x e)).carried,
    )

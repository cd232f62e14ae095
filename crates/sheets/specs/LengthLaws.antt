-- How long a sheet can be: its first line, and a line for each bucket.
-- Assumes nothing.
use Rattle.std.specs.Prelude.{ℕ, suc, ◌+◌, ◌-◌, ◌*◌, ◌^◌, ◌≤◌, ◌<◌, ◌≡◌, refl, Bool, true, false, cond, List, [], ◌∷◌, ◌++◌, T, ltb, ℤ, pos, negsuc, nat_abs, ◌-ℤ◌, drop, ◌≤ℤ◌}
use native.Mathlib.Omega.{arith}
use Rattle.std.proofs.Common.{sym, subst, ◌∙◌, true≢false, leb→le}
use Rattle.std.proofs.Math.ListN.{length, take, length-append, length-take, length-drop}
use Rattle.std.specs.Int.Signed.{non_neg, le_z}
use Rattle.terms.specs.declared.Bucket.{Bucket}
use Rattle.terms.specs.declared.Tariff.{Tariff}
use Rattle.terms.specs.Limits.{trace_limit}
use Rattle.terms.specs.RangeRules.{BucketRange, TariffRange}
use Rattle.terms.specs.Records.{Cutting, run_length}
use Rattle.bucket.specs.Least.{least_first}
use Rattle.bucket.specs.Laws.{sub_is, start_le, carried_spare}
use Rattle.bucket.specs.Step.{start_of}
use Rattle.bucket.specs.Trace.{carries_from, gap, spare_from}
use Rattle.bucket.specs.Trial.{trial_figures}
use Rattle.series.specs.Cutting.{none, run}
use Rattle.series.specs.Series.{Carried}
use Rattle.text.specs.Numeral.{numeral, ended}
use Rattle.text.specs.Megabits.{megabits, sign}
use Rattle.text.specs.Lines.{space, newline, plan_word, plan_line, bucket_line}
use Rattle.text.specs.NumeralLaws.{numeral-short}
use Rattle.text.specs.MegabitsLaws.{megabits-short}
use Rattle.text.specs.PutLaws.{ended-length}
use Rattle.planning.specs.PlannedLaws.{served_range}
use Rattle.sheets.specs.Sheet.{run_line, run_lines}
use Rattle.sheets.specs.SpareLaws.{run_spare}

abbrev pub longest_first_line : ℕ
longest_first_line = 29

abbrev pub longest_bucket_line : ℕ
longest_bucket_line = 32

abbrev pub longest_sheet : ℕ
longest_sheet = longest_first_line + longest_bucket_line * trace_limit

-- ---- The spare of a carried run

-- A number that is not below 0 and at most a − b is at most a.
at_most : (z : ℤ) (a b : ℕ) → non_neg z ≡ true → z ≤ℤ (pos a -ℤ pos b) → nat_abs z ≤ a
at_most (negsuc n) a b h l = absurd (true≢false (sym h))
at_most (pos n) a b h l = go (ltb a b) refl (subst (λ (x : ℤ). T (le_z (pos n) x)) (sub_is a b) l.le)
  where
    go : (t : Bool) → ltb a b ≡ t → T (le_z (pos n) (cond t (negsuc (b - suc a)) (pos (a - b)))) → n ≤ a
    go true e k = absurd k
    go false e k = omega (arith, leb→le n (a - b) k)

-- It is at most the tokens of the first period.
spare_small : (r B y : ℕ) (ds : List ℕ) → carries_from r B y ds ≡ true → nat_abs (spare_from r B y ds) ≤ y + r
unfolding spare_from
spare_small r B y [] h = omega arith
spare_small r B y (d ∷ ds) h = at_most (spare_from r B y (d ∷ ds)) (y + r) d (carried_spare r B y (d ∷ ds) ∙ h) (least_first (gap r y d) _)

no_sign : (z : ℤ) → non_neg z ≡ true → length (sign z) ≡ 0
no_sign (pos n) h = refl
no_sign (negsuc n) h = absurd (true≢false (sym h))

-- ---- Lines

line-short : (first last : ℕ) (b : Bucket) (z : ℤ) → first < 1000 → last < 1000 → BucketRange b → non_neg z ≡ true → nat_abs z < 10 ^ 4 * 1000
    → length (bucket_line first last b z) ≤ longest_bucket_line
line-short first last b z hf hl hb hn hz =
    let r = pos b.rate.0 in
    let d = pos b.depth.0 in
    let e₁ = ended (numeral first) space in
    let e₂ = ended (numeral last) space in
    let e₃ = ended (megabits r) space in
    let e₄ = ended (megabits d) space in
    let e₅ = ended (megabits z) newline in
    omega (
      arith,
      length-append (e₁ ++ e₂ ++ (e₃ ++ e₄)) e₅,
      length-append (e₁ ++ e₂) (e₃ ++ e₄),
      length-append e₁ e₂,
      length-append e₃ e₄,
      ended-length (numeral first) space,
      ended-length (numeral last) space,
      ended-length (megabits r) space,
      ended-length (megabits d) space,
      ended-length (megabits z) newline,
      numeral-short 19 2 first hf,
      numeral-short 19 2 last hl,
      megabits-short r 0 (omega (arith, hb.rates)),
      megabits-short d 3 (omega (arith, hb.depths)),
      megabits-short z 3 hz,
      no_sign z hn,
    )

pub plan-line-short : (periods buckets cost : ℕ) → periods < 1000 → buckets < 1000 → cost < 10 ^ 15 → length (plan_line periods buckets cost) ≤ longest_first_line
plan-line-short periods buckets cost hp hb hc =
    let e₁ = ended plan_word space in
    let e₂ = ended (numeral periods) space in
    let e₃ = ended (numeral buckets) space in
    let e₄ = ended (numeral cost) newline in
    omega (
      arith,
      length-append (e₁ ++ e₂ ++ e₃) e₄,
      length-append (e₁ ++ e₂) e₃,
      length-append e₁ e₂,
      ended-length (numeral periods) space,
      ended-length (numeral buckets) space,
      ended-length (numeral cost) newline,
      numeral-short 19 2 periods hp,
      numeral-short 19 2 buckets hb,
      numeral-short 19 14 cost hc,
    )

-- ---- The runs of a carried cutting

module _ (t : Tariff) (h : TariffRange t) where
  run_short : (first : ℕ) (b : Bucket) (ds : List ℕ) → first < 1000 → first + length ds - 1 < 1000 → BucketRange b
      → carries_from b.rate.0 b.depth.0 (start_of t.factor.p t.factor.q b.depth.0) ds ≡ true → length (run_line t.factor first b ds) ≤ longest_bucket_line
  unfolding trial_figures
  run_short first b ds hf hl hb hc =
      let r = b.rate.0 in
      let B = b.depth.0 in
      let y = start_of t.factor.p t.factor.q B in
      line-short first (first + length ds - 1) b (spare_from r B y ds) hf hl hb (run_spare t.factor b ds hc)
      (omega (arith, spare_small r B y ds hc, start_le t.factor.p t.factor.q B h.factor.part, hb.rates, hb.depths))

  pub runs-short : {ds : List ℕ} {xs : Cutting} → Carried t ds xs → (first : ℕ) → first + length ds ≤ trace_limit + 1 → length (run_lines t.factor first ds xs) ≤ longest_bucket_line * length xs
  unfolding run_lines
  runs-short none first l = omega arith
  runs-short (run {ds} {x} {xs} f c) first l =
      let n = run_length x in
      let b = x.bucket in
      let part = take n ds in
      let size : length part ≡ n = omega (arith, length-take n ds, f.inside) in
      let one = run_short first b part (omega (arith, l, f.some, f.inside)) (omega (arith, l, f.some, f.inside, size)) (served_range t h f).bucket f.fits.carried in
      let rest = runs-short c (first + n) (omega (arith, l, f.inside, length-drop n ds)) in
      omega (arith, one, rest, length-append (run_line t.factor first b part) (run_lines t.factor (first + n) (drop n ds) xs))

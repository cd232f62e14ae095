-- How long the lines of a single bucket and of a depth with what sets it are.
-- Assumes nothing.
use Rattle.std.specs.Prelude.{ℕ, ◌≤◌, ◌<◌, ◌^◌, ◌≡◌, List, length}
use Rattle.std.proofs.Common.{arith, le_trans, subst, length-append}
use Rattle.terms.specs.declared.Tariff.{Tariff}
use Rattle.terms.specs.Answer.{figures}
use Rattle.terms.specs.AnswerLaws.{on_figures_lem, then_found}
use Rattle.terms.specs.Limits.{trace_limit}
use Rattle.terms.specs.RangeRules.{BucketRange, PeriodsRange, TariffRange}
use Rattle.depth.specs.Depth.{depth_of}
use Rattle.causes.specs.Cause.{Explanation, SetBy, nothing, opening, stretch, explained}
use Rattle.causes.specs.CauseLaws.{IsCause, cause-true}
use Rattle.causes.specs.FoundLaws.{asked}
use Rattle.single.specs.declared.costs.Priced.{Priced}
use Rattle.single.specs.CostLaws.{cost-le}
use Rattle.single.specs.Single.{single_of}
use Rattle.single.specs.SingleLaws.{single_cheapest}
use Rattle.order_file.specs.Ordered.{Ordered, ordered}
use Rattle.order_file.specs.OrderedLaws.{is-ordered, ordered_range}
use Rattle.text.specs.Lines.{depth_fields, single_line, space}
use Rattle.text.specs.LineLaws.{front-short, longest_cause, longest_explained, longest_single, nothing-short, opening-short, single_short, stretch-short}
use Rattle.services.specs.Services.{cause_fields, explain_for, explained_line, single_for}

-- The bucket is in its range, and what it costs is small; so its line is short.
module _ (bs : List ℕ) (x : Priced) (e : single_for bs ≡ figures x) where
  abbrev read : (y : Ordered) × (ordered trace_limit bs ≡ figures y) × (single_of y.order.tariff y.demands ≡ figures x)
  read = then_found (ordered trace_limit bs) _ e

  ranges : PeriodsRange (length read.0.demands) × TariffRange read.0.order.tariff
  ranges = ordered_range (is-ordered trace_limit bs read.0 read.1)

  bucket_range : BucketRange x.bucket
  bucket_range =
      let k = single_cheapest read.0.order.tariff read.0.demands read.2 in
      record { rates = le_trans k.serves.rates ranges.1.rate_caps; depths = le_trans k.serves.depths ranges.1.depth_caps }

  pub single_cost : x.cost < 10 ^ 14
  single_cost =
      let t = read.0.order.tariff in
      let k = single_cheapest t read.0.demands read.2 in
      omega (arith, k.paid, cost-le {t = t} {b = x.bucket} ranges.1 bucket_range (length read.0.demands), ranges.0.few)

  pub single_line-short : length (single_line x.bucket x.cost) ≤ longest_single
  single_line-short = single_short x.bucket x.cost bucket_range single_cost

-- A depth that is answered is in its range, and what sets it are periods of the trace; so its line is short.
cause-short : (t : Tariff) (r : ℕ) (ds : List ℕ) (B : ℕ) → length ds ≤ trace_limit → (by : SetBy) → IsCause t r ds B by → length (cause_fields by) ≤ longest_cause
cause-short t r ds B l nothing k = nothing-short
cause-short t r ds B l (opening v) k = opening-short v (le_trans k.inside l)
cause-short t r ds B l (stretch u v) k = stretch-short u v (le_trans k.ordered (le_trans k.inside l)) (le_trans k.inside l)

pub explained-line-short : (r : ℕ) (bs : List ℕ) (x : Explanation) → explain_for r bs ≡ figures x → length (explained_line x) ≤ longest_explained
explained-line-short r bs x e =
    let y = then_found (ordered trace_limit bs) _ e in
    let t = y.0.order.tariff in
    let ds = y.0.demands in
    let d = on_figures_lem (explained t r ds) (depth_of t r ds) y.2 in
    let k = asked t r ds d.1 in
    let by = (explained t r ds d.0).cause in
    let c : length (cause_fields by) ≤ longest_cause = cause-short t r ds d.0 k.periods.few by (cause-true t r ds d.1) in
    subst (λ (z : Explanation). length (explained_line z) ≤ longest_explained) d.2
    (omega (arith, length-append (depth_fields d.0 space) (cause_fields by), front-short d.0 k.depths, c))

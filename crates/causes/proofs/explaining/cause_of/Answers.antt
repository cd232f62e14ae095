-- The searches find what the definition's do; for a depth above 0 an opening is found or else a stretch.
use Prim.Native.Nat.{ℕ, ◌-◌, ◌≤◌}
use native.Mathlib.Omega.{arith}
use mathlib.Core.Path.{◌≡◌, sym, ap, ap₂, ◌∙◌}
use mathlib.Core.List.{List}
use lib.ListN.{length}
use Rattle.terms.specs.declared.Tariff.{Tariff}
use Rattle.terms.specs.Answer.{Answer, figures, refused, figure_or}
use Rattle.terms.specs.Limits.{depth_limit, trace_limit}
use Rattle.terms.specs.RangeRules.{FreshRange}
use Rattle.bucket.specs.Laws.{start_le}
use Rattle.depth.specs.Depth.{depth_of}
use Rattle.causes.specs.Cause.{opening, stretch, opening_end, start_at, stretch_end, stretch_start, cause_of}
use Rattle.causes.specs.CauseLaws.{nothing-at_0}
use Rattle.causes.specs.FoundLaws.{Asked, Stretched, asked, cause-opens, opening-is, stretched}
use Rattle.causes.proofs.explaining.cause_of.Goals as goal

module _ (t : Tariff) (r : ℕ) (ds : List ℕ) (B : ℕ) (e : depth_of t r ds ≡ figures B) (some : B ≡ 0 → ⊥) where
  above : 1 ≤ B
  above = omega (arith, some)

  ranges : Asked t r ds B
  ranges = asked t r ds e

  fresh : FreshRange (record { rate = record { 0 = r }; depth = record { 0 = B - 1 } }) t.factor
  fresh =
      record {
        bucket = record { rates = ranges.rate.rates; depths = omega (arith, ranges.depths) };
        factor = ranges.rate.tariff.factor;
      }

  module _ {tokens : ℕ} (y : tokens ≡ start_at t (B - 1)) where
    tokens-few : tokens ≤ depth_limit
    tokens-few = omega (arith, y, ranges.depths, start_le t.factor.p t.factor.q (B - 1) ranges.rate.tariff.factor.part)

    module _ {v : ℕ} (o : figures v ≡ opening_end r tokens ds) where
      opens : opening_end r (start_at t (B - 1)) ds ≡ figures v
      opens = rw y at (sym o)

      opening-fits : v ≤ trace_limit
      opening-fits = omega (arith, (opening-is t r ds e above v opens).inside, ranges.periods.few)

      opening-named : opening v ≡ cause_of t r ds B
      opening-named = sym (cause-opens t r ds e above v opens)

    module _ (o : refused 7 ≡ opening_end r tokens ds) where
      this : Stretched t r ds e above
      this = let none = rw y at o in stretched t r ds e above (sym (ap (λ (a : Answer ℕ). figure_or a 0) none))

      module _ {last : ℕ} (l : last ≡ figure_or (stretch_end r (B - 1) ds) (length ds)) where
        last-is : last ≡ this.last
        last-is = rw this.is_last at l

        last-inside : (1 ≤ last) × (last ≤ length ds)
        last-inside = let k = this.is_short in (omega (arith, last-is, k.late, k.ordered), omega (arith, last-is, k.inside))

        last-fits : last ≤ trace_limit
        last-fits = omega (arith, last-inside.1, ranges.periods.few)

        module _ {first : ℕ} (f : first ≡ figure_or (stretch_start r (B - 1) ds last) last) where
          first-is : first ≡ this.first
          first-is = rw (last-is, this.is_first) at f

          first-fits : first ≤ trace_limit
          first-fits = let k = this.is_short in omega (arith, first-is, k.ordered, k.inside, ranges.periods.few)

          stretch-named : stretch first last ≡ cause_of t r ds B
          stretch-named = ap₂ stretch first-is last-is ∙ sym this.named

pub returns-then-depth-eq0 : goal.returns-then-depth-eq0
returns-then-depth-eq0 c = sym (nothing-at_0 _ _ _ _ c.if-depth-eq0.true)

pub starting_tokens-tokens-requires : goal.starting_tokens-tokens-requires
starting_tokens-tokens-requires c = fresh _ _ _ _ c.requires c.if-depth-eq0.false

pub opening_end-requires : goal.opening_end-requires
opening_end-requires c =
    let k = ranges _ _ _ _ c.requires c.if-depth-eq0.false in
    record {
      periods_range = k.periods;
      rate_le_rate_limit = k.rate.rates;
      tokens_le_depth_limit = tokens-few _ _ _ _ c.requires c.if-depth-eq0.false c.starting_tokens-tokens.ensures;
    }

pub overflow_cast-result : goal.overflow_cast-result
overflow_cast-result c =
    omega
    (arith, opening-fits _ _ _ _ c.requires c.if-depth-eq0.false c.starting_tokens-tokens.ensures c.in-Some.ensures)

pub returns-in-Some : goal.returns-in-Some
returns-in-Some c =
    opening-named _ _ _ _ c.requires c.if-depth-eq0.false c.starting_tokens-tokens.ensures c.in-Some.ensures

pub stretch_end-last-requires : goal.stretch_end-last-requires
stretch_end-last-requires c =
    record {
      periods_range = (ranges _ _ _ _ c.requires c.if-depth-eq0.false).periods;
      bucket_range = (fresh _ _ _ _ c.requires c.if-depth-eq0.false).bucket;
    }

pub stretch_start-first-requires : goal.stretch_start-first-requires
stretch_start-first-requires c =
    let y = c.starting_tokens-tokens.ensures in
    let l = last-inside _ _ _ _ c.requires c.if-depth-eq0.false y c.in_default.ensures c.stretch_end-last.ensures in
    record {
      periods_range = (ranges _ _ _ _ c.requires c.if-depth-eq0.false).periods;
      bucket_range = (fresh _ _ _ _ c.requires c.if-depth-eq0.false).bucket;
      le_last = l.0;
      last_in_bounds = l.1;
    }

pub overflow_cast-result-2 : goal.overflow_cast-result-2
overflow_cast-result-2 c =
    let y = c.starting_tokens-tokens.ensures in
    let l = c.stretch_end-last.ensures in
    omega
    (arith, first-fits _ _ _ _ c.requires c.if-depth-eq0.false y c.in_default.ensures l c.stretch_start-first.ensures)

pub overflow_cast-result-3 : goal.overflow_cast-result-3
overflow_cast-result-3 c =
    let y = c.starting_tokens-tokens.ensures in
    omega (arith, last-fits _ _ _ _ c.requires c.if-depth-eq0.false y c.in_default.ensures c.stretch_end-last.ensures)

pub returns : goal.returns
returns c =
    let y = c.starting_tokens-tokens.ensures in
    let l = c.stretch_end-last.ensures in
    stretch-named _ _ _ _ c.requires c.if-depth-eq0.false y c.in_default.ensures l c.stretch_start-first.ensures

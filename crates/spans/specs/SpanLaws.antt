-- A line that bounds from one side cuts a span at a quotient: where it holds at an end it holds up to there.
-- Assumes nothing.
use Rattle.std.specs.Prelude.{ℕ, zero, suc, ◌+◌, ◌-◌, ◌*◌, ◌/◌, ◌≤◌, ◌<◌, ◌≡◌, Bool}
use native.Mathlib.Omega.{arith}
use Rattle.std.proofs.Common.{le_refl, le_trans, mul-le-mul_left, le-div_iff_mul-le, div-lt_iff_lt-mul, subst}
use Rattle.std.proofs.Math.Path.{refl}
use Rattle.std.proofs.Math.Bool.{true, false}
use borrow.Author.Tests.{leb-true, leb-false}
use Rattle.std.proofs.Math.Dec.{leb}
use Rattle.depth.specs.Walk.{ceiling}
use Rattle.depth.specs.CeilingLaws.{ceiling-le, le-ceiling}
use Rattle.spans.specs.declared.spans.Span.{Span}
use Rattle.spans.specs.Spans.{SpanRange, In, Kept, Cut, Other}

-- ---- Spans kept

pub kept_same : {P : ℕ → Type 0} {s : Span} → SpanRange s → Kept P s s
kept_same k = record { ordered = k.ordered; low = le_refl _; high = le_refl _; kept = λ x i m. i }

pub kept_then : {P Q : ℕ → Type 0} {a b c : Span} → Kept P a b → Kept Q b c → Kept (λ x. P x × Q x) a c
kept_then k l =
    record {
      ordered = l.ordered;
      low = le_trans k.low l.low;
      high = le_trans l.high k.high;
      kept = λ x i h. l.kept x (k.kept x i h.0) h.1;
    }

pub kept_if : {P Q : ℕ → Type 0} {a b : Span} → ((x : ℕ) → Q x → P x) → Kept P a b → Kept Q a b
kept_if f k = record { ordered = k.ordered; low = k.low; high = k.high; kept = λ x i h. k.kept x i (f x h) }

pub kept_range : {P : ℕ → Type 0} {a b : Span} → SpanRange a → Kept P a b → SpanRange b
kept_range r k = record { ordered = k.ordered; within = le_trans k.high r.within }

-- ---- From a line with two slopes to one with their difference

rising : (a b c e x : ℕ) → a * x + b ≤ c + (a + e) * x → 0 * x + b ≤ c + e * x
rising a b c e x h = omega arith

falling : (e b c d x : ℕ) → (d + e) * x + b ≤ c + d * x → e * x + b ≤ c + 0 * x
falling e b c d x h = omega arith

pub cut_rising : (a b c d : ℕ) (s r : Span) → a ≤ d → Cut 0 b c (d - a) s r → Cut a b c d s r
cut_rising a b c d s r l k =
    let e : d ≡ a + (d - a) = omega arith in
    kept_if (λ x h. rising a b c (d - a) x (subst (λ (y : ℕ). a * x + b ≤ c + y * x) e h)) k

pub cut_falling : (a b c d : ℕ) (s r : Span) → d < a → Cut (a - d) b c 0 s r → Cut a b c d s r
cut_falling a b c d s r l k =
    let e : a ≡ d + (a - d) = omega arith in
    kept_if (λ x h. falling (a - d) b c d x (subst (λ (y : ℕ). y * x + b ≤ c + d * x) e h)) k

-- ---- The cases

module _ (b c e : ℕ) (s : Span) (k : SpanRange s) where
  -- What does not hold at the high end holds nowhere.
  pub raised_none : c + e * s.hi < b → Cut 0 b c e s (record { lo = s.hi; hi = s.hi })
  raised_none h =
      record {
        ordered = le_refl _;
        low = k.ordered;
        high = le_refl _;
        kept = λ x i m.
            let l : x ≤ s.hi = omega (arith, i.below) in
            absurd (omega (arith, mul-le-mul_left e l));
      }

  module _ (h : c + e * s.lo < b) (l : b ≤ c + e * s.hi) where
    abbrev first : ℕ
    first = (b - c + (e - 1)) / e

    first_le : (x : ℕ) → b ≤ c + e * x → first ≤ x
    unfolding ceiling
    first_le x m = ceiling-le (b - c) e x (omega arith)

    lo_first : s.lo ≤ first
    unfolding ceiling
    lo_first = go (leb s.lo first) refl
      where
        go : (y : Bool) → leb s.lo first ≡ y → s.lo ≤ first
        go true f = leb-true _ _ f
        go false f =
            let m : first ≤ s.lo = omega (arith, leb-false) in
            let n : b - c ≤ e * s.hi = omega arith in
            absurd (omega (arith, le-ceiling (b - c) e s.lo s.hi n m))

    pub raised_first : Cut 0 b c e s (record { lo = first; hi = s.hi })
    raised_first =
        record {
          ordered = first_le s.hi l;
          low = lo_first;
          high = le_refl _;
          kept = λ x i m. record { from = first_le x (omega arith); below = i.below };
        }

    -- The slope is not 0.
    pub raised_some : 1 ≤ e
    raised_some = go e h l
      where
        go : (n : ℕ) → c + n * s.lo < b → b ≤ c + n * s.hi → 1 ≤ n
        go zero h l = absurd (omega arith)
        go (suc n) h l = omega arith

  -- What does not hold at the low end holds nowhere.
  pub lowered_none : c < e * s.lo + b → Cut e b c 0 s (record { lo = s.lo; hi = s.lo })
  lowered_none h =
      record {
        ordered = le_refl _;
        low = le_refl _;
        high = k.ordered;
        kept = λ x i m. absurd (omega (arith, mul-le-mul_left e i.from));
      }

  module _ (h : c + e < e * s.hi + b) (l : e * s.lo + b ≤ c) where
    abbrev last : ℕ
    last = (c - b) / e

    pub lowered_some : 1 ≤ e
    lowered_some = go e h l
      where
        go : (n : ℕ) → c + n < n * s.hi + b → n * s.lo + b ≤ c → 1 ≤ n
        go zero h l = absurd (omega arith)
        go (suc n) h l = omega arith

    le_last : (x : ℕ) → e * x + b ≤ c → x ≤ last
    le_last x m = (le-div_iff_mul-le lowered_some).1 (omega arith)

    last_hi : last < s.hi
    last_hi = (div-lt_iff_lt-mul lowered_some).1 (omega arith)

    pub lowered_last : Cut e b c 0 s (record { lo = s.lo; hi = last + 1 })
    lowered_last =
        record {
          ordered = omega (arith, le_last s.lo l);
          low = le_refl _;
          high = omega (arith, last_hi);
          kept = λ x i m. record { from = i.from; below = omega (arith, le_last x (omega arith)) };
        }

-- ---- Without the first rate

pub other_low : (rate : ℕ) (s : Span) → s.lo < s.hi → s.lo ≡ rate → Kept (Other rate) s (record { lo = rate + 1; hi = s.hi })
other_low rate s l e =
    record {
      ordered = omega arith;
      low = omega arith;
      high = le_refl _;
      kept = λ x i o. record { from = go x i o (leb (rate + 1) x) refl; below = i.below };
    }
  where
    go : (x : ℕ) → In s x → Other rate x → (b : Bool) → leb (rate + 1) x ≡ b → rate + 1 ≤ x
    go x i o true f = leb-true _ _ f
    go x i o false f = absurd (o (omega (arith, i.from, leb-false)))

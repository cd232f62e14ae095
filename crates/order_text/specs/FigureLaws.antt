-- The figures of a text are an order's: each is within its limit, p and q make a factor, and there are as many as an
-- order has. So the file is refused only for want of bytes.
-- Assumes nothing.
use Rattle.std.specs.Prelude.{ℕ, zero, suc, ◌+◌, ◌≤◌, ◌<◌, ◌≡◌, refl, Bool, true, false, cond, not, ◌||◌, List, [], ◌∷◌, ◌++◌, leb, eqb, length, get_or}
use Rattle.std.proofs.Common.{arith, sym, ap₂, subst, ◌∙◌, leb-true, leb-false, le-leb, eq-eqb, length-append, length-drop, get_or-drop}
use Rattle.std.proofs.lemmas.Bool.{lt-leb}
use Rattle.std.proofs.Math.ListN.{get_or-append}
use Rattle.std.proofs.lemmas.List.{get_or_at}
use Rattle.terms.specs.Answer.{figures, refused}
use Rattle.terms.specs.Bools.{true-false}
use Rattle.terms.specs.Limits.{demand_limit}
use Rattle.terms.specs.Ranges.{factor_ok}
use Rattle.terms.specs.RangeRules.{PeriodsRange, TariffRange}
use Rattle.terms.specs.RangeLaws.{factor_range, periods_ok_lem, tariff_ok_lem}
use Rattle.encoding.specs.NumberLaws.{Fit}
use Rattle.order_file.specs.Order.{order_length, order_bytes}
use Rattle.order_file.specs.OrderRules.{write_room, write_figures_lem}
use Rattle.typed_figures.specs.Figures.{tariff_figures, limit_of, figures_limit, factor_stands, tariff_of, demands_of}
use Rattle.typed_figures.specs.DecimalLaws.{push_limit}
use Rattle.typed_figures.specs.LimitLaws.{limit_demand}
use Rattle.order_text.specs.declared.faults.Reason.TheVariants.{Few}
use Rattle.order_text.specs.Text.{read, faulty, then_read, Scan, mark_length, unmarked, started, fault_at, closed, after_byte, scanned, whole_scan, enough, figures_of, write_figures}
use Rattle.order_text.specs.ScanLaws.{read-faulty, same_read, then_read_lem, Closes, idle, ended, Goes, inside, past, closes, goes}

abbrev factor_with : ℕ → ℕ → Bool
factor_with p q = factor_ok (record { p = p; q = q })

-- p and q, figures 3 and 4, make a factor.
abbrev FactorIn : List ℕ → Type 0
FactorIn ns = factor_with (get_or ns 3 0) (get_or ns 4 0) ≡ true

-- ---- What every scan keeps

record Kept (s : Scan) : Type 0 where
  each : (i : ℕ) → get_or s.figures i 0 ≤ limit_of i
  value : s.value ≤ limit_of (length s.figures)
  few : length s.figures ≤ figures_limit
  room : s.begun ≡ true → length s.figures < figures_limit
  factor : 5 ≤ length s.figures → FactorIn s.figures

kept_start : (place : ℕ) → Kept (started place)
kept_start place = record { each = λ i. omega arith; value = omega arith; few = omega arith; room = λ h. absurd (true-false h refl); factor = λ l. absurd (omega arith) }

-- One more figure.
each_append : (ns : List ℕ) (v : ℕ) (limit : ℕ → ℕ) → ((i : ℕ) → get_or ns i 0 ≤ limit i) → v ≤ limit (length ns) → (i : ℕ) → get_or (ns ++ v ∷ []) i 0 ≤ limit i
each_append [] v limit h k zero = k
each_append [] v limit h k (suc i) = omega arith
each_append (n ∷ ns) v limit h k zero = h 0
each_append (n ∷ ns) v limit h k (suc i) = each_append ns v (λ j. limit (suc j)) (λ j. h (suc j)) k i

factor-append : (ns : List ℕ) (v : ℕ) → (5 ≤ length ns → FactorIn ns) → factor_stands (length ns) (get_or ns 3 0) v ≡ true → 4 ≤ length ns → FactorIn (ns ++ v ∷ [])
factor-append ns v h k l = go (leb 5 (length ns)) refl
  where
    at_3 : get_or (ns ++ v ∷ []) 3 0 ≡ get_or ns 3 0
    at_3 = get_or-append ns (v ∷ []) 0 3 (omega arith)

    go : (t : Bool) → leb 5 (length ns) ≡ t → FactorIn (ns ++ v ∷ [])
    go true e =
        let m = leb-true 5 (length ns) e in
        ap₂ factor_with at_3 (get_or-append ns (v ∷ []) 0 4 (omega arith)) ∙ h m
    go false e =
        let m : length ns ≡ 4 = omega (arith, leb-false 5 (length ns) e) in
        let n : not (eqb (length ns) 4) || factor_with (get_or ns 3 0) v ≡ factor_with (get_or ns 3 0) v = rw (eq-eqb (length ns) 4 m) in
        ap₂ factor_with at_3 (get_or_at ns v [] 0 4 m) ∙ sym n ∙ k

kept_closes : {s t : Scan} → Closes s t → Kept s → Kept t
kept_closes idle k = k
kept_closes {s} (ended h stands) k =
    let n : length (s.figures ++ s.value ∷ []) ≡ length s.figures + 1 = length-append s.figures (s.value ∷ []) in
    record {
      each = each_append s.figures s.value limit_of k.each k.value;
      value = omega arith;
      few = omega (arith, n, k.room h);
      room = λ g. absurd (true-false g refl);
      factor = λ l. factor-append s.figures s.value k.factor stands (omega (arith, n));
    }

kept_goes : {s : Scan} {b : ℕ} {t : Scan} → Goes s b t → Kept s → Kept t
kept_goes {s} {b = b} (inside n l e) k =
    record { each = k.each; value = push_limit (limit_of (length s.figures)) s.value b n e; few = k.few; room = λ h. l; factor = k.factor }
kept_goes (past c) k =
    let m = kept_closes c k in
    record { each = m.each; value = m.value; few = m.few; room = m.room; factor = m.factor }

kept_scanned : (s t : Scan) (text : List ℕ) → scanned s text ≡ read t → Kept s → Kept t
unfolding scanned
kept_scanned s t [] e k = subst Kept (same_read e) k
kept_scanned s t (b ∷ bs) e k =
    let m = then_read_lem (after_byte s b) (λ u. scanned u bs) e in
    kept_scanned m.0 t bs m.2 (kept_goes (goes s m.0 b m.1) k)

-- ---- The figures of a text

-- Figures that an order can have.
pub record Figures (ns : List ℕ) : Type 0 where
  pub some : tariff_figures + 1 ≤ length ns
  pub few : length ns ≤ figures_limit
  pub each : (i : ℕ) → get_or ns i 0 ≤ limit_of i
  pub factor : FactorIn ns

enough-read : (s : Scan) (ns : List ℕ) → enough s ≡ read ns → (tariff_figures + 1 ≤ length s.figures) × (s.figures ≡ ns)
enough-read s ns = go (leb (tariff_figures + 1) (length s.figures)) refl
  where
    go : (t : Bool) → leb (tariff_figures + 1) (length s.figures) ≡ t → cond t (read s.figures) (faulty (fault_at Few s)) ≡ read ns
        → (tariff_figures + 1 ≤ length s.figures) × (s.figures ≡ ns)
    go true h e = (leb-true (tariff_figures + 1) (length s.figures) h, same_read e)
    go false h e = absurd (read-faulty (sym e))

pub text_figures : (text ns : List ℕ) → figures_of text ≡ read ns → Figures ns
unfolding figures_of
text_figures text ns e =
    let a = then_read_lem (then_read (whole_scan text) closed) enough e in
    let b = then_read_lem (whole_scan text) closed a.1 in
    let c = enough-read a.0 ns a.2 in
    let m = mark_length text in
    let k = kept_closes (closes b.0 a.0 b.2) (kept_scanned (started m) b.0 (unmarked text) b.1 (kept_start m)) in
    subst Figures c.1 (record { some = c.0; few = k.few; each = k.each; factor = k.factor (omega (arith, c.0)) })

-- ---- … and the order that they give

module _ (ns : List ℕ) (f : Figures ns) where
  pub tariff-fits : TariffRange (tariff_of ns)
  tariff-fits =
      record {
        rate_prices = f.each 0;
        depth_prices = f.each 1;
        fees = f.each 2;
        factor = factor_range _ f.factor;
        rate_caps = f.each 5;
        depth_caps = f.each 6;
      }

  pub periods_fit : PeriodsRange (length (demands_of ns))
  periods_fit = let n = length-drop tariff_figures ns in record { some = omega (arith, f.some); few = omega (arith, f.few) }

  pub demand_fits : (i : ℕ) → get_or (demands_of ns) i 0 ≤ demand_limit
  demand_fits i = omega (arith, get_or-drop tariff_figures ns i 0, f.each (tariff_figures + i), limit_demand (tariff_figures + i) (omega arith))

  pub demands_fit : Fit 2 (demands_of ns)
  demands_fit = record { each = λ i. omega (arith, demand_fits i) }

  -- The file is written where the bytes are as many, and else refused for that alone.
  pub figures-written : (room : ℕ) → order_length (length (demands_of ns)) ≤ room
      → write_figures room ns ≡ figures (order_bytes (length (demands_of ns)) (tariff_of ns) (demands_of ns))
  figures-written room l = write_figures_lem room _ _ (periods_ok_lem _ periods_fit) (tariff_ok_lem _ tariff-fits) (le-leb _ _ l)

  pub figures-short : (room : ℕ) → room < order_length (length (demands_of ns)) → write_figures room ns ≡ refused 6
  figures-short room l = write_room room _ _ (periods_ok_lem _ periods_fit) (tariff_ok_lem _ tariff-fits) (lt-leb _ _ l)

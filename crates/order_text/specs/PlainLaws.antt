-- The plain text of figures gives the figures back: each figure's digits come to it, and the newline behind them ends
-- it; also behind a mark.
-- Assumes nothing.
use Rattle.std.specs.Prelude.{ℕ, zero, suc, ◌+◌, ◌-◌, ◌*◌, ◌^◌, ◌≤◌, ◌<◌, ◌≡◌, Bool, true, false, eqb, length, drop, get_or, Some}
use Rattle.std.proofs.Common.{arith, sym, ap₂, subst, ◌∙◌, eqb-true, ne_eqb, length-append}
use Rattle.std.proofs.Math.Path.{refl, ap}
use mathlib.Core.List.{List, [], ◌∷◌, ◌++◌, append-nil}
use Rattle.std.proofs.Math.ListN.{get_or-append}
use Rattle.std.proofs.Math.Seq.{append_snoc, get_or-append_seam}
use Rattle.std.proofs.lemmas.List.{get_or_at}
use Rattle.terms.specs.Limits.{demand_limit, fee_limit}
use Rattle.terms.specs.Ranges.{factor_ok}
use Rattle.terms.specs.Records.{Each}
use Rattle.encoding.specs.Number.{bytes_of_all}
use Rattle.text.specs.Numeral.{numeral, ended}
use Rattle.typed_figures.specs.Decimal.{is_digit}
use Rattle.typed_figures.specs.Figures.{tariff_limits, limit_of, figures_limit, factor_stands}
use Rattle.typed_figures.specs.DecimalLaws.{digit_range, push_within, value_from, Digits, value_grows, value-digits, digits_are, digits-some}
use Rattle.text.specs.Lines.{newline}
use Rattle.order_text.specs.Text.{Reading, read, on_read, then_read, mark_length, unmarked, Scan, started, passed, with_value, after_byte, scanned, figures_of, plain_text}
use Rattle.order_text.specs.ScanLaws.{digit_value, closed_figure, after-digit, after_end, text_closed, enough_all}
use Rattle.order_text.specs.FigureLaws.{Figures}

-- ---- The digits of one figure

-- A digit that keeps the figure within its limit.
after_one : (s : Scan) (b n : ℕ) → s.comment ≡ false → length s.figures < figures_limit → is_digit b ≡ true
    → s.value * 10 + (b - 48) ≡ n → n ≤ limit_of (length s.figures) → after_byte s b ≡ read (with_value s n)
after_one s b n plain room h e l =
    after-digit s b plain h
    ∙ digit_value s b (Some n) room (push_within (limit_of (length s.figures)) s.value b (omega (arith, e)) ∙ ap Some e)

-- Digits that do so, from a figure that is begun; others follow. They go on by some bytes.
module _ (s : Scan) (plain : s.comment ≡ false) (room : length s.figures < figures_limit) (rest : List ℕ) where
  -- In a figure that has come to v.
  abbrev within : ℕ → ℕ → Scan
  within place v = record { line = s.line; place = place; returned = false; comment = s.comment; begun = true; value = v; figures = s.figures }

  after_more : (place v : ℕ) (bs : List ℕ) → Digits bs → value_from v bs ≤ limit_of (length s.figures)
      → (p : ℕ) × (scanned (within place v) (bs ++ rest) ≡ scanned (within p (value_from v bs)) rest)
  unfolding scanned value_from
  after_more place v [] ds l = (place, refl)
  after_more place v (b ∷ bs) ds l =
      let n = v * 10 + (b - 48) in
      let k = after_more (place + 1) n bs ds.1 l in (
        k.0,
        ap (λ (a : Reading Scan). then_read a (λ t. scanned t (bs ++ rest))) (after_one (within place v) b n plain room ds.0 refl (omega (arith, value_grows n bs))) ∙ k.1,
      )

  -- … and from none.
  after_word : (bs : List ℕ) → s.value ≡ 0 → 0 < length bs → Digits bs → value_from 0 bs ≤ limit_of (length s.figures)
      → (p : ℕ) × (scanned s (bs ++ rest) ≡ scanned (within p (value_from 0 bs)) rest)
  unfolding scanned value_from
  after_word [] z h ds l = absurd (omega arith)
  after_word (b ∷ bs) z h ds l =
      let n = 0 * 10 + (b - 48) in
      let k = after_more (s.place + 1) n bs ds.1 l in (
        k.0,
        ap (λ (a : Reading Scan). then_read a (λ t. scanned t (bs ++ rest)))
            (after_one s b n plain room ds.0 (ap (λ (v : ℕ). v * 10 + (b - 48)) z) (omega (arith, value_grows n bs)))
            ∙ k.1,
      )

-- ---- Figure after figure

-- Between two figures.
abbrev between : ℕ → ℕ → List ℕ → Scan
between line place ns = record { line = line; place = place; returned = false; comment = false; begun = false; value = 0; figures = ns }

-- In the last of them, which has come to n.
abbrev inside : ℕ → ℕ → List ℕ → ℕ → Scan
inside line place ns n = record { line = line; place = place; returned = false; comment = false; begun = true; value = n; figures = ns }

-- The newline ends the figure.
after-newline : (line place n : ℕ) (ns : List ℕ) → factor_stands (length ns) (get_or ns 3 0) n ≡ true
    → after_byte (inside line place ns n) newline ≡ read (between (line + 1) (place + 1) (ns ++ n ∷ []))
after-newline line place n ns h =
    after_end (inside line place ns n) newline refl refl refl
    ∙ ap (on_read (λ t. passed t newline)) (closed_figure (inside line place ns n) refl h)

after_figure : (line place n : ℕ) (ns rest : List ℕ) → length ns < figures_limit → n ≤ limit_of (length ns) → n < 10 ^ 20 → factor_stands (length ns) (get_or ns 3 0) n ≡ true
    → (p : ℕ) × (scanned (between line place ns) (ended (numeral n) newline ++ rest) ≡ scanned (between (line + 1) p (ns ++ n ∷ [])) rest)
unfolding scanned
after_figure line place n ns rest room l few h =
    let e = value-digits n few in
    let k = after_word (between line place ns) refl room (newline ∷ rest) (numeral n) refl (digits-some n few) (digits_are n few) (omega (arith, e)) in (
      k.0 + 1,
      ap (scanned (between line place ns)) (append_snoc (numeral n) newline rest)
          ∙ k.1
          ∙ ap (λ (v : ℕ). scanned (inside line k.0 ns v) (newline ∷ rest)) e
          ∙ ap (λ (a : Reading Scan). then_read a (λ t. scanned t rest)) (after-newline line k.0 n ns h),
    )

-- Every limit is a number of as many digits as are printed.
limit_most : (i : ℕ) → limit_of i ≤ fee_limit
limit_most = most tariff_limits (omega arith, (omega arith, (omega arith, (omega arith, (omega arith, (omega arith, (omega arith, tt)))))))
  where
    most : (ns : List ℕ) → Each (λ n. n ≤ fee_limit) ns → (i : ℕ) → get_or ns i demand_limit ≤ fee_limit
    most [] e i = omega arith
    most (n ∷ ns) e zero = e.0
    most (n ∷ ns) e (suc i) = most ns e.1 i

-- What is asked of a figure that others follow.
module _ (ns : List ℕ) (n : ℕ) (rest : List ℕ) (f : Figures (ns ++ n ∷ rest)) where
  figure_room : length ns < figures_limit
  figure_room = omega (arith, f.few, length-append ns (n ∷ rest))

  figure_within : n ≤ limit_of (length ns)
  figure_within = omega (arith, f.each (length ns), get_or-append_seam ns n rest 0)

  figure_stands : factor_stands (length ns) (get_or ns 3 0) n ≡ true
  figure_stands = go (eqb (length ns) 4) refl
    where
      go : (t : Bool) → eqb (length ns) 4 ≡ t → factor_stands (length ns) (get_or ns 3 0) n ≡ true
      go false e = rw e
      go true e =
          let m = eqb-true (length ns) 4 e in
          let p = get_or-append ns (n ∷ rest) 0 3 (omega (arith, m)) in
          let q = get_or_at ns n rest 0 4 m in
          rw e (ap₂ (λ (x y : ℕ). factor_ok (record { p = x; q = y })) (sym p) (sym q) ∙ f.factor)

after-figures : (line place : ℕ) (ns rest : List ℕ) → Figures (ns ++ rest)
    → (l : ℕ) × (p : ℕ) × (scanned (between line place ns) (plain_text rest) ≡ read (between l p (ns ++ rest)))
unfolding scanned bytes_of_all
after-figures line place ns [] f = (line, place, ap (λ (ms : List ℕ). read (between line place ms)) (sym (append-nil ns)))
after-figures line place ns (n ∷ rest) f =
    let l = figure_within ns n rest f in
    let e = append_snoc ns n rest in
    let a = after_figure line place n ns (plain_text rest) (figure_room ns n rest f) l (omega (arith, limit_most (length ns))) (figure_stands ns n rest f) in
    let k = after-figures (line + 1) a.0 (ns ++ n ∷ []) rest (subst Figures (sym e) f) in
    (k.0, k.1, a.1 ∙ k.2 ∙ ap (λ (ms : List ℕ). read (between k.0 k.1 ms)) e)

-- ---- The whole text

-- Digits are no mark.
digits-unmarked : (bs rest : List ℕ) → 0 < length bs → Digits bs → mark_length (bs ++ rest) ≡ 0
digits-unmarked [] rest l ds = absurd (omega arith)
digits-unmarked (b ∷ bs) rest l ds = let d = digit_range b ds.0 in rw (ne_eqb b 239 (λ e. omega (arith, e, d.to)))

plain_unmarked : (ns : List ℕ) → Figures ns → mark_length (plain_text ns) ≡ 0
unfolding bytes_of_all
plain_unmarked [] f = refl
plain_unmarked (n ∷ ns) f =
    let few : n < 10 ^ 20 = omega (arith, f.each 0, limit_most 0) in
    ap mark_length (append_snoc (numeral n) newline (plain_text ns)) ∙ digits-unmarked (numeral n) (newline ∷ plain_text ns) (digits-some n few) (digits_are n few)

-- A text whose figures are printed behind so many bytes that are passed over.
print_behind : (ns text : List ℕ) → Figures ns → unmarked text ≡ plain_text ns → figures_of text ≡ read ns
print_behind ns text f e =
    let a = after-figures 1 (mark_length text) [] ns f in
    text_closed text _ _ (ap (scanned (started (mark_length text))) e ∙ a.2) refl ∙ enough_all (between a.0 a.1 ns) (omega (arith, f.some))

-- Printing figures and reading them gives them back, …
pub print_read : (ns : List ℕ) → Figures ns → figures_of (plain_text ns) ≡ read ns
print_read ns f = print_behind ns (plain_text ns) f (ap (λ (n : ℕ). drop n (plain_text ns)) (plain_unmarked ns f))

-- … also behind a byte order mark.
pub mark_read : (ns : List ℕ) → Figures ns → figures_of (239 ∷ 187 ∷ 191 ∷ plain_text ns) ≡ read ns
mark_read ns f = print_behind ns (239 ∷ 187 ∷ 191 ∷ plain_text ns) f refl

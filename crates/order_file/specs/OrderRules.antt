-- The order file rule by rule: which refusal each broken rule gives, and that an order that breaks none is read.
-- Assumes nothing.
use Rattle.std.specs.Prelude.{ℕ, ◌+◌, ◌/◌, ◌≤◌, ◌≡◌, Bool, true, false, List, [], leb, eqb, length, drop}
use Rattle.std.proofs.Common.{arith, sym, ap, ap₂, ◌∙◌, leb-true, le-leb, eqb-true, eq-eqb, length-append}
use Rattle.std.proofs.Math.Path.{refl}
use Rattle.terms.specs.declared.Tariff.{Tariff}
use Rattle.terms.specs.Answer.{Answer, figures, refused}
use Rattle.terms.specs.AnswerLaws.{same-figures, weigh-figures}
use Rattle.terms.specs.Ranges.{periods_ok, tariff_ok}
use Rattle.terms.specs.RangeLaws.{periods_range, periods_ok_lem, tariff_range, tariff_ok_lem}
use Rattle.order_file.specs.declared.orders.Order.{Order}
use Rattle.encoding.specs.Number.{bytes_of, number_at, bytes_of_all}
use Rattle.encoding.specs.Header.{placed_as}
use Rattle.encoding.specs.HeaderLaws.{placed_range, placed_ok}
use Rattle.encoding.specs.NumberLaws.{length_items, length-bytes, length_all}
use Rattle.order_file.specs.Order.{order_kind, tariff_offset, trace_offset, order_length, tariff_in, order_in, read_order, OrderRules, part_of, trace_part, part_ok, demands_in, spread_of, order_words, order_bytes, write_order}

-- ---- Reading, rule by rule

-- An order's parts in their places.
abbrev pub order_placed : List ℕ → Bool
order_placed bs = placed_as 8 tariff_offset trace_offset (order_length (number_at 4 bs 4)) bs

module _ (bs : List ℕ) where
  pub order-short : leb tariff_offset (length bs) ≡ false → read_order bs ≡ refused 1
  unfolding read_order
  order-short h = rw h

  module _ (long : leb tariff_offset (length bs) ≡ true) where
    pub order_foreign : eqb (number_at 4 bs 0) order_kind ≡ false → read_order bs ≡ refused 2
    unfolding read_order
    order_foreign h = rw (long, h)

    module _ (kind : eqb (number_at 4 bs 0) order_kind ≡ true) where
      pub order-periods : periods_ok (number_at 4 bs 4) ≡ false → read_order bs ≡ refused 3
      unfolding read_order
      order-periods h = rw (long, kind, h)

      module _ (counts : periods_ok (number_at 4 bs 4) ≡ true) where
        pub order_misplaced : order_placed bs ≡ false → read_order bs ≡ refused 4
        unfolding read_order
        order_misplaced h = rw (long, kind, counts, h)

        module _ (places : order_placed bs ≡ true) where
          pub order_figure : tariff_ok (tariff_in bs) ≡ false → read_order bs ≡ refused 5
          unfolding read_order
          order_figure h = rw (long, kind, counts, places, h)

          pub order-figures : tariff_ok (tariff_in bs) ≡ true → read_order bs ≡ figures (order_in bs)
          unfolding read_order
          order-figures h = rw (long, kind, counts, places, h) refl

-- Every order that breaks no rule of its format is read.
pub rules_read : (bs : List ℕ) → OrderRules bs → read_order bs ≡ figures (order_in bs)
rules_read bs r =
    order-figures bs (le-leb _ _ r.header) (eq-eqb _ _ r.kind) (periods_ok_lem _ r.periods) (placed_ok 8 tariff_offset trace_offset _ bs r.placed) (tariff_ok_lem _ r.tariff)

-- And no other.
pub read_rules : (bs : List ℕ) (o : Order) → read_order bs ≡ figures o → OrderRules bs × (o ≡ order_in bs)
unfolding read_order
read_rules bs o e =
    let T = number_at 4 bs 4 in
    let a = weigh-figures (leb tariff_offset (length bs)) 1 _ e in
    let b = weigh-figures (eqb (number_at 4 bs 0) order_kind) 2 _ a.1 in
    let c = weigh-figures (periods_ok T) 3 _ b.1 in
    let d = weigh-figures (order_placed bs) 4 _ c.1 in
    let f = weigh-figures (tariff_ok (tariff_in bs)) 5 _ d.1 in (
      record {
        header = leb-true _ _ a.0;
        kind = eqb-true _ _ b.0;
        periods = periods_range T c.0;
        placed = placed_range 8 tariff_offset trace_offset (order_length T) bs d.0;
        tariff = tariff_range (tariff_in bs) f.0;
      },
      sym (same-figures f.1),
    )

-- The part that holds the trace: what follows the tariff where the order is read.
pub part-read : (bs : List ℕ) (o : Order) → read_order bs ≡ figures o → trace_part bs ≡ drop trace_offset bs
part-read bs o e = ap (λ (a : Answer Order). part_of a (drop trace_offset bs)) e

pub part-refused : (bs : List ℕ) (n : ℕ) → read_order bs ≡ refused n → trace_part bs ≡ []
part-refused bs n e = ap (λ (a : Answer Order). part_of a (drop trace_offset bs)) e

-- ---- Spreading, rule by rule

module _ (room : ℕ) (part : List ℕ) where
  pub spread_odd : part_ok (length part) ≡ false → spread_of room part ≡ refused 3
  unfolding spread_of
  spread_odd h = rw h

  module _ (ok : part_ok (length part) ≡ true) where
    pub spread_full : leb (length part / 2) room ≡ false → spread_of room part ≡ refused 6
    unfolding spread_of
    spread_full h = rw (ok, h)

    pub spread-figures : leb (length part / 2) room ≡ true → spread_of room part ≡ figures (demands_in part)
    unfolding spread_of
    spread-figures h = rw (ok, h) refl

pub length-demands : (part : List ℕ) → length (demands_in part) ≡ length part / 2
length-demands part = length_items (number_at 2 part) 2 (length part / 2) 0

-- What is known of a part that is spread.
pub spread_rules : (room : ℕ) (part ds : List ℕ) → spread_of room part ≡ figures ds → (demands_in part ≡ ds) × (length ds ≤ room)
unfolding spread_of
spread_rules room part ds e =
    let a = weigh-figures (part_ok (length part)) 3 _ e in
    let b = weigh-figures (leb (length part / 2) room) 6 _ a.1 in
    let n : length ds ≡ length part / 2 = ap length (sym (same-figures b.1)) ∙ length-demands part in
    (same-figures b.1, omega (arith, n, leb-true (length part / 2) room b.0))

-- ---- Writing, rule by rule

module _ (room : ℕ) (t : Tariff) (ds : List ℕ) where
  pub write_periods : periods_ok (length ds) ≡ false → write_order room t ds ≡ refused 3
  unfolding write_order
  write_periods h = rw h

  module _ (counts : periods_ok (length ds) ≡ true) where
    pub write_figure : tariff_ok t ≡ false → write_order room t ds ≡ refused 5
    unfolding write_order
    write_figure h = rw (counts, h)

    module _ (tariff : tariff_ok t ≡ true) where
      pub write_room : leb (order_length (length ds)) room ≡ false → write_order room t ds ≡ refused 6
      unfolding write_order
      write_room h = rw (counts, tariff, h)

      pub write_figures_lem : leb (order_length (length ds)) room ≡ true → write_order room t ds ≡ figures (order_bytes (length ds) t ds)
      unfolding write_order
      write_figures_lem h = rw (counts, tariff, h) refl

-- ---- The bytes of an order

pub length-header : (T : ℕ) (t : Tariff) → length (bytes_of_all (bytes_of 4) (order_words T t)) ≡ trace_offset
length-header T t = length_all (bytes_of 4) 4 (length-bytes 4) (order_words T t)

pub length-order : (T : ℕ) (t : Tariff) (ds : List ℕ) → length (order_bytes T t ds) ≡ order_length (length ds)
length-order T t ds =
    length-append (bytes_of_all (bytes_of 4) (order_words T t)) (bytes_of_all (bytes_of 2) ds)
    ∙ ap₂ (λ (m n : ℕ). m + n) (length-header T t) (length_all (bytes_of 2) 2 (length-bytes 2) ds)

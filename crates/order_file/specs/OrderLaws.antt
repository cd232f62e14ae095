-- The order file there and back: a written order reads back as the same figures and spreads to the same demands, and
-- any bytes that are read are what writing those figures gives.
-- Assumes nothing.
use Rattle.std.specs.Prelude.{ℕ, ◌+◌, ◌*◌, ◌/◌, ◌%◌, ◌≤◌, ◌<◌, ◌≡◌, refl, true, false, List, [], ◌∷◌, ◌++◌, leb, eqb, take, drop, get_or}
use Rattle.std.proofs.Common.{arith, le_refl, zero-lt-suc, sym, ap₂, ◌∙◌, append-nil, le-leb, eq-eqb, length-append, length-drop, take-append-drop, drop_at, take_all}
use Rattle.std.proofs.Math.Nat.{mul-div_right, mul-mod_right}
use Rattle.std.proofs.Math.Path.{ap, subst}
use Rattle.std.proofs.Math.ListN.{length}
use Rattle.std.proofs.Math.Seq.{drop-append_seam, take-append_seam}
use Rattle.terms.specs.declared.Tariff.{Tariff}
use Rattle.terms.specs.Answer.{Answer, figures, refused}
use Rattle.terms.specs.AnswerLaws.{same-figures, weigh-figures}
use Rattle.terms.specs.Bools.{both_and, not_true-false}
use Rattle.terms.specs.Limits.{trace_limit}
use Rattle.terms.specs.Ranges.{periods_ok, tariff_ok}
use Rattle.terms.specs.Records.{Each}
use Rattle.terms.specs.RangeRules.{PeriodsRange, TariffRange}
use Rattle.terms.specs.RangeLaws.{periods_range, periods_ok_lem, tariff_range, tariff_ok_lem}
use Rattle.order_file.specs.declared.orders.Order.{Order}
use Rattle.encoding.specs.Number.{bytes_of, number_at, bytes_of_all, items_at}
use Rattle.encoding.specs.NumberLaws.{Within, Fit, Bytes, fit_drop, fit_each, length-bytes, length_all, number_front, numbers_written, numbers_read}
use Rattle.encoding.specs.Header.{Placed}
use Rattle.encoding.specs.HeaderLaws.{headed, header_decides, header_number, placed_range}
use Rattle.order_file.specs.Order.{order_kind, order_length, order_words, order_bytes, tariff_offset, trace_offset, tariff_in, read_order, OrderRules, trace_part, part_ok, demands_in, spread_of, order_end, write_order, VeryOrder}
use Rattle.order_file.specs.OrderRules.{order_placed, rules_read, read_rules, part-read, spread-figures, length-header, length-order, length-demands, write_figures_lem}

-- ---- The words of an order

-- The twelve numbers of 4 bytes, as they are read.
abbrev words_in : List ℕ → List ℕ
words_in bs = items_at (number_at 4 bs) 4 12 0

-- The tariff of such numbers.
abbrev tariff_of : List ℕ → Tariff
tariff_of ns =
    record {
      rate_price = record { 0 = get_or ns 5 0 };
      depth_price = record { 0 = get_or ns 6 0 };
      fee = get_or ns 7 0;
      factor = record { p = get_or ns 8 0; q = get_or ns 9 0 };
      rate_cap = record { 0 = get_or ns 10 0 };
      depth_cap = record { 0 = get_or ns 11 0 };
    }

-- What the words of an order are, before the trace whatever it is.
module _ (T : ℕ) (t : Tariff) (ds : List ℕ) (p : PeriodsRange T) (r : TariffRange t) where
  abbrev bs : List ℕ
  bs = order_bytes T t ds

  words_fit : Each (Within 4) (order_words T t)
  words_fit =
      let a : Within 4 T = omega (arith, p.few) in
      let b : Within 4 (order_length T) = omega (arith, p.few) in
      let c : Within 4 t.rate_price.0 = omega (arith, r.rate_prices) in
      let d : Within 4 t.depth_price.0 = omega (arith, r.depth_prices) in
      let e : Within 4 t.fee = omega (arith, r.fees) in
      let g : Within 4 t.factor.q = omega (arith, r.factor.few) in
      let f : Within 4 t.factor.p = omega (arith, r.factor.part, r.factor.few) in
      let h : Within 4 t.rate_cap.0 = omega (arith, r.rate_caps) in
      let i : Within 4 t.depth_cap.0 = omega (arith, r.depth_caps) in
      (omega arith, (a, (omega arith, (omega arith, (b, (c, (d, (e, (f, (g, (h, (i, tt))))))))))))

  words_are : words_in bs ≡ order_words T t
  words_are = numbers_written 4 (order_words T t) words_fit [] (bytes_of_all (bytes_of 2) ds)

  word_is : (i : ℕ) → get_or (words_in bs) i 0 ≡ get_or (order_words T t) i 0
  word_is i = ap (λ (ns : List ℕ). get_or ns i 0) words_are

  tariff-is : tariff_in bs ≡ t
  unfolding items_at
  tariff-is = ap tariff_of words_are

  periods-is : number_at 4 bs 4 ≡ T
  unfolding items_at
  periods-is = word_is 1

  keeps_rules : length ds ≡ T → OrderRules bs
  unfolding items_at
  keeps_rules e =
      let l : length bs ≡ order_length T = length-order T t ds ∙ ap order_length e in
      record {
        header = omega (arith, l);
        kind = word_is 0;
        periods = subst PeriodsRange (sym periods-is) p;
        placed =
            subst (λ (n : ℕ). Placed 8 tariff_offset trace_offset (order_length n) bs) (sym periods-is)
            (record { first_offset = word_is 2; second_offset = word_is 3; file_length = word_is 4; bytes = l });
        tariff = subst TariffRange (sym tariff-is) r;
      }

  order-read : length ds ≡ T → read_order bs ≡ figures (record { periods = T; tariff = t })
  order-read e = rules_read bs (keeps_rules e) ∙ ap₂ (λ (n : ℕ) (u : Tariff). figures (record { periods = n; tariff = u })) periods-is tariff-is

-- ---- The demands of a part

-- Twice as many bytes as numbers.
half : (n : ℕ) → 2 * n / 2 ≡ n
half n = mul-div_right n (zero-lt-suc 1)

part_range : (part : List ℕ) (n : ℕ) → length part ≡ 2 * n → PeriodsRange n → part_ok (length part) ≡ true
part_range part n e p =
    let even = eq-eqb (length part % 2) 0 (ap (λ (m : ℕ). m % 2) e ∙ mul-mod_right 2 n) in
    both_and (both_and even (le-leb 2 (length part) (omega (arith, p.some)))) (le-leb (length part) (2 * trace_limit) (omega (arith, p.few)))

-- A part of n demands spreads to them.
part-spread : (room : ℕ) (part : List ℕ) (n : ℕ) → length part ≡ 2 * n → PeriodsRange n → n ≤ room → spread_of room part ≡ figures (demands_in part)
part-spread room part n e p l =
    let m : length part / 2 ≡ n = ap (λ (k : ℕ). k / 2) e ∙ half n in
    spread-figures room part (part_range part n e p) (le-leb (length part / 2) room (omega (arith, m)))

demands-written : (ds : List ℕ) → Fit 2 ds → demands_in (bytes_of_all (bytes_of 2) ds) ≡ ds
demands-written ds fit =
    let part = bytes_of_all (bytes_of 2) ds in
    let n : length part / 2 ≡ length ds = ap (λ (m : ℕ). m / 2) (length_all (bytes_of 2) 2 (length-bytes 2) ds) ∙ half (length ds) in
    ap (λ (m : ℕ). items_at (number_at 2 part) 2 m 0) n
    ∙ ap (λ (bs : List ℕ). items_at (number_at 2 bs) 2 (length ds) 0) (sym (append-nil part))
    ∙ numbers_written 2 ds (fit_each ds fit) [] []

demands-read : (part : List ℕ) (n : ℕ) → Bytes part → length part ≡ 2 * n → bytes_of_all (bytes_of 2) (demands_in part) ≡ part
demands-read part n h e =
    let m : length part / 2 ≡ n = ap (λ (k : ℕ). k / 2) e ∙ half n in
    numbers_read 2 part h (length part / 2) 0 (omega (arith, m))
    ∙ take_all (2 * (length part / 2)) part (omega (arith, m))

-- ---- There and back

-- A written order reads back as the same figures, and spreads to the same demands.
pub record ReadsBack (t : Tariff) (ds bs : List ℕ) : Type 0 where
  pub figures_back : read_order bs ≡ figures (record { periods = length ds; tariff = t })
  pub demands_back : (room : ℕ) → length ds ≤ room → spread_of room (trace_part bs) ≡ figures ds

module _ (t : Tariff) (ds : List ℕ) (fit : Fit 2 ds) (p : PeriodsRange (length ds)) (r : TariffRange t) where
  reads-back : ReadsBack t ds (order_bytes (length ds) t ds)
  reads-back =
      let bs = order_bytes (length ds) t ds in
      let part = bytes_of_all (bytes_of 2) ds in
      let e = order-read (length ds) t ds p r refl in
      let f : trace_part bs ≡ part = part-read bs _ e ∙ drop_at (bytes_of_all (bytes_of 4) (order_words (length ds) t)) part trace_offset (length-header (length ds) t) in
      record {
        figures_back = e;
        demands_back = λ room l.
            ap (spread_of room) f ∙ part-spread room part (length ds) (length_all (bytes_of 2) 2 (length-bytes 2) ds) p l ∙ ap figures (demands-written ds fit);
      }

pub write_read : (room : ℕ) (t : Tariff) (ds bs : List ℕ) → Fit 2 ds → write_order room t ds ≡ figures bs → ReadsBack t ds bs
unfolding write_order
write_read room t ds bs fit e =
    let a = weigh-figures (periods_ok (length ds)) 3 _ e in
    let b = weigh-figures (tariff_ok t) 5 _ a.1 in
    let c = weigh-figures (leb (order_length (length ds)) room) 6 _ b.1 in
    subst (ReadsBack t ds) (same-figures c.1) (reads-back t ds fit (periods_range _ a.0) (tariff_range t b.0))

-- The words of an order that keeps the rules are those that its figures give.
header_read : (bs : List ℕ) → OrderRules bs → order_words (number_at 4 bs 4) (tariff_in bs) ≡ words_in bs
unfolding items_at
header_read bs r =
    let with : ℕ → ℕ → ℕ → ℕ → List ℕ = λ kind first second size.
    kind ∷ number_at 4 bs 4 ∷ first ∷ second ∷ size
    ∷ number_at 4 bs 20 ∷ number_at 4 bs 24 ∷ number_at 4 bs 28 ∷ number_at 4 bs 32 ∷ number_at 4 bs 36 ∷ number_at 4 bs 40 ∷ number_at 4 bs 44 ∷ [] in
    ap₂ (λ (kind first : ℕ). with kind first trace_offset (order_length (number_at 4 bs 4))) (sym r.kind) (sym r.placed.first_offset)
    ∙ ap₂ (λ (second size : ℕ). with (number_at 4 bs 0) (number_at 4 bs 8) second size) (sym r.placed.second_offset) (sym r.placed.file_length)

-- What is known of an order that is read: its part spreads to T demands.
module _ (bs : List ℕ) (o : Order) (e : read_order bs ≡ figures o) where
  abbrev pub demands_of : List ℕ
  demands_of = demands_in (trace_part bs)

  rules : OrderRules bs
  rules = (read_rules bs o e).0

  T_is : number_at 4 bs 4 ≡ o.periods
  T_is = ap (λ (x : Order). x.periods) (sym (read_rules bs o e).1)

  range : PeriodsRange o.periods
  range = subst PeriodsRange T_is rules.periods

  part_length : length (trace_part bs) ≡ 2 * o.periods
  part_length =
      let m : length bs ≡ order_length o.periods = rules.placed.bytes ∙ ap order_length T_is in
      ap length (part-read bs o e) ∙ length-drop trace_offset bs ∙ omega (arith, m)

  pub demands-count : length demands_of ≡ o.periods
  demands-count = length-demands (trace_part bs) ∙ ap (λ (n : ℕ). n / 2) part_length ∙ half o.periods

  -- Spreading an order that is read refuses only for want of room.
  pub read-spread : (room : ℕ) → o.periods ≤ room → spread_of room (trace_part bs) ≡ figures demands_of
  read-spread room l = part-spread room (trace_part bs) o.periods part_length range l

  -- Any bytes that are read are what writing their figures and demands gives.
  module _ (bytes : Bytes bs) where
    words_read : bytes_of_all (bytes_of 4) (order_words o.periods o.tariff) ≡ take trace_offset bs
    words_read =
        ap (λ (x : Order). bytes_of_all (bytes_of 4) (order_words x.periods x.tariff)) (read_rules bs o e).1
        ∙ ap (bytes_of_all (bytes_of 4)) (header_read bs rules)
        ∙ numbers_read 4 bs bytes 12 0 (omega (arith, rules.placed.bytes))

    bytes_read : order_bytes (length demands_of) o.tariff demands_of ≡ bs
    bytes_read =
        let part : Bytes (trace_part bs) = subst Bytes (sym (part-read bs o e)) (fit_drop bs trace_offset bytes) in
        ap (λ (n : ℕ). order_bytes n o.tariff demands_of) demands-count
        ∙ ap₂ (λ (xs ys : List ℕ). xs ++ ys) words_read (demands-read (trace_part bs) o.periods part part_length ∙ part-read bs o e)
        ∙ take-append-drop trace_offset bs

    pub read_write : (room : ℕ) → length bs ≤ room → write_order room o.tariff demands_of ≡ figures bs
    read_write room l =
        let p = subst PeriodsRange (sym demands-count) range in
        let t = subst TariffRange (ap (λ (x : Order). x.tariff) (sym (read_rules bs o e).1)) rules.tariff in
        let n = length-order (length demands_of) o.tariff demands_of in
        let m = le-leb (order_length (length demands_of)) room (omega (arith, ap length bytes_read, n)) in
        write_figures_lem room o.tariff demands_of (periods_ok_lem _ p) (tariff_ok_lem _ t) m ∙ ap figures bytes_read

-- So whatever reading answers, the bytes are the very file of what was read.
pub very_order : (bs : List ℕ) → Bytes bs → (a : Answer Order) → a ≡ read_order bs → VeryOrder bs a
very_order bs h (figures o) e = read_write bs o (sym e) h (length bs) (le_refl (length bs))
very_order bs h (refused n) e = tt

-- ---- Other bytes behind an order

-- An order that is read ends where its bytes end, whatever follows.
module _ (bs more : List ℕ) (o : Order) (e : read_order bs ≡ figures o) where
  pub end_is : order_end (bs ++ more) ≡ length bs
  end_is =
      let r = (read_rules bs o e).0 in
      let n : number_at 4 (bs ++ more) 16 ≡ length bs = number_front 4 bs more 16 (omega (arith, r.header)) ∙ r.placed.file_length ∙ sym r.placed.bytes in
      omega (arith, n, r.header, length-append bs more)

  -- So it is parted from what follows.
  pub first_file : take (order_end (bs ++ more)) (bs ++ more) ≡ bs
  first_file = ap (λ (n : ℕ). take n (bs ++ more)) end_is ∙ take-append_seam bs more

  pub second-file : drop (order_end (bs ++ more)) (bs ++ more) ≡ more
  second-file = ap (λ (n : ℕ). drop n (bs ++ more)) end_is ∙ drop-append_seam bs more

-- An order that states more bytes than the longest has is refused by its header alone, so bytes that follow change
-- nothing.
abbrev by_header : ℕ → ℕ → Answer Order
by_header kind T = headed (eqb kind order_kind) (periods_ok T)

long_order : (bs : List ℕ) → tariff_offset ≤ length bs → order_length trace_limit < number_at 4 bs 16 → read_order bs ≡ by_header (number_at 4 bs 0) (number_at 4 bs 4)
unfolding read_order
long_order bs l s = header_decides (leb tariff_offset (length bs)) (eqb (number_at 4 bs 0) order_kind) (periods_ok (number_at 4 bs 4)) (order_placed bs) _ (le-leb tariff_offset (length bs) l) misplaced
  where
    misplaced : periods_ok (number_at 4 bs 4) ≡ true → order_placed bs ≡ false
    misplaced f =
        let T = periods_range (number_at 4 bs 4) f in
        not_true-false (order_placed bs) (λ h. omega (arith, s, (placed_range 8 tariff_offset trace_offset (order_length (number_at 4 bs 4)) bs h).file_length, T.few))

pub long_more : (bs more : List ℕ) → tariff_offset ≤ length bs → order_length trace_limit < number_at 4 bs 16
    → (n : ℕ) × (read_order bs ≡ refused n) × (read_order (bs ++ more) ≡ refused n)
long_more bs more l s =
    let same : (at : ℕ) → at + 4 ≤ tariff_offset → number_at 4 (bs ++ more) at ≡ number_at 4 bs at = λ at h. number_front 4 bs more at (omega (arith, l, h)) in
    let stated : order_length trace_limit < number_at 4 (bs ++ more) 16 = omega (arith, s, same 16 (omega arith)) in
    let r = header_number {A = Order} (eqb (number_at 4 bs 0) order_kind) (periods_ok (number_at 4 bs 4)) in (
      r.0,
      long_order bs l s ∙ r.1,
      long_order (bs ++ more) (omega (arith, l, length-append bs more)) stated ∙ ap₂ by_header (same 0 (omega arith)) (same 4 (omega arith)) ∙ r.1,
    )

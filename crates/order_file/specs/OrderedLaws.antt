-- What reading an order and spreading its trace gives and leaves: the order's own figures,
-- and as many demands as its T.
-- Assumes nothing.
use Rattle.std.specs.Prelude.{ℕ, ◌/◌, ◌≤◌, ◌≡◌, refl, false, List, take, drop}
use Rattle.std.proofs.Common.{arith, ap₂, subst, ◌∙◌, length-take}
use Rattle.std.proofs.Math.Path.{sym, ap}
use Rattle.std.proofs.Math.Seq.{drop-append_seam}
use Rattle.std.proofs.Math.Dec.{leb}
use Rattle.std.proofs.Math.ListN.{length}
use Rattle.terms.specs.Answer.{Answer, figures, refused, on_figures}
use Rattle.terms.specs.AnswerLaws.{figures-refused, weigh-figures, on_figures_lem, on_refused, then_figures, then_refused, then_found}
use Rattle.terms.specs.Lent.{filled}
use Rattle.terms.specs.Limits.{trace_limit}
use Rattle.terms.specs.LentLaws.{filled-front}
use Rattle.terms.specs.RangeRules.{TariffRange, PeriodsRange}
use Rattle.order_file.specs.declared.orders.Order.{Order}
use Rattle.order_file.specs.Order.{order_in, read_order, trace_part, part_ok, demands_in, spread_of}
use Rattle.order_file.specs.OrderLaws as orders
use Rattle.order_file.specs.OrderRules.{read_rules, length-demands, spread_full, spread_rules}
use Rattle.order_file.specs.Ordered.{Ordered, ordered, spread_from, SpreadsOrder}

-- Reading and spreading gave x.
pub record IsOrdered (space : ℕ) (bs : List ℕ) (x : Ordered) : Type 0 where
  pub read : read_order bs ≡ figures x.order
  pub spread : spread_of space (trace_part bs) ≡ figures x.demands

pub is-ordered : (space : ℕ) (bs : List ℕ) (x : Ordered) → ordered space bs ≡ figures x → IsOrdered space bs x
is-ordered space bs x e =
    let a = then_found (read_order bs) _ e in
    let b = on_figures_lem _ (spread_of space (trace_part bs)) a.2 in
    subst (IsOrdered space bs) b.2 (record { read = a.1; spread = b.1 })

pub found-ordered : (space : ℕ) (bs : List ℕ) (x : Ordered) → IsOrdered space bs x → ordered space bs ≡ figures x
found-ordered space bs x p = sym (then_figures (read_order bs) _ p.read) ∙ ap (on_figures (λ ds. record { order = x.order; demands = ds })) p.spread

module _ {space : ℕ} {bs : List ℕ} {x : Ordered} (p : IsOrdered space bs x) where
  pub found-spread : spread_from space bs ≡ figures x.demands
  found-spread = ap (on_figures (λ y. y.demands)) (found-ordered space bs x p)

  pub spread-demands : demands_in (trace_part bs) ≡ x.demands
  spread-demands = (spread_rules space (trace_part bs) x.demands p.spread).0

  -- the demands are as many as the order's T
  pub ordered-count : length x.demands ≡ x.order.periods
  ordered-count = ap length (sym spread-demands) ∙ orders.demands-count bs x.order p.read

  pub ordered_as : x.order ≡ order_in bs
  ordered_as = (read_rules bs x.order p.read).1

  pub ordered_range : PeriodsRange (length x.demands) × TariffRange x.order.tariff
  ordered_range =
      let r = (read_rules bs x.order p.read).0 in (
        subst PeriodsRange (sym (ordered-count ∙ ap (λ (o : Order). o.periods) ordered_as)) r.periods,
        subst TariffRange (sym (ap (λ (o : Order). o.tariff) ordered_as)) r.tariff,
      )

-- ---- With another number of entries

-- 512 entries are enough for any order. So what these give another number gives too where it is T or more, and 6 where
-- it is less.
module _ (bs : List ℕ) where
  pub ordered-refused : (space n : ℕ) → ordered trace_limit bs ≡ refused n → ordered space bs ≡ refused n
  ordered-refused space n e = go (read_order bs) refl
    where
      go : (a : Answer Order) → read_order bs ≡ a → ordered space bs ≡ refused n
      go (figures o) r =
          let T = read_rules bs o r in
          let few : o.periods ≤ trace_limit = omega (arith, T.0.periods.few, ap (λ (x : Order). x.periods) T.1) in
          let x : Ordered = record { order = o; demands = demands_in (trace_part bs) } in
          absurd (figures-refused (sym (found-ordered trace_limit bs x (record { read = r; spread = orders.read-spread bs o r trace_limit few })) ∙ e))
      go (refused m) r = sym (then_refused (read_order bs) _ r) ∙ then_refused (read_order bs) _ r ∙ e

  module _ (x : Ordered) (e : ordered trace_limit bs ≡ figures x) where
    all : IsOrdered trace_limit bs x
    all = is-ordered trace_limit bs x e

    pub ordered-found : (space : ℕ) → x.order.periods ≤ space → ordered space bs ≡ figures x
    ordered-found space l =
        found-ordered space bs x (record { read = all.read; spread = orders.read-spread bs x.order all.read space l ∙ ap figures (spread-demands all) })

    pub ordered-short : (space : ℕ) → leb x.order.periods space ≡ false → ordered space bs ≡ refused 6
    unfolding spread_of
    ordered-short space h =
        let part = trace_part bs in
        let ok = (weigh-figures (part_ok (length part)) 3 _ all.spread).0 in
        let T : length part / 2 ≡ x.order.periods = sym (length-demands part) ∙ orders.demands-count bs x.order all.read in
        sym (then_figures (read_order bs) _ all.read)
        ∙ ap (on_figures (λ ds. record { order = x.order; demands = ds })) (spread_full space part ok (ap (λ (n : ℕ). leb n space) T ∙ h))

-- What any number of entries gives 512 give too.
pub ordered_any : {space : ℕ} {bs : List ℕ} {x : Ordered} → IsOrdered space bs x → ordered trace_limit bs ≡ figures x
ordered_any {space} {bs} {x} p =
    let few : x.order.periods ≤ trace_limit = omega (arith, ordered-count p, (ordered_range p).0.few) in
    found-ordered trace_limit bs x (record { read = p.read; spread = orders.read-spread bs x.order p.read trace_limit few ∙ ap figures (spread-demands p) })

-- ---- What a call leaves

-- An order that was found.
module _ (bs demands demands' : List ℕ) (found : Answer Order) (p : SpreadsOrder bs demands demands' found) (o : Order) (f : found ≡ figures o) where
  pub found-order : (x : Ordered) × (ordered (length demands) bs ≡ figures x) × (x.order ≡ o)
  found-order = on_figures_lem (λ x. x.order) (ordered (length demands) bs) (sym p.answers ∙ f)

  abbrev pub order_as : Ordered
  order_as = found-order.0

  pub order_is : IsOrdered (length demands) bs order_as
  order_is = is-ordered (length demands) bs order_as found-order.1

  count-is : o.periods ≡ length order_as.demands
  count-is = ap (λ (z : Order). z.periods) (sym found-order.2) ∙ sym (ordered-count order_is)

  filled-is : demands' ≡ filled (figures order_as.demands) demands
  filled-is = p.spreads ∙ ap (λ (a : Answer Ordered). filled (on_figures (λ x. x.demands) a) demands) found-order.1

  -- the T numbers spread
  pub demands_are : take o.periods demands' ≡ order_as.demands
  demands_are =
      ap (λ (n : ℕ). take n demands') count-is ∙ ap (take (length order_as.demands)) filled-is
      ∙ filled-front order_as.demands demands

  -- behind them all is as it was
  pub demands-rest : drop o.periods demands' ≡ drop o.periods demands
  demands-rest =
      ap (λ (n : ℕ). drop n demands') count-is ∙ ap (drop (length order_as.demands)) filled-is
      ∙ drop-append_seam order_as.demands (drop (length order_as.demands) demands)
      ∙ ap (λ (n : ℕ). drop n demands) (sym count-is)

  pub demands-count : length (take o.periods demands') ≡ o.periods
  demands-count = ap length demands_are ∙ sym count-is

  pub demands-inside : o.periods ≤ length demands'
  demands-inside = omega (arith, demands-count, length-take o.periods demands')

-- ---- An order read and its trace spread, into as many entries as any order needs

module _ (bs demands demands' : List ℕ) (found : Answer Order) (p : SpreadsOrder bs demands demands' found) (size : length demands ≡ trace_limit) where
  sized : ordered trace_limit bs ≡ ordered (length demands) bs
  sized = sym (ap (λ (n : ℕ). ordered n bs) size)

  pub order_unread : (n : ℕ) → found ≡ refused n → ordered trace_limit bs ≡ refused n
  order_unread n f = sized ∙ on_refused (λ x. x.order) (ordered (length demands) bs) (sym p.answers ∙ f)

  pub order-read : (o : Order) → found ≡ figures o → ordered trace_limit bs ≡ figures (record { order = o; demands = take o.periods demands' })
  order-read o f =
      let x = found-order bs demands demands' found p o f in
      let e : x.0 ≡ record { order = o; demands = take o.periods demands' } =
      ap₂ (λ (z : Order) (ds : List ℕ). record { order = z; demands = ds }) x.2 (sym (demands_are bs demands demands' found p o f)) in
      sized ∙ x.1 ∙ ap figures e

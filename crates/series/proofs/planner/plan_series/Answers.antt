-- Each refusal is the first rule that its test finds broken; past the tests the search gives the answer.
use Prim.Native.Nat.{ℕ}
use mathlib.Core.Path.{◌≡◌, ap}
use mathlib.Core.Bool.{true, false}
use mathlib.Core.List.{List}
use borrow.Author.Tests.{le-leb, lt-leb}
use lib.Dec.{leb}
use lib.ListN.{length}
use Rattle.terms.specs.declared.Tariff.{Tariff}
use Rattle.terms.specs.Answer.{Answer, refused, on_figures}
use Rattle.terms.specs.Ranges.{periods_ok, tariff_ok}
use Rattle.terms.specs.RangeLaws.{periods_range, tariff_range}
use Rattle.terms.specs.Records.{Cutting}
use Rattle.series.specs.Series.{cheapest_cut, found_of, series_of}
use mathlib.Core.Path.{sym, ◌∙◌}
use Rattle.series.proofs.planner.plan_series.Goals as goal

module _ (t : Tariff) (room : ℕ) (ds : List ℕ) where
  abbrev answer : Answer Cutting
  answer = series_of t room ds

  no-periods : periods_ok (length ds) ≡ false → answer ≡ refused 3
  unfolding series_of
  no-periods h = rw h

  module _ (h : periods_ok (length ds) ≡ true) where
    no-tariff : tariff_ok t ≡ false → answer ≡ refused 5
    unfolding series_of
    no-tariff k = rw (h, k)

    module _ (k : tariff_ok t ≡ true) where
      no_room : leb (length ds) room ≡ false → answer ≡ refused 6
      unfolding series_of
      no_room l = rw (h, k, l)

      past-tests : leb (length ds) room ≡ true → cheapest_cut t ds ≡ answer
      unfolding series_of
      past-tests l = rw (h, k, l)

module _ (s : Tariff) where
  refuses : {n : ℕ} {a : Answer Cutting} → a ≡ refused n → refused n ≡ on_figures (found_of s) a
  refuses e = sym (ap (on_figures (found_of s)) e)

pub returns-then-not-periods_in_range : goal.returns-then-not-periods_in_range
returns-then-not-periods_in_range c =
    let s = c.args in
    refuses s.tariff (no-periods s.tariff s.room s.trace.now (sym c.periods_in_range.ensures ∙ c.if-not-periods_in_range.true))

pub returns-then-not-tariff_in_range : goal.returns-then-not-tariff_in_range
returns-then-not-tariff_in_range c =
    let periods : periods_ok (length c.args.trace.now) ≡ true = (sym c.periods_in_range.ensures ∙ c.if-not-periods_in_range.false) in
    let s = c.args in
    refuses s.tariff (no-tariff s.tariff s.room s.trace.now periods (sym c.tariff_in_range.ensures ∙ c.if-not-tariff_in_range.true))

pub returns-then-room-periods : goal.returns-then-room-periods
returns-then-room-periods c =
    let periods : periods_ok (length c.args.trace.now) ≡ true = (sym c.periods_in_range.ensures ∙ c.if-not-periods_in_range.false) in
    let figures : tariff_ok c.args.tariff ≡ true = (sym c.tariff_in_range.ensures ∙ c.if-not-tariff_in_range.false) in
    let s = c.args in
    refuses s.tariff (no_room s.tariff s.room s.trace.now periods figures (lt-leb _ _ c.if-room-periods.true))

pub cheapest-requires : goal.cheapest-requires
cheapest-requires c =
    let periods : periods_ok (length c.args.trace.now) ≡ true = (sym c.periods_in_range.ensures ∙ c.if-not-periods_in_range.false) in
    let figures : tariff_ok c.args.tariff ≡ true = (sym c.tariff_in_range.ensures ∙ c.if-not-tariff_in_range.false) in
    record { periods_range = periods_range _ (periods); tariff_range = tariff_range _ (figures) }

pub returns : goal.returns
returns c =
    let periods : periods_ok (length c.args.trace.now) ≡ true = (sym c.periods_in_range.ensures ∙ c.if-not-periods_in_range.false) in
    let figures : tariff_ok c.args.tariff ≡ true = (sym c.tariff_in_range.ensures ∙ c.if-not-tariff_in_range.false) in
    let s = c.args in
    c.cheapest.ensures ∙ ap (on_figures (found_of s.tariff)) (past-tests s.tariff s.room s.trace.now periods figures (le-leb _ _ c.if-room-periods.false))

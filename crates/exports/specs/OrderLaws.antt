-- An order written from figures: each refusal, and what writing the order of the figures gives.
-- Assumes nothing.
use Rattle.std.specs.Prelude.{ℕ, ◌≡◌, true, false, List, eqb, length}
use Rattle.terms.specs.Answer.{Answer, refused}
use Rattle.terms.specs.Ranges.{periods_ok}
use Rattle.encoding.specs.FillLaws.{Fills, fill_refused}
use Rattle.order_file.specs.Order.{write_order}
use Rattle.typed_figures.specs.Figures.{tariff_figures, tariff_of}
use Rattle.exports.specs.Answers.{order_from}

module _ (fs ds old : List ℕ) where
  abbrev written : Answer (List ℕ)
  written = order_from (length old) fs ds

  pub order-periods : periods_ok (length ds) ≡ false → Fills written old (refused 3) old
  unfolding order_from
  order-periods e = fill_refused written old 3 (rw e)

  module _ (e : periods_ok (length ds) ≡ true) where
    pub order-figures : eqb (length fs) tariff_figures ≡ false → Fills written old (refused 5) old
    unfolding order_from
    order-figures f = fill_refused written old 5 (rw (e, f))

    pub order-written : eqb (length fs) tariff_figures ≡ true → (r : Answer ℕ) (new : List ℕ)
        → Fills (write_order (length old) (tariff_of fs) ds) old r new → Fills written old r new
    unfolding order_from
    order-written f r new k = rw (e, f) k

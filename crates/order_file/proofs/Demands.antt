-- Demands loaded one by one: as many as are loaded, and one more behind them.
use Rattle.std.specs.Prelude.{ℕ, ◌+◌, ◌*◌, ◌≡◌, List, [], ◌∷◌, ◌++◌, length, set}
use Rattle.std.proofs.Common.{arith, refl, sym, ap, ◌∙◌}
use Rattle.std.proofs.lemmas.List.Edits.{sets}
use Rattle.encoding.specs.Number.{items_at, number_at}
use Rattle.encoding.specs.NumberLaws.{items_more, length_items}
use Rattle.encoding.specs.StoreLaws.{sets_append, sets_front}
use Rattle.order_file.specs.OrderRules.{length-demands}

-- The first i demands of a part.
abbrev pub first : ℕ → List ℕ → List ℕ
first i part = items_at (number_at 2 part) 2 i 0

module _ (part old : List ℕ) (i : ℕ) where
  pub one_loaded : set (sets old 0 (first i part)) i (number_at 2 part (2 * i)) ≡ sets old 0 (first (i + 1) part)
  one_loaded =
      let at : 0 + 2 * i ≡ 2 * i = omega arith in
      let n : 0 + length (first i part) ≡ i = omega (arith, length_items (number_at 2 part) 2 i 0) in
      ap (λ (m : ℕ). set (sets old 0 (first i part)) m (number_at 2 part (2 * i))) (sym n)
      ∙ sym (sets_append old 0 (first i part) (number_at 2 part (2 * i) ∷ []))
      ∙ ap (λ (m : ℕ). sets old 0 (first i part ++ number_at 2 part m ∷ [])) (sym at)
      ∙ ap (sets old 0) (sym (items_more (number_at 2 part) 2 i 0))

  pub none_loaded : sets old 0 (first 0 part) ≡ old
  unfolding items_at
  none_loaded = refl

pub ruleset loading = (one_loaded, none_loaded, length-demands)

-- … and stored at the front of a list.
pub ruleset spreading = (sets_front, length-demands)

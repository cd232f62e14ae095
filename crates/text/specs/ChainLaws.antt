-- Two parts of a line stored one behind the other: there is room for each, and together they are the line.
-- Assumes nothing.
use Rattle.std.specs.Prelude.{ℕ, List, ◌++◌}
use Rattle.text.specs.PutLaws.{Puts, Room, room-front, room_next, puts_then}

module _ (old : List ℕ) (at : ℕ) (a b : List ℕ) where
  module _ (room : Room old at (a ++ b)) where
    pub first_of_two : Room old at a
    first_of_two = room-front old at a b room

    pub second_of_two : {t₁ : List ℕ} {n₁ : ℕ} → Puts old at a t₁ n₁ → Room t₁ n₁ b
    second_of_two p = room_next p b room

  pub two : {t₁ t₂ : List ℕ} {n₁ n₂ : ℕ} → Puts old at a t₁ n₁ → Puts t₁ n₁ b t₂ n₂ → Puts old at (a ++ b) t₂ n₂
  two = puts_then

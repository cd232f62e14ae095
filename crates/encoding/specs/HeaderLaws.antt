-- That the parts of a file are in their places, as equations, is equivalent to the test; and what a header decides.
-- Assumes nothing.
use Rattle.std.specs.Prelude.{ℕ, ◌+◌, ◌≡◌, refl, Bool, true, false, ◌&&◌, List, eqb, length}
use Rattle.std.proofs.Common.{eqb-true, eq-eqb}
use Rattle.terms.specs.Answer.{Answer, refused, weigh}
use Rattle.terms.specs.Bools.{and_both, and_three, both_and, true-false}
use Rattle.encoding.specs.Number.{number_at}
use Rattle.encoding.specs.Header.{Placed, placed_as}

module _ (at first second size : ℕ) (bs : List ℕ) where
  pub placed_range : placed_as at first second size bs ≡ true → Placed at first second size bs
  placed_range h =
      let k = and_three (eqb (number_at 4 bs at) first && eqb (number_at 4 bs (at + 4)) second) (eqb (number_at 4 bs (at + 8)) size) (eqb (length bs) size) h in
      let l = and_both (eqb (number_at 4 bs at) first) (eqb (number_at 4 bs (at + 4)) second) k.0 in
      record { first_offset = eqb-true _ _ l.0; second_offset = eqb-true _ _ l.1; file_length = eqb-true _ _ k.1; bytes = eqb-true _ _ k.2 }

  pub placed_ok : Placed at first second size bs → placed_as at first second size bs ≡ true
  placed_ok p =
      both_and (both_and (both_and (eq-eqb _ _ p.first_offset) (eq-eqb _ _ p.second_offset)) (eq-eqb _ _ p.file_length)) (eq-eqb _ _ p.bytes)

-- A file whose parts are not in their places, whatever else it holds: its header alone decides between 2, 3 and 4.
abbrev pub headed : {A : Type 0} → Bool → Bool → Answer A
headed kind counts = weigh kind 2 (weigh counts 3 (refused 4))

pub header_decides : {A : Type 0} (long kind counts placed : Bool) (rest : Answer A) → long ≡ true → (counts ≡ true → placed ≡ false)
    → weigh long 1 (weigh kind 2 (weigh counts 3 (weigh placed 4 rest))) ≡ headed kind counts
header_decides true false counts placed rest l h = refl
header_decides true true false placed rest l h = refl
header_decides true true true placed rest l h = rw (h refl)
header_decides false kind counts placed rest l h = absurd (true-false l refl)

pub header_number : {A : Type 0} (kind counts : Bool) → (n : ℕ) × (headed {A = A} kind counts ≡ refused n)
header_number false counts = (2, refl)
header_number true false = (3, refl)
header_number true true = (4, refl)

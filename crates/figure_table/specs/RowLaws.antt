-- A test of a table of figures: where it holds, every row is an equation.
-- Assumes nothing.
use Rattle.std.specs.Prelude.{◌≡◌, refl, Bool, true, false, ◌&&◌, List, [], ◌∷◌, eqb, ℤ, pos, negsuc}
use Rattle.std.proofs.Common.{ap, eqb-true}
use Rattle.std.proofs.lemmas.Bool.{false≢true}
use Rattle.terms.specs.Answer.{Answer, figures, refused}
use Rattle.terms.specs.Bools.{and_both}
use Rattle.figure_table.specs.Rows.{Row, Hold}

same_number : ℤ → ℤ → Bool
same_number (pos a) (pos b) = eqb a b
same_number (pos a) (negsuc b) = false
same_number (negsuc a) (pos b) = false
same_number (negsuc a) (negsuc b) = eqb a b

same_list : List ℤ → List ℤ → Bool
unfolding same_number
same_list [] [] = true
same_list [] (y ∷ ys) = false
same_list (x ∷ xs) [] = false
same_list (x ∷ xs) (y ∷ ys) = same_number x y && same_list xs ys

same_answer : Answer (List ℤ) → Answer (List ℤ) → Bool
unfolding same_list
same_answer (figures xs) (figures ys) = same_list xs ys
same_answer (figures xs) (refused n) = false
same_answer (refused m) (figures ys) = false
same_answer (refused m) (refused n) = eqb m n

-- Whether every row of a table gives what the paper says.
unfoldable pub all_right : List Row → Bool
unfolding same_answer
all_right [] = true
all_right (x ∷ xs) = same_answer x.given x.paper && all_right xs

-- ---- The test is right

same_number_lem : (a b : ℤ) → same_number a b ≡ true → a ≡ b
unfolding same_number
same_number_lem (pos a) (pos b) h = ap pos (eqb-true a b h)
same_number_lem (pos a) (negsuc b) h = absurd (false≢true h)
same_number_lem (negsuc a) (pos b) h = absurd (false≢true h)
same_number_lem (negsuc a) (negsuc b) h = ap negsuc (eqb-true a b h)

same_list_lem : (xs ys : List ℤ) → same_list xs ys ≡ true → xs ≡ ys
unfolding same_list
same_list_lem [] [] h = refl
same_list_lem [] (y ∷ ys) h = absurd (false≢true h)
same_list_lem (x ∷ xs) [] h = absurd (false≢true h)
same_list_lem (x ∷ xs) (y ∷ ys) h =
    let k = and_both (same_number x y) (same_list xs ys) h in
    rw (same_number_lem x y k.0, same_list_lem xs ys k.1)

same_answer_lem : (a b : Answer (List ℤ)) → same_answer a b ≡ true → a ≡ b
unfolding same_answer
same_answer_lem (figures xs) (figures ys) h = ap figures (same_list_lem xs ys h)
same_answer_lem (figures xs) (refused n) h = absurd (false≢true h)
same_answer_lem (refused m) (figures ys) h = absurd (false≢true h)
same_answer_lem (refused m) (refused n) h = ap refused (eqb-true m n h)

pub all_hold : (xs : List Row) → all_right xs ≡ true → Hold xs
unfolding all_right
all_hold [] h = tt
all_hold (x ∷ xs) h =
    let k = and_both (same_answer x.given x.paper) (all_right xs) h in
    (same_answer_lem x.given x.paper k.0, all_hold xs k.1)

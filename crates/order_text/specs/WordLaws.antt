-- The mark in front of a text, and the word around a place found byte by byte: back to its first and on to its last.
-- Assumes nothing.
use Prim.Native.Nat.{ℕ, zero, suc, ◌+◌, ◌-◌, ◌≤◌, ◌<◌, min}
use native.Mathlib.Omega.{arith}
use Rattle.std.specs.Prelude.{◌≡◌, refl, Bool, ◌&&◌, ◌||◌, List, [], ◌∷◌, eqb, length, take, drop, get_or}
use Rattle.std.proofs.Math.Path.{ap}
use Rattle.std.proofs.Common.{subst, ◌∙◌, drop_of_length-le}
use Rattle.std.proofs.Math.Bool.{true, false, cond}
use Rattle.encoding.specs.StoreLaws.{drop_next}
use Rattle.order_text.specs.Text.{mark_length, ends_figure, word_start, word_length, word_around}

-- ---- The mark

-- A text of fewer bytes has none.
no_mark : (t : Bool) → ◌≡◌ {A = ℕ} (cond (t && false) 3 0) 0
no_mark true = refl
no_mark false = refl

pub short-unmarked : (text : List ℕ) → length text < 3 → mark_length text ≡ 0
short-unmarked [] l = refl
short-unmarked (a ∷ []) l = no_mark (eqb a 239 && false)
short-unmarked (a ∷ b ∷ []) l = no_mark (eqb a 239 && eqb b 187)
short-unmarked (a ∷ b ∷ c ∷ bs) l = absurd (omega arith)

-- ---- Where the word begins

module _ (text : List ℕ) where
  -- Whether it begins at n, right behind the byte m.
  abbrev pub begins : ℕ → ℕ → Bool
  begins n m = eqb n (mark_length text) || ends_figure (get_or text m 0)

  start_next : (t : Bool) (m : ℕ) → begins (suc m) m ≡ t → word_start text (suc m) ≡ cond t (suc m) (word_start text m)
  unfolding word_start
  start_next t m h = ap (λ (b : Bool). cond b (suc m) (word_start text m)) h

  pub start_is : (t : Bool) (n : ℕ) → 0 < n → begins n (n - 1) ≡ t → word_start text n ≡ cond t n (word_start text (n - 1))
  start_is t n l =
      let e : suc (n - 1) ≡ n = omega arith in
      subst (λ (k : ℕ). begins k (n - 1) ≡ t → word_start text k ≡ cond t k (word_start text (n - 1))) e (start_next t (n - 1))

  pub start_inside : (n : ℕ) → word_start text n ≤ n
  unfolding word_start
  start_inside zero = omega arith
  start_inside (suc n) = go (eqb (suc n) (mark_length text) || ends_figure (get_or text n 0)) (start_inside n)
    where
      go : (t : Bool) → word_start text n ≤ n → cond t (suc n) (word_start text n) ≤ suc n
      go true l = omega arith
      go false l = omega (arith, l)

-- ---- How long it is

module _ (text : List ℕ) (i : ℕ) where
  pub length_none : length text ≤ i → word_length (drop i text) ≡ 0
  unfolding word_length
  length_none l = ap word_length (drop_of_length-le text l)

  module _ (l : i < length text) where
    pub length_end : ends_figure (get_or text i 0) ≡ true → word_length (drop i text) ≡ 0
    unfolding word_length
    length_end h = ap word_length (drop_next text i 0 l) ∙ rw h

    pub length_next : ends_figure (get_or text i 0) ≡ false → word_length (drop i text) ≡ 1 + word_length (drop (i + 1) text)
    unfolding word_length
    length_next h = ap word_length (drop_next text i 0 l) ∙ rw h

-- ---- The word

pub word_is : (text : List ℕ) (place n start end : ℕ) → n ≡ min place (length text) → start ≡ word_start text n → end ≡ start + word_length (drop start text)
    → take (end - start) (drop start text) ≡ word_around text place
word_is text place n start end e f g =
    let h : end - start ≡ word_length (drop start text) = omega (arith, g) in
    ap (λ (k : ℕ). take k (drop start text)) h
    ∙ ap (λ (k : ℕ). take (word_length (drop k text)) (drop k text)) (f ∙ ap (word_start text) e)

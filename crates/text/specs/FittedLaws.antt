-- A text that fits its room fills the front of what is lent; another is refused. A text whose length is not known
-- beforehand stands ready in an array of its own in between.
-- Assumes nothing.
use Rattle.std.specs.Prelude.{ℕ, ◌≤◌, ◌<◌, ◌≡◌, Bool, List, length, replicate, take}
use Rattle.std.proofs.Common.{arith, sym, ap, subst, le-leb, length-take-le}
use Rattle.std.proofs.lemmas.Bool.{lt-leb}
use Rattle.std.proofs.lemmas.List.{length-replicate}
use Rattle.terms.specs.Answer.{Answer, figures, refused, weigh}
use Rattle.encoding.specs.FillLaws.{Fills, fill_refused, fill_stored}
use Rattle.text.specs.Fitted.{fitted}
use Rattle.text.specs.PutLaws.{Puts, same-room, puts_front}

module _ (ready old : List ℕ) where
  pub too_short : length old < length ready → Fills (fitted (length old) ready) old (refused 6) old
  too_short h = fill_refused (fitted (length old) ready) old 6 (ap (λ (b : Bool). weigh b 6 (figures ready)) (lt-leb (length ready) (length old) h))

  module _ (h : length ready ≤ length old) (new : List ℕ) where
    fits : fitted (length old) ready ≡ figures ready
    fits = ap (λ (b : Bool). weigh b 6 (figures ready)) (le-leb (length ready) (length old) h)

    -- written into the lent text directly
    pub put_fills : (n : ℕ) → Puts old 0 ready new n → Fills (fitted (length old) ready) old (figures n) new
    put_fills n p = fill_stored (fitted (length old) ready) old ready new n fits (omega (arith, p.place)) h p.stored

-- An array of zeros has its length.
abbrev pub zeros : ℕ → List ℕ
zeros n = replicate n 0

pub long : (n : ℕ) → length (zeros n) ≡ n
long n = length-replicate {0} {A = ℕ} n 0

-- What was put at the front of an array is the text that stands ready.
module _ (array xs : List ℕ) (room : length xs ≤ length array) (put : List ℕ) (n : ℕ) (p : Puts array 0 xs put n) where
  pub ready_inside : n ≤ length put
  ready_inside = omega (arith, room, p.place, same-room p)

  pub ready_count : n ≡ length (take n put)
  ready_count = sym (length-take-le n put ready_inside)

  pub ready_fills : (old new : List ℕ) (r : Answer ℕ) → Fills (fitted (length old) (take n put)) old r new → Fills (fitted (length old) xs) old r new
  ready_fills old new r = subst (λ (ys : List ℕ). Fills (fitted (length old) ys) old r new) (puts_front array xs put n room p)

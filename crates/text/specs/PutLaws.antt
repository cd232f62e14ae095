-- Text stored piece by piece, each behind the one before it.
-- Assumes nothing.
use Rattle.std.specs.Prelude.{ℕ, ◌+◌, ◌/◌, ◌^◌, ◌≤◌, ◌<◌, ◌≡◌, refl, List, [], ◌∷◌, ◌++◌, ℤ, nat_abs, length, take, set}
use Rattle.std.proofs.Common.{arith, sym, ap, ◌∙◌, length-append, take_at}
use Rattle.std.proofs.lemmas.List.Edits.{sets}
use Rattle.std.proofs.Math.Seq.{length-sets}
use Rattle.encoding.specs.StoreLaws.{sets_append, sets_front}
use Rattle.text.specs.Numeral.{digits, numeral, ended}
use Rattle.text.specs.Megabits.{point, sign, megabits}
use Rattle.text.specs.NumeralLaws.{length_digits, numeral-digits}

-- xs is stored in `old` from `at` on, which gives `new`; `next` is the place behind it.
pub record Puts (old : List ℕ) (at : ℕ) (xs new : List ℕ) (next : ℕ) : Type 0 where
  pub place : next ≡ at + length xs
  pub stored : new ≡ sets old at xs

-- There is room for xs from `at` on.
abbrev pub Room : List ℕ → ℕ → List ℕ → Type 0
Room old at xs = at + length xs ≤ length old

-- A field with the byte behind it is one byte longer.
pub ended-length : (xs : List ℕ) (b : ℕ) → length (ended xs b) ≡ length xs + 1
ended-length xs b = length-append xs (b ∷ [])

pub room-front : (old : List ℕ) (at : ℕ) (xs ys : List ℕ) → Room old at (xs ++ ys) → Room old at xs
room-front old at xs ys h = omega (arith, h, length-append xs ys)

module _ {old : List ℕ} {at : ℕ} {xs new : List ℕ} {next : ℕ} (p : Puts old at xs new next) where
  pub same-room : length new ≡ length old
  same-room = ap length p.stored ∙ length-sets old at xs

  pub room_next : (ys : List ℕ) → Room old at (xs ++ ys) → Room new next ys
  room_next ys h = omega (arith, h, length-append xs ys, p.place, same-room)

  pub puts_both : (ys newer : List ℕ) (end : ℕ) → Puts new next ys newer end → Puts old at (xs ++ ys) newer end
  puts_both ys newer end q =
      record {
        place = omega (arith, q.place, p.place, length-append xs ys);
        stored =
            q.stored
            ∙ ap (λ (zs : List ℕ). sets zs next ys) p.stored
            ∙ ap (λ (n : ℕ). sets (sets old at xs) n ys) p.place
            ∙ sym (sets_append old at xs ys);
      }

  pub puts_byte : (b : ℕ) → Puts old at (ended xs b) (set new next b) (next + 1)
  puts_byte b = puts_both (b ∷ []) (set new next b) (next + 1) (record { place = refl; stored = refl })

-- … each from where the one before it ends.
pub puts_then : {old mid new xs ys : List ℕ} {at next end : ℕ} → Puts old at xs mid next → Puts mid next ys new end → Puts old at (xs ++ ys) new end
puts_then p q = puts_both p _ _ _ q

-- What is stored at the front is the front.
pub puts_front : (old xs new : List ℕ) (n : ℕ) → length xs ≤ length old → Puts old 0 xs new n → take n new ≡ xs
puts_front old xs new n l p =
    let e : length xs ≡ n = omega (arith, p.place) in
    ap (take n) (p.stored ∙ sets_front xs old l) ∙ take_at xs _ n e

-- The last digits of a number, as many as it has, are the number.
pub puts_number : (old : List ℕ) (at n : ℕ) (new : List ℕ) (count b : ℕ) → n < 10 ^ 20 → count ≡ length (numeral n) → new ≡ sets old at (digits count n)
    → Puts old at (ended (numeral n) b) (set new (at + count) b) (at + count + 1)
puts_number old at n new count b h e f = puts_byte digits-put b
  where
    digits-put : Puts old at (numeral n) new (at + count)
    digits-put =
        record {
          place = ap (λ (k : ℕ). at + k) e;
          stored = f ∙ ap (λ (k : ℕ). sets old at (digits k n)) e ∙ ap (sets old at) (numeral-digits 19 n h);
        }

-- A figure's sign, whole part and point are stored; the thousandths come behind them. n is the figure without its sign.
module _ (old : List ℕ) (at : ℕ) (z : ℤ) (n : ℕ) (e : n ≡ nat_abs z) {new : List ℕ} {next : ℕ} (p : Puts old at (sign z ++ ended (numeral (n / 1000)) point) new next) where
  pub places-room : Room old at (megabits z) → next + 3 ≤ length new
  places-room room = omega (arith, room_next p (digits 3 n) (rw e room), length_digits 3 n)

  pub puts_megabits : (newer : List ℕ) → newer ≡ sets new next (digits 3 n) → Puts old at (megabits z) newer (next + 3)
  puts_megabits newer f =
      rw (← e)
      (puts_then p (record { place = ap (λ (k : ℕ). next + k) (sym (length_digits 3 n)); stored = f }))

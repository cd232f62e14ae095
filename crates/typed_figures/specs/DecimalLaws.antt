-- A word of digits read byte by byte, and that the digits of a number stand for it.
-- Assumes nothing.
use Rattle.std.specs.Prelude.{ℕ, suc, ◌+◌, ◌-◌, ◌*◌, ◌/◌, ◌%◌, ◌^◌, ◌≤◌, ◌<◌, ◌≡◌, refl, Bool, true, false, cond, List, [], ◌∷◌, ◌++◌, leb, length, drop, get_or, Some, None}
use Rattle.std.proofs.Common.{arith, zero-lt-suc, mod-lt, sym, subst, ◌∙◌, leb-true, le-leb, length-append, drop_of_length-le}
use Rattle.std.proofs.Math.Nat.{mod-add-div}
use Rattle.std.proofs.Math.Path.{ap}
use Rattle.terms.specs.Answer.{figures, refused}
use Rattle.terms.specs.Bools.{and_both, both_and}
use Rattle.terms.specs.Records.{Each}
use Rattle.encoding.specs.StoreLaws.{drop_next}
use Rattle.text.specs.Numeral.{digit, numeral_in, numeral}
use Rattle.text.specs.NumeralLaws.{by_digits, numeral-small, numeral_large}
use Rattle.typed_figures.specs.Decimal.{is_digit, appended, pushed, number_limit, number_from, number_in}

pub record DigitRange (b : ℕ) : Type 0 where
  pub from : 48 ≤ b
  pub to : b ≤ 57

pub digit_range : (b : ℕ) → is_digit b ≡ true → DigitRange b
digit_range b h = let k = and_both (leb 48 b) (leb b 57) h in omega (arith, leb-true)

-- ---- One more digit

module _ (limit v b : ℕ) where
  pub push_within : appended v b ≤ limit → pushed limit v b ≡ Some (appended v b)
  push_within h = rw (le-leb (appended v b) limit h)

  push_none : pushed limit v b ≡ None → leb (appended v b) limit ≡ false
  push_none = go (leb (appended v b) limit)
    where
      go : (t : Bool) → cond t (Some (appended v b)) None ≡ None → t ≡ false
      go true e = let z : ◌≡◌ {A = ℕ} 0 1 = cc in absurd (omega arith)
      go false e = refl

  push_some : (n : ℕ) → pushed limit v b ≡ Some n → (leb (appended v b) limit ≡ true) × (appended v b ≡ n)
  push_some n = go (leb (appended v b) limit)
    where
      go : (t : Bool) → cond t (Some (appended v b)) None ≡ Some n → (t ≡ true) × (appended v b ≡ n)
      go true e = (refl, cc)
      go false e = let z : ◌≡◌ {A = ℕ} 0 1 = cc in absurd (omega arith)

  pub push_limit : (n : ℕ) → pushed limit v b ≡ Some n → n ≤ limit
  push_limit n e = let k = push_some n e in omega (arith, leb-true (appended v b) limit k.0, k.1)

-- ---- A word, from its i-th byte on

pub number_begin : (w : List ℕ) → 0 < length w → number_from 0 w ≡ number_in w
number_begin [] h = absurd (omega arith)
number_begin (b ∷ bs) h = refl

module _ (w : List ℕ) (v i : ℕ) where
  pub number_end : length w ≤ i → number_from v (drop i w) ≡ figures v
  unfolding number_from
  number_end l = ap (number_from v) (drop_of_length-le w l)

  module _ (l : i < length w) where
    abbrev b : ℕ
    b = get_or w i 0

    pub number_other : is_digit b ≡ false → number_from v (drop i w) ≡ refused 5
    unfolding number_from
    number_other h = ap (number_from v) (drop_next w i 0 l) ∙ rw h

    pub number_above : is_digit b ≡ true → pushed number_limit v b ≡ None → number_from v (drop i w) ≡ refused 5
    unfolding number_from
    number_above h e = ap (number_from v) (drop_next w i 0 l) ∙ rw (h, push_none number_limit v b e)

    pub number_next : (n : ℕ) → is_digit b ≡ true → pushed number_limit v b ≡ Some n → number_from v (drop i w) ≡ number_from n (drop (i + 1) w)
    unfolding number_from
    number_next n h e =
        let k = push_some number_limit v b n e in
        ap (number_from v) (drop_next w i 0 l) ∙ rw (h, k.0, k.1)

-- ---- The digits of a number

-- What digits come to behind a number v.
unfoldable pub value_from : ℕ → List ℕ → ℕ
value_from v [] = v
value_from v (b ∷ bs) = value_from (v * 10 + (b - 48)) bs

abbrev pub Digits : List ℕ → Type 0
Digits = Each (λ b. is_digit b ≡ true)

-- More digits never make a number less.
pub value_grows : (v : ℕ) (bs : List ℕ) → v ≤ value_from v bs
unfolding value_from
value_grows v [] = omega arith
value_grows v (b ∷ bs) = omega (arith, value_grows (v * 10 + (b - 48)) bs)

value-append : (v : ℕ) (bs : List ℕ) (b : ℕ) → value_from v (bs ++ b ∷ []) ≡ value_from v bs * 10 + (b - 48)
unfolding value_from
value-append v [] b = refl
value-append v (a ∷ bs) b = value-append (v * 10 + (a - 48)) bs b

digits_append : (bs : List ℕ) (b : ℕ) → Digits bs → is_digit b ≡ true → Digits (bs ++ b ∷ [])
digits_append [] b ds h = (h, tt)
digits_append (a ∷ bs) b ds h = (ds.0, digits_append bs b ds.1 h)

is_digit_lem : (n : ℕ) → n < 10 → is_digit (digit n) ≡ true
is_digit_lem n h = both_and (le-leb 48 (digit n) (omega arith)) (le-leb (digit n) 57 (omega (arith, h)))

last_digit : (n : ℕ) → is_digit (digit (n % 10)) ≡ true
last_digit n = is_digit_lem (n % 10) (mod-lt n (zero-lt-suc 9))

pub digits_are : (n : ℕ) → n < 10 ^ 20 → Digits (numeral n)
digits_are = by_digits (λ more n. Digits (numeral_in more n)) one next 19
  where
    one : (more n : ℕ) → n < 10 → Digits (numeral_in more n)
    one more n h = subst Digits (sym (numeral-small more n h)) (is_digit_lem n h, tt)

    next : (more n : ℕ) → 10 ≤ n → Digits (numeral_in more (n / 10)) → Digits (numeral_in (suc more) n)
    next more n h ds = subst Digits (sym (numeral_large more n h)) (digits_append (numeral_in more (n / 10)) (digit (n % 10)) ds (last_digit n))

pub value-digits : (n : ℕ) → n < 10 ^ 20 → value_from 0 (numeral n) ≡ n
unfolding value_from
value-digits = by_digits (λ more n. value_from 0 (numeral_in more n) ≡ n) one next 19
  where
    one : (more n : ℕ) → n < 10 → value_from 0 (numeral_in more n) ≡ n
    one more n h = ap (value_from 0) (numeral-small more n h) ∙ omega arith

    next : (more n : ℕ) → 10 ≤ n → value_from 0 (numeral_in more (n / 10)) ≡ n / 10 → value_from 0 (numeral_in (suc more) n) ≡ n
    next more n h e =
        ap (value_from 0) (numeral_large more n h)
        ∙ value-append 0 (numeral_in more (n / 10)) (digit (n % 10))
        ∙ omega (arith, e, mod-add-div n 10)

-- There is at least one.
pub digits-some : (n : ℕ) → n < 10 ^ 20 → 0 < length (numeral n)
digits-some = by_digits (λ more n. 0 < length (numeral_in more n)) one next 19
  where
    one : (more n : ℕ) → n < 10 → 0 < length (numeral_in more n)
    one more n h = omega (arith, ap length (numeral-small more n h))

    next : (more n : ℕ) → 10 ≤ n → 0 < length (numeral_in more (n / 10)) → 0 < length (numeral_in (suc more) n)
    next more n h l = omega (arith, ap length (numeral_large more n h), length-append (numeral_in more (n / 10)) (digit (n % 10) ∷ []))

-- The digits of a number of 32 bits are read back as that number.
number_digits : (v : ℕ) (bs : List ℕ) → Digits bs → value_from v bs ≤ number_limit → number_from v bs ≡ figures (value_from v bs)
unfolding number_from value_from
number_digits v [] ds l = refl
number_digits v (b ∷ bs) ds l =
    let n = appended v b in
    rw (ds.0, le-leb n number_limit (omega (arith, value_grows n bs))) (number_digits n bs ds.1 l)

pub number_printed : (n : ℕ) → n ≤ number_limit → number_in (numeral n) ≡ figures n
number_printed n l =
    let h : n < 10 ^ 20 = omega (arith, l) in
    let e = value-digits n h in
    sym (number_begin _ (digits-some n h)) ∙ number_digits 0 (numeral n) (digits_are n h) (omega (arith, e, l)) ∙ ap figures e

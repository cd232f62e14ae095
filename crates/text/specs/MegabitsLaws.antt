-- The text of a figure names the figure, so that two figures never print alike; and how long the text is.
-- Assumes nothing.
use Rattle.std.specs.Prelude.{ℕ, suc, ◌+◌, ◌-◌, ◌*◌, ◌/◌, ◌%◌, ◌^◌, ◌≤◌, ◌<◌, ◌≡◌, refl, Bool, true, false, cond, List, [], ◌∷◌, ◌++◌, ltb, ℤ, pos, negsuc, nat_abs, neg_ℤ, length}
use Rattle.std.proofs.Common.{arith, zero-lt-suc, div-le_self, div-lt_iff_lt-mul, sym, ◌∙◌, le-ltb, ne_eqb, length-append}
use Rattle.std.proofs.Math.Nat.{div-div-eq-div-mul, mod-add-div}
use Rattle.std.proofs.Math.Path.{ap}
use Rattle.text.specs.Numeral.{digit, digits, numeral_in, numeral, ended}
use Rattle.text.specs.Megabits.{minus, point, sign, megabits, value_from, named}
use Rattle.text.specs.NumeralLaws.{by_digits, numeral-small, numeral_large, numeral-short, length_digits}

-- ---- The text of a figure names it

value-append : (n : ℕ) (xs ys : List ℕ) → value_from n (xs ++ ys) ≡ value_from (value_from n xs) ys
unfolding value_from
value-append n [] ys = refl
value-append n (x ∷ xs) ys = go (value-append n xs ys) (value-append (10 * n + (x - 48)) xs ys) (ltb x 48)
  where
    go : value_from n (xs ++ ys) ≡ value_from (value_from n xs) ys
        → value_from (10 * n + (x - 48)) (xs ++ ys) ≡ value_from (value_from (10 * n + (x - 48)) xs) ys
        → (b : Bool)
        → cond b (value_from n (xs ++ ys)) (value_from (10 * n + (x - 48)) (xs ++ ys)) ≡ value_from (cond b (value_from n xs) (value_from (10 * n + (x - 48)) xs)) ys
    go e f true = e
    go e f false = f

value-digit : (n d : ℕ) (bs : List ℕ) → value_from n (digit d ∷ bs) ≡ value_from (10 * n + d) bs
unfolding value_from
value-digit n d bs =
    let e : 10 * n + (digit d - 48) ≡ 10 * n + d = omega arith in
    ap (λ (b : Bool). cond b (value_from n bs) (value_from (10 * n + (digit d - 48)) bs)) (le-ltb (digit d) 48 (omega arith))
    ∙ ap (λ (m : ℕ). value_from m bs) e

-- The digits of a number, then its last.
value_last : (n : ℕ) (xs : List ℕ) (m : ℕ) → value_from m xs ≡ n / 10 → value_from m (xs ++ (digit (n % 10) ∷ [])) ≡ n
unfolding value_from
value_last n xs m e =
    value-append m xs (digit (n % 10) ∷ [])
    ∙ value-digit (value_from m xs) (n % 10) []
    ∙ omega (arith, e, mod-add-div n 10)

value-numeral : (more n : ℕ) → n < 10 ^ suc more → value_from 0 (numeral_in more n) ≡ n
unfolding value_from
value-numeral = by_digits (λ more n. value_from 0 (numeral_in more n) ≡ n) one next
  where
    one : (more n : ℕ) → n < 10 → value_from 0 (numeral_in more n) ≡ n
    one more n h = ap (value_from 0) (numeral-small more n h) ∙ value-digit 0 n [] ∙ omega arith

    next : (more n : ℕ) → 10 ≤ n → value_from 0 (numeral_in more (n / 10)) ≡ n / 10 → value_from 0 (numeral_in (suc more) n) ≡ n
    next more n h e = ap (value_from 0) (numeral_large more n h) ∙ value_last n (numeral_in more (n / 10)) 0 e

-- The thousandths behind the whole part.
value_thousandths : (n : ℕ) → value_from (n / 1000) (digits 3 n) ≡ n
unfolding digits value_from
value_thousandths n =
    let e : n / 10 / 10 / 10 ≡ n / 1000 = ap (λ (m : ℕ). m / 10) (div-div-eq-div-mul n 10 10) ∙ div-div-eq-div-mul n 100 10 in
    value_last n (digits 2 (n / 10)) (n / 1000) (value_last (n / 10) (digits 1 (n / 10 / 10)) (n / 1000) (value_last (n / 10 / 10) [] (n / 1000) (sym e)))

-- A number begins with a digit.
abbrev Begins : List ℕ → Type 0
Begins xs = (b : ℕ) × (bs : List ℕ) × (xs ≡ b ∷ bs) × (48 ≤ b)

numeral-begins : (more n : ℕ) → n < 10 ^ suc more → Begins (numeral_in more n)
numeral-begins = by_digits (λ more n. Begins (numeral_in more n)) one next
  where
    one : (more n : ℕ) → n < 10 → Begins (numeral_in more n)
    one more n h = (digit n, [], numeral-small more n h, omega arith)

    next : (more n : ℕ) → 10 ≤ n → Begins (numeral_in more (n / 10)) → Begins (numeral_in (suc more) n)
    next more n h (b, bs, e, l) =
        (b, bs ++ (digit (n % 10) ∷ []), numeral_large more n h ∙ ap (λ (xs : List ℕ). xs ++ (digit (n % 10) ∷ [])) e, l)

named-pos : (xs : List ℕ) (n : ℕ) → Begins xs → value_from 0 (ended xs point ++ digits 3 n) ≡ n → named (ended xs point ++ digits 3 n) ≡ pos n
named-pos xs n (b, bs, e, l) v =
    let rest = ended bs point ++ digits 3 n in
    ap (λ (zs : List ℕ). named (ended zs point ++ digits 3 n)) e
    ∙ ap (λ (t : Bool). cond t (neg_ℤ (pos (value_from 0 rest))) (pos (value_from 0 (b ∷ rest)))) (ne_eqb b minus (λ f. absurd (omega (arith, l, f))))
    ∙ ap (λ (zs : List ℕ). pos (value_from 0 (ended zs point ++ digits 3 n))) (sym e)
    ∙ ap pos v

-- The whole part, the point and the thousandths.
module _ (n : ℕ) (h : n < 10 ^ 20) where
  whole_below : n / 1000 < 10 ^ 20
  whole_below = omega (arith, h, div-le_self n 1000)

  value_unsigned : value_from 0 (ended (numeral (n / 1000)) point ++ digits 3 n) ≡ n
  unfolding value_from
  value_unsigned =
      value-append 0 (ended (numeral (n / 1000)) point) (digits 3 n)
      ∙ ap (λ (m : ℕ). value_from m (digits 3 n)) (value-append 0 (numeral (n / 1000)) (point ∷ []) ∙ value-numeral 19 (n / 1000) whole_below)
      ∙ value_thousandths n

pub figure_named : (z : ℤ) → nat_abs z < 10 ^ 20 → named (megabits z) ≡ z
figure_named (pos n) h = named-pos (numeral (n / 1000)) n (numeral-begins 19 (n / 1000) (whole_below n h)) (value_unsigned n h)
figure_named (negsuc n) h = ap (λ (m : ℕ). neg_ℤ (pos m)) (value_unsigned (suc n) h)

pub figures_differ : (x y : ℤ) → nat_abs x < 10 ^ 20 → nat_abs y < 10 ^ 20 → megabits x ≡ megabits y → x ≡ y
figures_differ x y h k e = sym (figure_named x h) ∙ ap named e ∙ figure_named y k

-- ---- How long the text is

pub megabits-short : (z : ℤ) (k : ℕ) → nat_abs z < 10 ^ suc k * 1000 → length (megabits z) ≤ length (sign z) + k + 5
megabits-short z k h =
    let n = nat_abs z in
    let whole = numeral (n / 1000) in
    omega (
      arith,
      length-append (sign z ++ ended whole point) (digits 3 n),
      length-append (sign z) (ended whole point),
      length-append whole (point ∷ []),
      length_digits 3 n,
      numeral-short 19 k (n / 1000) ((div-lt_iff_lt-mul (zero-lt-suc 999)).1 h),
    )

sign-short : (z : ℤ) → length (sign z) ≤ 1
sign-short (pos n) = omega arith
sign-short (negsuc n) = omega arith

-- The longest figure of 64 bits.
abbrev pub longest_figure : ℕ
longest_figure = 21

pub figure_short : (z : ℤ) → nat_abs z ≤ 2 ^ 63 → length (megabits z) ≤ longest_figure
figure_short z h = omega (arith, megabits-short z 15 (omega (arith, h)), sign-short z)

-- A number's digits: how many there are, that they are its last ones, and that they name it.
-- Assumes nothing.
use Rattle.std.specs.Prelude.{ℕ, max, zero, suc, ◌+◌, ◌*◌, ◌/◌, ◌%◌, ◌^◌, ◌≤◌, ◌<◌, ◌≡◌, refl, Bool, true, false, cond, List, [], ◌∷◌, ◌++◌, ltb}
use Rattle.std.proofs.Common.{arith, zero-lt-suc, div-lt_iff_lt-mul, mod-eq_of_lt, pow-suc, subst, ◌∙◌, ltb-true, ltb-false, lt-ltb, le-ltb, length-append}
use Rattle.std.proofs.Math.Path.{sym, ap}
use Rattle.std.proofs.Math.ListN.{length, set, length-set}
use Rattle.std.proofs.Math.Seq.{sets}
use Rattle.std.proofs.lemmas.List.{set_comm}
use Rattle.encoding.specs.StoreLaws.{sets_append}
use Rattle.text.specs.Numeral.{digit, digits, numeral_in, numeral}

-- A list with one entry more.
length_one : (xs : List ℕ) (x : ℕ) → length (xs ++ (x ∷ [])) ≡ suc (length xs)
length_one xs x = omega (arith, length-append xs (x ∷ []))

-- The tenth part has one digit fewer.
pub tenth_below : (k n : ℕ) → n < 10 ^ suc k → n / 10 < 10 ^ k
tenth_below k n h = (div-lt_iff_lt-mul (zero-lt-suc 9)).1 (subst (λ (m : ℕ). n < m) (pow-suc 10 k) h)

-- ---- The two cases of a number

pub numeral-small : (more n : ℕ) → n < 10 → numeral_in more n ≡ digit n ∷ []
unfolding numeral_in
numeral-small zero n h = refl
numeral-small (suc more) n h = ap (λ (b : Bool). cond b (digit n ∷ []) (numeral_in more (n / 10) ++ (digit (n % 10) ∷ []))) (lt-ltb n 10 h)

pub numeral_large : (more n : ℕ) → 10 ≤ n → numeral_in (suc more) n ≡ numeral_in more (n / 10) ++ (digit (n % 10) ∷ [])
unfolding numeral_in
numeral_large more n h = ap (λ (b : Bool). cond b (digit n ∷ []) (numeral_in more (n / 10) ++ (digit (n % 10) ∷ []))) (le-ltb n 10 h)

-- What holds of one digit, and of a number where it holds of its tenth part,
-- holds of a number of at most `more` digits more.
module _ (P : ℕ → ℕ → Type 0) (one : (more n : ℕ) → n < 10 → P more n) (next : (more n : ℕ) → 10 ≤ n → P more (n / 10) → P (suc more) n) where
  pub by_digits : (more n : ℕ) → n < 10 ^ suc more → P more n
  by_digits zero n h = one zero n (omega (arith, h))
  by_digits (suc more) n h = go (by_digits more (n / 10) (tenth_below (suc more) n h)) (ltb n 10) refl
    where
      go : P more (n / 10) → (b : Bool) → ltb n 10 ≡ b → P (suc more) n
      go rest true e = one (suc more) n (ltb-true n 10 e)
      go rest false e = next more n (ltb-false n 10 e) rest

-- ---- A number's digits are its last ones

pub length_digits : (k n : ℕ) → length (digits k n) ≡ k
unfolding digits
length_digits zero n = refl
length_digits (suc k) n = length_one (digits k (n / 10)) _ ∙ ap suc (length_digits k (n / 10))

pub numeral-digits : (more n : ℕ) → n < 10 ^ suc more → digits (length (numeral_in more n)) n ≡ numeral_in more n
unfolding digits
numeral-digits = by_digits (λ more n. digits (length (numeral_in more n)) n ≡ numeral_in more n) one next
  where
    one : (more n : ℕ) → n < 10 → digits (length (numeral_in more n)) n ≡ numeral_in more n
    one more n h =
        ap (λ (xs : List ℕ). digits (length xs) n) (numeral-small more n h)
        ∙ ap (λ (d : ℕ). digit d ∷ []) (mod-eq_of_lt h)
        ∙ sym (numeral-small more n h)

    next : (more n : ℕ) → 10 ≤ n → digits (length (numeral_in more (n / 10))) (n / 10) ≡ numeral_in more (n / 10) → digits (length (numeral_in (suc more) n)) n ≡ numeral_in (suc more) n
    next more n h e =
        ap (λ (xs : List ℕ). digits (length xs) n) (numeral_large more n h)
        ∙ ap (λ (k : ℕ). digits k n) (length_one (numeral_in more (n / 10)) _)
        ∙ ap (λ (xs : List ℕ). xs ++ (digit (n % 10) ∷ [])) e
        ∙ sym (numeral_large more n h)

-- ---- How many digits a number has

pub numeral-short : (more k n : ℕ) → n < 10 ^ suc k → length (numeral_in more n) ≤ suc k
unfolding numeral_in
numeral-short zero k n h = omega arith
numeral-short (suc more) zero n h = omega (arith, ap length (numeral-small (suc more) n (omega (arith, h))))
numeral-short (suc more) (suc k) n h = go (numeral-short more k (n / 10) (tenth_below (suc k) n h)) (ltb n 10) refl
  where
    go : length (numeral_in more (n / 10)) ≤ suc k → (b : Bool) → ltb n 10 ≡ b → length (numeral_in (suc more) n) ≤ suc (suc k)
    go rest true e = omega (arith, ap length (numeral-small (suc more) n (ltb-true n 10 e)))
    go rest false e =
        omega (arith, rest, ap length (numeral_large more n (ltb-false n 10 e)), length_one (numeral_in more (n / 10)) (digit (n % 10)))

power_some : (k : ℕ) → 0 < 10 ^ k
power_some zero = omega arith
power_some (suc k) = omega (arith, pow-suc 10 k, power_some k)

pub numeral-long : (more k n : ℕ) → n < 10 ^ suc more → 10 ^ k ≤ n → k < length (numeral_in more n)
unfolding numeral_in
numeral-long zero zero n h l = omega arith
numeral-long zero (suc k) n h l = absurd (omega (arith, pow-suc 10 k, power_some k))
numeral-long (suc more) zero n h l = go (ltb n 10) refl
  where
    go : (b : Bool) → ltb n 10 ≡ b → 0 < length (numeral_in (suc more) n)
    go true e = omega (arith, ap length (numeral-small (suc more) n (ltb-true n 10 e)))
    go false e = omega (arith, ap length (numeral_large more n (ltb-false n 10 e)), length_one (numeral_in more (n / 10)) (digit (n % 10)))
numeral-long (suc more) (suc k) n h l =
    let e = pow-suc 10 k in
    let rest = numeral-long more k (n / 10) (tenth_below (suc more) n h) (omega (arith, e, l)) in
    omega (arith, rest, ap length (numeral_large more n (omega (arith, e, power_some k, l))), length_one (numeral_in more (n / 10)) (digit (n % 10)))

-- A number has one digit more than the power of 10 that it reaches; 0 has as many as 1.
pub numeral_places : (n k : ℕ) → n < 10 ^ 20 → 10 ^ k ≤ max n 1 → max n 1 < 10 * 10 ^ k → k + 1 ≡ length (numeral n)
numeral_places zero k h l m =
    omega (arith, ap length (numeral-small 19 0 (omega arith)), ap length (numeral-small 19 1 (omega arith)), numeral-long 19 k 1 (omega arith) l)
numeral_places (suc n) k h l m =
    let e : max (suc n) 1 ≡ suc n = omega arith in
    omega (arith, numeral-short 19 k (suc n) (omega (arith, m, e, pow-suc 10 k)), numeral-long 19 k (suc n) h (omega (arith, l, e)))

-- ---- Digits stored from the last to the first

-- A byte stored behind a list that is stored.
set_behind : (xs old : List ℕ) (at j x : ℕ) → at + length xs ≤ j → set (sets old at xs) j x ≡ sets (set old j x) at xs
set_behind [] old at j x l = refl
set_behind (y ∷ ys) old at j x l =
    let other : at ≡ j → ⊥ = λ e. absurd (omega (arith, e, l)) in
    set_behind ys (set old at y) (suc at) j x (omega arith)
    ∙ ap (λ (zs : List ℕ). sets zs (suc at) ys) (set_comm old at j y x other)

-- The last `count` digits of n are being stored in `old` from `at` on: the last k of `rest` are left.
pub record Spelling (old : List ℕ) (at count n : ℕ) (new : List ℕ) (k rest : ℕ) : Type 0 where
  pub kept : length new ≡ length old
  pub few : k ≤ count
  pub is : sets new at (digits k rest) ≡ sets old at (digits count n)

module _ (old : List ℕ) (at count n : ℕ) (new : List ℕ) (rest : ℕ) where
  pub one_spelled : (k j : ℕ) → k ≡ suc j → Spelling old at count n new k rest → Spelling old at count n (set new (at + j) (digit (rest % 10))) j (rest / 10)
  unfolding digits
  one_spelled i k f s =
      let xs = digits k (rest / 10) in
      let d = digit (rest % 10) in
      let e : at + length xs ≡ at + k = ap (λ (m : ℕ). at + m) (length_digits k (rest / 10)) in
      record {
        kept = length-set new (at + k) d ∙ s.kept;
        few = omega (arith, s.few, f);
        is =
            sym (set_behind xs new at (at + k) d (omega (arith, e)))
            ∙ ap (λ (j : ℕ). set (sets new at xs) j d) (sym e)
            ∙ sym (sets_append new at xs (d ∷ []))
            ∙ ap (λ (j : ℕ). sets new at (digits j rest)) (sym f)
            ∙ s.is;
      }

  pub all_spelled : (k : ℕ) → k ≤ 0 → Spelling old at count n new k rest → new ≡ sets old at (digits count n)
  unfolding digits
  all_spelled k h s = let e : 0 ≡ k = omega (arith, h) in ap (λ (j : ℕ). sets new at (digits j rest)) e ∙ s.is

-- Reading undoes writing and writing undoes reading, for a number of any width and for lists of items of any width.
-- Assumes nothing.
use Prim.Native.Nat.{ℕ, zero, suc, ◌+◌, ◌*◌, ◌/◌, ◌%◌, ◌^◌, ◌≤◌, ◌<◌}
use native.Mathlib.Omega.{arith}
use Rattle.std.proofs.Common.{zero-lt-suc, zero-add, div-lt_iff_lt-mul, mod-eq_of_lt, pow-suc, mul-zero, add-one, subst, ◌∙◌, length-drop, take_at, take-add, drop-cons, drop-drop, get_or-drop}
use Rattle.std.proofs.Math.Nat.{mod-add-div, add-mul-div_left, add-mul-mod_self_left, div-eq_of_lt, mul-suc}
use Rattle.std.specs.Prelude.{◌≡◌, drop, get_or}
use Rattle.std.proofs.Math.Path.{refl, sym, ap, ap₂}
use mathlib.Core.List.{List, [], ◌∷◌, ◌++◌, append_assoc}
use Rattle.std.proofs.Math.ListN.{length, take, length-append}
use Rattle.std.proofs.lemmas.List.{drop-append-le, take-append-le}
use Rattle.std.proofs.Math.Seq.{drop-append_seam}
use Rattle.terms.specs.Records.{Each}
use Rattle.encoding.specs.Number.{bytes_of, value_of, number_at, bytes_of_all, items_at}

-- A number has at most w bytes.
abbrev pub Within : ℕ → ℕ → Type 0
Within w n = n < 256 ^ w

-- Each number of a list has at most w bytes. (Past the end of a list `get_or` gives 0.)
pub record Fit (w : ℕ) (ns : List ℕ) : Type 0 where
  pub each : (i : ℕ) → Within w (get_or ns i 0)

abbrev pub Bytes : List ℕ → Type 0
Bytes = Fit 1

pub fit_head : {w n : ℕ} {ns : List ℕ} → Fit w (n ∷ ns) → Within w n
fit_head h = h.each 0

pub fit_tail : {w n : ℕ} {ns : List ℕ} → Fit w (n ∷ ns) → Fit w ns
fit_tail h = record { each = λ i. h.each (suc i) }

pub fit_drop : {w : ℕ} (ns : List ℕ) (k : ℕ) → Fit w ns → Fit w (drop k ns)
fit_drop {w} ns k h = record { each = λ i. subst (Within w) (sym (get_or-drop k ns i 0)) (h.each (k + i)) }

pub length-bytes : (w n : ℕ) → length (bytes_of w n) ≡ w
unfolding bytes_of
length-bytes zero n = refl
length-bytes (suc w) n = ap suc (length-bytes w (n / 256))

-- ---- One number

pub value-bytes : (w n : ℕ) → Within w n → value_of (bytes_of w n) ≡ n
unfolding bytes_of value_of
value-bytes zero n h = omega arith
value-bytes (suc w) n h =
    ap (λ (m : ℕ). n % 256 + 256 * m) (value-bytes w (n / 256) ((div-lt_iff_lt-mul (zero-lt-suc 255)).1 (subst (λ (x : ℕ). n < x) (pow-suc 256 w) h)))
    ∙ mod-add-div n 256

pub bytes-value : (w : ℕ) (bs : List ℕ) → Bytes bs → w ≤ length bs → bytes_of w (value_of (take w bs)) ≡ take w bs
unfolding bytes_of value_of
bytes-value zero bs h l = refl
bytes-value (suc w) [] h l = absurd (omega arith)
bytes-value (suc w) (b ∷ bs) h l =
    let v = value_of (take w bs) in
    let b_lt : b < 256 = fit_head h in
    let low : (b + 256 * v) % 256 ≡ b = add-mul-mod_self_left b 256 v ∙ mod-eq_of_lt b_lt in
    let high : (b + 256 * v) / 256 ≡ v = add-mul-div_left b v (zero-lt-suc 255) ∙ ap (λ (x : ℕ). x + v) (div-eq_of_lt b_lt) ∙ zero-add v in
    ap (λ (x : ℕ). x ∷ bytes_of w ((b + 256 * v) / 256)) low
    ∙ ap (λ (x : ℕ). b ∷ bytes_of w x) high
    ∙ ap (λ (ys : List ℕ). b ∷ ys) (bytes-value w bs (fit_tail h) (omega arith))

-- A number with others before and behind it.
pub number_written : (w n : ℕ) (before after : List ℕ) → Within w n → number_at w (before ++ bytes_of w n ++ after) (length before) ≡ n
number_written w n before after l =
    ap (λ (ys : List ℕ). value_of (take w ys)) (ap (drop (length before)) (append_assoc before (bytes_of w n) after) ∙ drop-append_seam before (bytes_of w n ++ after))
    ∙ ap value_of (take_at (bytes_of w n) after w (length-bytes w n))
    ∙ value-bytes w n l

pub number_read : (w : ℕ) (bs : List ℕ) (at : ℕ) → Bytes bs → at + w ≤ length bs → bytes_of w (number_at w bs at) ≡ take w (drop at bs)
number_read w bs at h l = bytes-value w (drop at bs) (fit_drop bs at h) (omega (arith, length-drop at bs))

-- A number inside the front of some bytes, whatever follows.
pub number_front : (w : ℕ) (bs more : List ℕ) (at : ℕ) → at + w ≤ length bs → number_at w (bs ++ more) at ≡ number_at w bs at
number_front w bs more at l =
    ap (λ (ys : List ℕ). value_of (take w ys)) (drop-append-le at bs more (omega (arith, l)))
    ∙ ap value_of (take-append-le w (drop at bs) more (omega (arith, l, length-drop at bs)))

-- A number by its first byte and the rest.
pub number_next : (w : ℕ) (bs : List ℕ) (at : ℕ) → at < length bs → number_at (suc w) bs at ≡ get_or bs at 0 + 256 * number_at w bs (at + 1)
unfolding value_of
number_next w bs at l =
    ap (λ (ys : List ℕ). value_of (take (suc w) ys)) (drop-cons bs at 0 l)
    ∙ ap (λ (n : ℕ). get_or bs at 0 + 256 * number_at w bs n) (sym (add-one at))

-- ---- Items of one width

-- Each item is Ok where the item at each index is; d stands past the end.
pub each_at : {A : Type 0} (Ok : A → Type 0) (d : A) (xs : List A) → ((i : ℕ) → i < length xs → Ok (get_or xs i d)) → Each Ok xs
each_at Ok d [] h = tt
each_at Ok d (x ∷ xs) h = (h 0 (omega arith), each_at Ok d xs (λ i l. h (suc i) (omega arith)))

pub length_items : {A : Type 0} (read : ℕ → A) (width n at : ℕ) → length (items_at read width n at) ≡ n
unfolding items_at
length_items read width zero at = refl
length_items read width (suc n) at = ap suc (length_items read width n (at + width))

-- One item more, behind the others.
pub items_more : {A : Type 0} (read : ℕ → A) (width n at : ℕ) → items_at read width (n + 1) at ≡ items_at read width n at ++ read (at + width * n) ∷ []
unfolding items_at
items_more {A} read width n at = ap (λ (m : ℕ). items_at read width m at) (add-one n) ∙ go n at
  where
    go : (n at : ℕ) → items_at read width (suc n) at ≡ items_at read width n at ++ read (at + width * n) ∷ []
    go zero at = let e : at ≡ at + width * 0 = omega (arith, mul-zero width) in ap (λ (m : ℕ). read m ∷ []) e
    go (suc n) at =
        let e : at + width + width * n ≡ at + width * suc n = omega (arith, mul-suc width n) in
        ap {B = List A} (λ xs. read at ∷ xs) (go n (at + width) ∙ ap (λ (m : ℕ). items_at read width n (at + width) ++ read m ∷ []) e)

module _ {A : Type 0} (bytes : A → List ℕ) (width : ℕ) where
  module _ (each : (x : A) → length (bytes x) ≡ width) where
    pub length_all : (xs : List A) → length (bytes_of_all bytes xs) ≡ width * length xs
    unfolding bytes_of_all
    length_all [] = omega arith
    length_all (x ∷ xs) =
        let e = length-append (bytes x) (bytes_of_all bytes xs) in
        let f : width * suc (length xs) ≡ width * length xs + width = mul-suc width (length xs) in
        omega (arith, each x, length_all xs)

    -- Items that are read back one by one are read back all.
    module _ (read : List ℕ → ℕ → A) (Ok : A → Type 0)
        (back : (x : A) → Ok x → (before after : List ℕ) → read (before ++ bytes x ++ after) (length before) ≡ x) where
      pub items_written : (xs : List A) → Each Ok xs → (before after : List ℕ)
          → items_at (read (before ++ bytes_of_all bytes xs ++ after)) width (length xs) (length before) ≡ xs
      unfolding bytes_of_all items_at
      items_written [] ok before after = refl
      items_written (x ∷ xs) ok before after =
          let rest = bytes_of_all bytes xs in
          let whole = before ++ bytes x ++ rest ++ after in
          let e : before ++ (bytes x ++ rest) ++ after ≡ whole = ap (λ (ys : List ℕ). ys ++ after) (sym (append_assoc before (bytes x) rest)) in
          let regroup = append_assoc (before ++ bytes x) rest after in
          let first : read whole (length before) ≡ x = ap (λ (ys : List ℕ). read ys (length before)) regroup ∙ back x ok.0 before (rest ++ after) in
          let n : length before + width ≡ length (before ++ bytes x) = ap (λ (m : ℕ). length before + m) (sym (each x)) ∙ sym (length-append before (bytes x)) in
          ap (λ (ys : List ℕ). read ys (length before) ∷ items_at (read ys) width (length xs) (length before + width)) e
          ∙ ap₂ (λ (y : A) (m : ℕ). y ∷ items_at (read whole) width (length xs) m) first n
          ∙ ap (λ (ys : List A). x ∷ ys) (items_written xs ok.1 (before ++ bytes x) after)

  -- Items that are written back one by one are written back all.
  module _ (read : ℕ → A) (bs : List ℕ) (same : (at : ℕ) → at + width ≤ length bs → bytes (read at) ≡ take width (drop at bs)) where
    pub items_read : (n at : ℕ) → at + width * n ≤ length bs → bytes_of_all bytes (items_at read width n at) ≡ take (width * n) (drop at bs)
    unfolding bytes_of_all items_at
    items_read zero at l = ap (λ (m : ℕ). take m (drop at bs)) (sym (mul-zero width))
    items_read (suc n) at l =
        let e : width * suc n ≡ width + width * n = omega (arith, mul-suc width n) in
        ap (λ (ys : List ℕ). ys ++ bytes_of_all bytes (items_at read width n (at + width))) (same at (omega arith))
        ∙ ap (λ (ys : List ℕ). take width (drop at bs) ++ ys) (items_read n (at + width) (omega arith) ∙ ap (take (width * n)) (sym (drop-drop width at bs)))
        ∙ sym (take-add width (width * n) (drop at bs))
        ∙ ap (λ (m : ℕ). take m (drop at bs)) (sym e)

-- ---- Numbers of one width

pub numbers_written : (w : ℕ) (ns : List ℕ) → Each (Within w) ns → (before after : List ℕ)
    → items_at (number_at w (before ++ bytes_of_all (bytes_of w) ns ++ after)) w (length ns) (length before) ≡ ns
numbers_written w = items_written (bytes_of w) w (length-bytes w) (number_at w) (Within w) (λ n l before after. number_written w n before after l)

pub numbers_read : (w : ℕ) (bs : List ℕ) → Bytes bs → (n at : ℕ) → at + w * n ≤ length bs
    → bytes_of_all (bytes_of w) (items_at (number_at w bs) w n at) ≡ take (w * n) (drop at bs)
numbers_read w bs h = items_read (bytes_of w) w (number_at w bs) bs (λ at l. number_read w bs at h l)

pub fit_each : {w : ℕ} (ns : List ℕ) → Fit w ns → Each (Within w) ns
fit_each {w} ns h = each_at (Within w) 0 ns (λ i l. h.each i)

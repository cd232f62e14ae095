-- Storing a list entry by entry: what is left to be stored, stored from the place reached on, gives the whole.
-- Assumes nothing.
use Prim.Native.Nat.{ℕ, suc, ◌+◌, ◌*◌, ◌≤◌, ◌<◌}
use native.Mathlib.Omega.{arith}
use Rattle.std.proofs.Common.{mul-suc, add-one, sym, ◌∙◌, length-set, drop_of_length-le, drop-cons}
use Rattle.std.specs.Prelude.{◌≡◌, refl, List, [], ◌∷◌, ◌++◌, length, drop, get_or, set}
use Rattle.std.proofs.Math.Path.{ap}
use Rattle.std.proofs.lemmas.List.Edits.{sets, sets-eq}
use Rattle.std.proofs.Math.Seq.{length-sets}
use Rattle.encoding.specs.Number.{bytes_of_all}

-- One list stored after another.
pub sets_append : {A : Type 0} (old : List A) (at : ℕ) (xs ys : List A) → sets old at (xs ++ ys) ≡ sets (sets old at xs) (at + length xs) ys
sets_append old at [] ys = let e : at ≡ at + 0 = omega arith in ap (λ (n : ℕ). sets old n ys) e
sets_append old at (x ∷ xs) ys =
    let e : suc at + length xs ≡ at + suc (length xs) = omega arith in
    sets_append (set old at x) (suc at) xs ys ∙ ap (λ (n : ℕ). sets (sets (set old at x) (suc at) xs) n ys) e

-- Two calls that store one list after another have stored both at the front.
pub sets_both : {A : Type 0} (old xs ys new newer : List A) (n : ℕ) → length xs ≡ n → new ≡ sets old 0 xs → newer ≡ sets new n ys → newer ≡ sets old 0 (xs ++ ys)
sets_both old xs ys new newer n l e f =
    let m : n ≡ 0 + length xs = omega (arith, l) in
    f ∙ ap (λ (zs : List _). sets zs n ys) e ∙ ap (λ (k : ℕ). sets (sets old 0 xs) k ys) m ∙ sym (sets_append old 0 xs ys)

-- A list stored at the front.
pub sets_front : {A : Type 0} (xs old : List A) → length xs ≤ length old → sets old 0 xs ≡ xs ++ drop (length xs) old
sets_front xs old l = let e : 0 + length xs ≡ length xs = omega arith in sets-eq xs old 0 (omega arith) ∙ ap (λ (n : ℕ). xs ++ drop n old) e

-- `all` is being stored in `old` from `at` on: `rest` is left, from `next` on.
pub record Storing {A : Type 0} (old : List A) (at : ℕ) (all new : List A) (next : ℕ) (rest : List A) : Type 0 where
  pub same : length new ≡ length old
  pub is : sets new next rest ≡ sets old at all

pub none_stored : {A : Type 0} (old : List A) (at : ℕ) (all : List A) → Storing old at all old at all
none_stored old at all = record { same = refl; is = refl }

module _ {A : Type 0} {old : List A} {at : ℕ} {all new : List A} {next : ℕ} {rest : List A} (s : Storing old at all new next rest) where
  pub one_stored : (x : A) (ys : List A) → rest ≡ x ∷ ys → Storing old at all (set new next x) (next + 1) ys
  one_stored x ys e =
      record {
        same = length-set new next x ∙ s.same;
        is = ap (λ (n : ℕ). sets (set new next x) n ys) (add-one next) ∙ ap (sets new next) (sym e) ∙ s.is;
      }

  pub some_stored : (xs ys new' : List A) (n : ℕ) → length xs ≡ n → rest ≡ xs ++ ys → new' ≡ sets new next xs → Storing old at all new' (next + n) ys
  some_stored xs ys new' n l e f =
      record {
        same = ap length f ∙ length-sets new next xs ∙ s.same;
        is =
            ap (λ (zs : List A). sets zs (next + n) ys) f
            ∙ ap (λ (m : ℕ). sets (sets new next xs) (next + m) ys) (sym l)
            ∙ sym (sets_append new next xs ys)
            ∙ ap (sets new next) (sym e)
            ∙ s.is;
      }

  pub all_stored : rest ≡ [] → new ≡ sets old at all
  all_stored e = ap (sets new next) (sym e) ∙ s.is

-- ---- What is left after i items of a list

-- The next item and those after it; d stands past the end.
pub drop_next : {A : Type 0} (xs : List A) (i : ℕ) (d : A) → i < length xs → drop i xs ≡ get_or xs i d ∷ drop (i + 1) xs
drop_next xs i d l = drop-cons xs i d l ∙ ap (λ (n : ℕ). get_or xs i d ∷ drop n xs) (sym (add-one i))

module _ {A : Type 0} (bytes : A → List ℕ) (xs : List A) (i : ℕ) where
  pub bytes_next : (d : A) → i < length xs → bytes_of_all bytes (drop i xs) ≡ bytes (get_or xs i d) ++ bytes_of_all bytes (drop (i + 1) xs)
  unfolding bytes_of_all
  bytes_next d l = ap (bytes_of_all bytes) (drop_next xs i d l)

  pub bytes_none : length xs ≤ i → bytes_of_all bytes (drop i xs) ≡ []
  unfolding bytes_of_all
  bytes_none l = ap (bytes_of_all bytes) (drop_of_length-le xs l)

-- ---- Items of w bytes stored one by one

-- The items xs are being stored in `old`, which has room for them, from `at` on: those from the i-th on are left.
pub record Putting {A : Type 0} (bytes : A → List ℕ) (w : ℕ) (old : List ℕ) (at : ℕ) (xs : List A) (new : List ℕ) (next i : ℕ) : Type 0 where
  pub room : at + w * length xs ≤ length old
  pub place : next ≡ at + w * i
  pub stored : Storing old at (bytes_of_all bytes xs) new next (bytes_of_all bytes (drop i xs))

module _ {A : Type 0} (bytes : A → List ℕ) (w : ℕ) (old : List ℕ) (at : ℕ) (xs : List A) {new : List ℕ} {next i : ℕ} (p : Putting bytes w old at xs new next i) where
  -- the next item, x; d stands past the end
  pub put_next : (d x : A) → i < length xs → x ≡ get_or xs i d → length (bytes x) ≡ w
      → (new' : List ℕ) → new' ≡ sets new next (bytes x) → Putting bytes w old at xs new' (next + w) (i + 1)
  put_next d x h is each new' e =
      let left = bytes_next bytes xs i d h ∙ ap (λ (y : A). bytes y ++ bytes_of_all bytes (drop (i + 1) xs)) (sym is) in
      record {
        room = p.room;
        place = omega (arith, p.place, mul-suc w i, ap (λ (n : ℕ). w * n) (add-one i));
        stored = some_stored p.stored (bytes x) _ new' w each left e;
      }

  pub put_end : length xs ≤ i → new ≡ sets old at (bytes_of_all bytes xs)
  put_end h = all_stored p.stored (bytes_none bytes xs i h)

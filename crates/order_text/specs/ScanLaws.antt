-- The scan case by case: what each byte does, and how far a step goes on in the lines.
-- Assumes nothing.
use Rattle.std.specs.Prelude.{ℕ, ◌+◌, ◌≤◌, ◌<◌, ◌≡◌, refl, Bool, true, false, cond, List, leb, length, drop, get_or, Option, None, Some}
use Rattle.std.proofs.Common.{arith, sym, subst, ◌∙◌, leb-false, le-leb, drop_of_length-le}
use Rattle.std.proofs.Math.Path.{ap}
use Rattle.std.proofs.lemmas.Bool.{lt-leb}
use Rattle.encoding.specs.StoreLaws.{drop_next}
use Rattle.typed_figures.specs.Decimal.{is_digit, pushed}
use Rattle.typed_figures.specs.Figures.{tariff_figures, limit_of, figures_limit, factor_stands}
use Rattle.order_text.specs.declared.faults.Reason.TheVariants.{Byte, Factor, Many, Few}
use Rattle.order_text.specs.declared.faults.Fault.{Fault}
use Rattle.order_text.specs.Text.{Reading, read, faulty, on_read, then_read, Scan, fault_at, ends_figure, ends_line, passed, with_value, unless_above, with_digit, with_figure, closed, after_byte, scanned, whole_scan, enough, figures_of}

-- ---- What is read, or a fault

pub read-faulty : {A : Type 0} {x : A} {f : Fault} → read x ≡ faulty f → ⊥
read-faulty e = let z : ◌≡◌ {A = ℕ} 0 1 = cc in omega arith

pub same_read : {A : Type 0} {x y : A} → read x ≡ read y → x ≡ y
same_read e = cc

-- What is worked out was worked out from something read.
pub on_read_lem : {A B : Type 0} (f : A → B) (a : Reading A) {y : B} → on_read f a ≡ read y → (x : A) × (a ≡ read x) × (f x ≡ y)
on_read_lem f (read x) e = (x, refl, same_read e)
on_read_lem f (faulty x) e = absurd (read-faulty (sym e))

pub then_read_lem : {A B : Type 0} (a : Reading A) (next : A → Reading B) {y : B} → then_read a next ≡ read y → (x : A) × (a ≡ read x) × (next x ≡ read y)
then_read_lem (read x) next e = (x, refl, e)
then_read_lem (faulty x) next e = absurd (read-faulty (sym e))

-- ---- One byte

module _ (s : Scan) (b : ℕ) where
  pub digit_many : figures_limit ≤ length s.figures → with_digit s b ≡ faulty (fault_at Many s)
  digit_many l = rw (le-leb figures_limit (length s.figures) l)

  pub digit_value : (o : Option ℕ) → length s.figures < figures_limit → pushed (limit_of (length s.figures)) s.value b ≡ o → with_digit s b ≡ unless_above s o
  digit_value o l e = rw (lt-leb figures_limit (length s.figures) l) (ap (unless_above s) e)

module _ (s : Scan) where
  -- The figure that is begun leaves a factor.
  abbrev pub Stands : Bool → Type 0
  Stands t = factor_stands (length s.figures) (get_or s.figures 3 0) s.value ≡ t

  pub closed_idle : s.begun ≡ false → closed s ≡ read s
  closed_idle h = rw h

  pub closed-factor : s.begun ≡ true → Stands false → closed s ≡ faulty (fault_at Factor s)
  closed-factor h k = rw (h, k)

  pub closed_figure : s.begun ≡ true → Stands true → closed s ≡ read (with_figure s)
  closed_figure h k = rw (h, k)

module _ (s : Scan) (b : ℕ) where
  pub after-comment : s.comment ≡ true → after_byte s b ≡ read (passed s b)
  after-comment h = rw h

  module _ (plain : s.comment ≡ false) where
    pub after-digit : is_digit b ≡ true → after_byte s b ≡ with_digit s b
    after-digit h = rw (plain, h)

    module _ (other : is_digit b ≡ false) where
      pub after_end : ends_figure b ≡ true → after_byte s b ≡ on_read (λ t. passed t b) (closed s)
      after_end h = rw (plain, other, h)

      pub after_byte_lem : ends_figure b ≡ false → after_byte s b ≡ faulty (fault_at Byte s)
      after_byte_lem h = rw (plain, other, h)

-- ---- What a step that finds no fault has done

pub data Closes (s : Scan) : Scan → Type 0 where
  idle : Closes s s
  ended : s.begun ≡ true → Stands s true → Closes s (with_figure s)

pub data Goes (s : Scan) (b : ℕ) : Scan → Type 0 where
  inside : (n : ℕ) → length s.figures < figures_limit → pushed (limit_of (length s.figures)) s.value b ≡ Some n → Goes s b (with_value s n)
  past : {t : Scan} → Closes s t → Goes s b (passed t b)

pub closes : (s t : Scan) → closed s ≡ read t → Closes s t
closes s t = go s.begun refl (factor_stands (length s.figures) (get_or s.figures 3 0) s.value) refl
  where
    go : (begun : Bool) → s.begun ≡ begun → (stands : Bool) → Stands s stands
        → cond begun (cond stands (read (with_figure s)) (faulty (fault_at Factor s))) (read s) ≡ read t → Closes s t
    go true h true k e = subst (Closes s) (same_read e) (ended h k)
    go true h false k e = absurd (read-faulty (sym e))
    go false h stands k e = subst (Closes s) (same_read e) idle

goes_inside : (s t : Scan) (b : ℕ) → with_digit s b ≡ read t → Goes s b t
goes_inside s t b = go (leb figures_limit (length s.figures)) refl (pushed (limit_of (length s.figures)) s.value b) refl
  where
    go : (many : Bool) → leb figures_limit (length s.figures) ≡ many → (o : Option ℕ) → pushed (limit_of (length s.figures)) s.value b ≡ o
        → cond many (faulty (fault_at Many s)) (unless_above s o) ≡ read t → Goes s b t
    go true h o k e = absurd (read-faulty (sym e))
    go false h None k e = absurd (read-faulty (sym e))
    go false h (Some n) k e = subst (Goes s b) (same_read e) (inside n (leb-false figures_limit (length s.figures) h) k)

pub goes : (s t : Scan) (b : ℕ) → after_byte s b ≡ read t → Goes s b t
goes s t b = go s.comment (is_digit b) (ends_figure b)
  where
    go : (comment digit end : Bool)
        → cond comment (read (passed s b)) (cond digit (with_digit s b) (cond end (on_read (λ u. passed u b) (closed s)) (faulty (fault_at Byte s)))) ≡ read t → Goes s b t
    go true digit end e = subst (Goes s b) (same_read e) (past idle)
    go false true end e = goes_inside s t b e
    go false false true e = let k = on_read_lem (λ u. passed u b) (closed s) e in subst (Goes s b) k.2 (past (closes s k.0 k.1))
    go false false false e = absurd (read-faulty (sym e))

-- ---- Lines: a step goes on by one at the most

pub closes_line : {s t : Scan} → Closes s t → t.line ≡ s.line
closes_line idle = refl
closes_line (ended h k) = refl

passed-line : (t : Bool) (n : ℕ) → cond t (n + 1) n ≤ n + 1
passed-line true n = omega arith
passed-line false n = omega arith

pub goes_line : {s : Scan} {b : ℕ} {t : Scan} → Goes s b t → t.line ≤ s.line + 1
goes_line (inside n l e) = omega arith
goes_line {b = b} (past {t} c) = omega (arith, closes_line c, passed-line (ends_line t.returned b) t.line)

-- ---- A text, from its i-th byte on

module _ (s : Scan) (text : List ℕ) (i : ℕ) where
  pub scanned_end : length text ≤ i → scanned s (drop i text) ≡ read s
  unfolding scanned
  scanned_end l = ap (scanned s) (drop_of_length-le text l)

  pub scanned_next : (a : Reading Scan) → i < length text → after_byte s (get_or text i 0) ≡ a → scanned s (drop i text) ≡ then_read a (λ t. scanned t (drop (i + 1) text))
  unfolding scanned
  scanned_next a l e = ap (scanned s) (drop_next text i 0 l) ∙ ap (λ (x : Reading Scan). then_read x (λ t. scanned t (drop (i + 1) text))) e

-- ---- The end of the text

module _ (text : List ℕ) where
  pub text_scanned : (a : Reading Scan) → whole_scan text ≡ a → figures_of text ≡ then_read (then_read a closed) enough
  unfolding figures_of
  text_scanned a e = ap (λ (x : Reading Scan). then_read (then_read x closed) enough) e

  pub text_closed : (s : Scan) (a : Reading Scan) → whole_scan text ≡ read s → closed s ≡ a → figures_of text ≡ then_read a enough
  text_closed s a e k = text_scanned (read s) e ∙ ap (λ (x : Reading Scan). then_read x enough) k

pub enough-few : (s : Scan) → length s.figures ≤ tariff_figures → enough s ≡ faulty (fault_at Few s)
enough-few s l = rw (lt-leb (tariff_figures + 1) (length s.figures) (omega arith))

pub enough_all : (s : Scan) → tariff_figures < length s.figures → enough s ≡ read s.figures
enough_all s l = rw (le-leb (tariff_figures + 1) (length s.figures) (omega arith))

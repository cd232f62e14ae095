-- Each step goes on by one byte, and a fault is where it stops: so its place is inside the text, or at its end.
-- Assumes nothing.
use Rattle.std.specs.Prelude.{ℕ, suc, ◌+◌, ◌≤◌, ◌<◌, ◌≡◌, refl, Bool, true, false, cond, ◌&&◌, List, [], ◌∷◌, leb, eqb, length, get_or, Option, None, Some}
use Rattle.std.proofs.Common.{arith, ap, subst, leb-true, leb-false, length-drop}
use Rattle.typed_figures.specs.Decimal.{is_digit, pushed}
use Rattle.typed_figures.specs.Figures.{tariff_figures, limit_of, figures_limit, factor_stands}
use Rattle.order_text.specs.declared.faults.Reason.TheVariants.{Byte, Factor, Many, Few}
use Rattle.order_text.specs.declared.faults.Fault.{Fault}
use Rattle.order_text.specs.Text.{Reading, read, faulty, on_read, then_read, mark_length, unmarked, Scan, started, fault_at, ends_figure, passed, with_figure, unless_above, with_digit, closed, after_byte, scanned, whole_scan, enough, figures_of}
use Rattle.order_text.specs.WordLaws.{short-unmarked}

-- What is read has come to n, and a fault is at m.
abbrev pub At : ℕ → ℕ → Reading Scan → Type 0
At n m (read t) = t.place ≡ n
At n m (faulty x) = x.place ≡ m

-- ---- One step

module _ (s : Scan) where
  pub closed_at : At s.place s.place (closed s)
  closed_at = go s.begun (factor_stands (length s.figures) (get_or s.figures 3 0) s.value)
    where
      go : (begun stands : Bool) → At s.place s.place (cond begun (cond stands (read (with_figure s)) (faulty (fault_at Factor s))) (read s))
      go true true = refl
      go true false = refl
      go false stands = refl

  module _ (b : ℕ) where
    digit_at : At (s.place + 1) s.place (with_digit s b)
    digit_at = go (leb figures_limit (length s.figures)) (pushed (limit_of (length s.figures)) s.value b)
      where
        go : (many : Bool) (o : Option ℕ) → At (s.place + 1) s.place (cond many (faulty (fault_at Many s)) (unless_above s o))
        go true o = refl
        go false None = refl
        go false (Some n) = refl

    passed-at : (a : Reading Scan) → At s.place s.place a → At (s.place + 1) s.place (on_read (λ t. passed t b) a)
    passed-at (read t) e = ap (λ (n : ℕ). n + 1) e
    passed-at (faulty x) e = e

    pub after-at : At (s.place + 1) s.place (after_byte s b)
    after-at = go s.comment (is_digit b) (ends_figure b) digit_at (passed-at (closed s) closed_at)
      where
        go : (comment digit end : Bool) → At (s.place + 1) s.place (with_digit s b) → At (s.place + 1) s.place (on_read (λ t. passed t b) (closed s))
            → At (s.place + 1) s.place (cond comment (read (passed s b)) (cond digit (with_digit s b) (cond end (on_read (λ t. passed t b) (closed s)) (faulty (fault_at Byte s)))))
        go true digit end d e = refl
        go false true end d e = d
        go false false true d e = e
        go false false false d e = refl

-- ---- The whole text

-- What is read has come to n, and a fault is before that.
abbrev Within : ℕ → Reading Scan → Type 0
Within n (read t) = t.place ≡ n
Within n (faulty x) = x.place < n

scanned-within : (s : Scan) (bs : List ℕ) → Within (s.place + length bs) (scanned s bs)
unfolding scanned
scanned-within s [] = omega arith
scanned-within s (b ∷ bs) = go (after_byte s b) (after-at s b) (λ t. scanned-within t bs)
  where
    go : (a : Reading Scan) → At (s.place + 1) s.place a → ((t : Scan) → Within (t.place + length bs) (scanned t bs))
        → Within (s.place + suc (length bs)) (then_read a (λ t. scanned t bs))
    go (read t) e next =
        let l : t.place + length bs ≡ s.place + suc (length bs) = omega (arith, e) in
        subst (λ (n : ℕ). Within n (scanned t bs)) l (next t)
    go (faulty x) e next = omega (arith, e)

mark_few : (t : Bool) → cond t 3 0 ≤ 3
mark_few true = omega arith
mark_few false = omega arith

mark_inside : (text : List ℕ) → mark_length text ≤ length text
mark_inside text = go (leb 3 (length text)) refl
  where
    go : (t : Bool) → leb 3 (length text) ≡ t → mark_length text ≤ length text
    go true h = omega (arith, leb-true 3 (length text) h, mark_few (eqb (get_or text 0 0) 239 && eqb (get_or text 1 0) 187 && eqb (get_or text 2 0) 191))
    go false h = omega (arith, short-unmarked text (leb-false 3 (length text) h))

-- … or at the end, where something is missing.
abbrev Inside : ℕ → Reading (List ℕ) → Type 0
Inside n (read ns) = Unit {0}
Inside n (faulty x) = x.place ≤ n

enough-inside : (s : Scan) → Inside s.place (enough s)
enough-inside s = go (leb (tariff_figures + 1) (length s.figures))
  where
    go : (t : Bool) → Inside s.place (cond t (read s.figures) (faulty (fault_at Few s)))
    go true = tt
    go false = omega arith

closed-inside : (a : Reading Scan) (n : ℕ) → At n n a → Inside n (then_read a enough)
closed-inside (read t) n e = subst (λ (m : ℕ). Inside m (enough t)) e (enough-inside t)
closed-inside (faulty x) n e = omega (arith, e)

scan_inside : (a : Reading Scan) (n : ℕ) → Within n a → Inside n (then_read (then_read a closed) enough)
scan_inside (read t) n e = closed-inside (closed t) n (subst (λ (m : ℕ). At m m (closed t)) e (closed_at t))
scan_inside (faulty x) n l = omega (arith, l)

pub fault_inside : (text : List ℕ) (x : Fault) → figures_of text ≡ faulty x → x.place ≤ length text
unfolding figures_of
fault_inside text x e =
    let m = mark_length text in
    let l : m + length (unmarked text) ≡ length text = omega (arith, length-drop m text, mark_inside text) in
    let w = subst (λ (n : ℕ). Within n (whole_scan text)) l (scanned-within (started m) (unmarked text)) in
    subst (Inside (length text)) e (scan_inside (whole_scan text) (length text) w)

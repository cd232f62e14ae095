-- The code's steps on a cursor and a list are the definition's on the scan that these hold.
-- Assumes nothing.
use Rattle.std.specs.Prelude.{ℕ, ◌+◌, ◌≤◌, ◌<◌, ◌≡◌, refl, Bool, true, false, List, [], ◌∷◌, ◌++◌, eqb, length, take, drop, get_or, set}
use Rattle.std.proofs.Common.{arith, add-one, sym, ap, subst, ◌∙◌, eqb-true, length-take-le, take-suc-set, get_or-take}
use Rattle.typed_figures.specs.Figures.{figures_limit, factor_stands}
use Rattle.order_text.specs.declared.faults.Fault.{Fault}
use Rattle.order_text.specs.declared.scan.Cursor.{Cursor}
use Rattle.order_text.specs.Text.{read, faulty, closed, after_byte, scanned, whole_scan}
use Rattle.order_text.specs.ScanLaws.{closed_figure, goes, goes_line, scanned_next, scanned_end}
use Rattle.order_text.specs.PlaceLaws.{At, after-at}
use Rattle.order_text.specs.Cursors.{scan_of, Fits}

pub count-is : (c : Cursor) (xs : List ℕ) → Fits c → length xs ≡ figures_limit → length (take c.count xs) ≡ c.count
count-is c xs f l = length-take-le c.count xs (omega (arith, f.few, l))

-- ---- A figure stored

abbrev with_count : Cursor → Cursor
with_count c = record { line = c.line; place = c.place; returned = c.returned; comment = c.comment; begun = false; value = 0; count = c.count + 1 }

module _ (c : Cursor) (xs : List ℕ) (f : Fits c) (l : length xs ≡ figures_limit) where
  -- p is among the figures read where q ends.
  factor-same : factor_stands c.count (get_or xs 3 0) c.value ≡ factor_stands (length (take c.count xs)) (get_or (take c.count xs) 3 0) c.value
  factor-same = go (eqb c.count 4) refl ∙ ap (λ (n : ℕ). factor_stands n (get_or (take c.count xs) 3 0) c.value) (sym (count-is c xs f l))
    where
      go : (t : Bool) → eqb c.count 4 ≡ t → factor_stands c.count (get_or xs 3 0) c.value ≡ factor_stands c.count (get_or (take c.count xs) 3 0) c.value
      go false e = rw e
      go true e =
          let m = eqb-true c.count 4 e in
          ap (λ (p : ℕ). factor_stands c.count p c.value) (sym (get_or-take c.count xs 3 0 (omega (arith, m))))

  pub close_figure : c.begun ≡ true → factor_stands c.count (get_or xs 3 0) c.value ≡ true
      → read (scan_of (with_count c) (set xs c.count c.value)) ≡ closed (scan_of c xs)
  close_figure begun h =
      let e : take (c.count + 1) (set xs c.count c.value) ≡ take c.count xs ++ c.value ∷ [] =
      ap (λ (n : ℕ). take n (set xs c.count c.value)) (add-one c.count) ∙ take-suc-set xs c.count c.value (omega (arith, f.room begun, l)) in
      ap (λ (ns : List ℕ). read (record { line = c.line; place = c.place; returned = c.returned; comment = c.comment; begun = false; value = 0; figures = ns })) e
      ∙ sym (closed_figure (scan_of c xs) begun (sym factor-same ∙ h))

-- ---- The whole text

-- i bytes are scanned, the mark's among them: what is left of the text gives what the whole gives.
pub record Scanning (text xs : List ℕ) (c : Cursor) (i : ℕ) : Type 0 where
  pub left : scanned (scan_of c xs) (drop i text) ≡ whole_scan text
  pub fits : Fits c
  pub lines : c.line ≤ i + 1
  pub place : c.place ≡ i
  pub same : length xs ≡ figures_limit

module _ {text xs : List ℕ} {c : Cursor} {i : ℕ} (s : Scanning text xs c i) where
  -- A step from there.
  module _ (l : i < length text) where
    pub scan_next : (xs' : List ℕ) (d : Cursor) → read (scan_of d xs') ≡ after_byte (scan_of c xs) (get_or text i 0) → Fits d → length xs' ≡ length xs → Scanning text xs' d (i + 1)
    scan_next xs' d e f m =
        let p = subst (At (c.place + 1) c.place) (sym e) (after-at (scan_of c xs) (get_or text i 0)) in
        record {
          left = sym (scanned_next (scan_of c xs) text i _ l (sym e)) ∙ s.left;
          fits = f;
          lines = omega (arith, s.lines, goes_line (goes (scan_of c xs) (scan_of d xs') (get_or text i 0) (sym e)));
          place = omega (arith, s.place, p);
          same = m ∙ s.same;
        }

    pub scan_fault : (x : Fault) → faulty x ≡ after_byte (scan_of c xs) (get_or text i 0) → faulty x ≡ whole_scan text
    scan_fault x e = sym (scanned_next (scan_of c xs) text i _ l (sym e)) ∙ s.left

  pub scan_end : length text ≤ i → read (scan_of c xs) ≡ whole_scan text
  scan_end l = sym (scanned_end (scan_of c xs) text i l) ∙ s.left

-- How the code holds a scan: a cursor, and the figures read at the front of a list.
-- Assumes nothing.
use Rattle.std.specs.Prelude.{ℕ, ◌≤◌, ◌<◌, ◌≡◌, true, List, length, take, Result, Ok, Err}
use Rattle.typed_figures.specs.Figures.{figures_limit}
use Rattle.order_text.specs.declared.faults.Fault.{Fault}
use Rattle.order_text.specs.declared.scan.Cursor.{Cursor}
use Rattle.order_text.specs.Text.{Reading, read, faulty, Scan, passed}

abbrev pub scan_of : Cursor → List ℕ → Scan
scan_of c xs =
    record {
      line = c.line;
      place = c.place;
      returned = c.returned;
      comment = c.comment;
      begun = c.begun;
      value = c.value;
      figures = take c.count xs;
    }

-- What a step of the scan gives: where it has come to, or a fault.
abbrev pub Step : Type 0
Step = Result Cursor Fault

abbrev pub step_says : Result Cursor Fault → List ℕ → Reading Scan
step_says (Ok c) xs = read (scan_of c xs)
step_says (Err x) xs = faulty x

-- The figures read, with the one that is begun, are as many as an order has at the most.
pub record Fits (c : Cursor) : Type 0 where
  pub few : c.count ≤ figures_limit
  pub room : c.begun ≡ true → c.count < figures_limit

abbrev pub StepFits : Result Cursor Fault → Type 0
StepFits (Ok c) = Fits c
StepFits (Err x) = Unit {0}

-- The line and the place have others after them among the numbers of 64 bits.
pub record Ahead (c : Cursor) : Type 0 where
  pub lines : c.line < 18446744073709551615
  pub places : c.place < 18446744073709551615

-- A step from c that stores nothing: whatever the figures read, it is the definition's.
pub record Steps (step : Scan → Reading Scan) (c : Cursor) (r : Step) : Type 0 where
  pub says : (xs : List ℕ) → length xs ≡ figures_limit → step_says r xs ≡ step (scan_of c xs)
  pub fits : StepFits r

-- From c past a byte that belongs to no figure.
pub record Passes (b : ℕ) (c d : Cursor) : Type 0 where
  pub says : (xs : List ℕ) → scan_of d xs ≡ passed (scan_of c xs) b
  pub fits : Fits c → Fits d

-- An order typed as text: the scan of its bytes, its figures, the word around a place, and the order file.
-- Assumes nothing.
use Rattle.std.specs.Prelude.{ℕ, zero, suc, ◌+◌, min, Bool, true, false, cond, not, ◌&&◌, ◌||◌, List, [], ◌∷◌, ◌++◌, leb, eqb, length, take, drop, get_or, Option, None, Some, Result, Ok, Err}
use Rattle.terms.specs.Answer.{Answer, figures, refused}
use Rattle.terms.specs.Refusals.{number_of}
use Rattle.encoding.specs.Number.{bytes_of_all}
use Rattle.order_file.specs.Order.{write_order}
use Rattle.text.specs.Numeral.{numeral, ended}
use Rattle.text.specs.Lines.{newline}
use Rattle.typed_figures.specs.Decimal.{is_digit, pushed}
use Rattle.typed_figures.specs.Figures.{demands_of, factor_stands, figures_limit, limit_of, tariff_figures, tariff_of}
use Rattle.order_text.specs.declared.faults.Reason.{Reason}
use Rattle.order_text.specs.declared.faults.Reason.TheVariants.{Byte, Above, Factor, Many, Few}
use Rattle.order_text.specs.declared.faults.Fault.{Fault}
use Rattle.order_text.specs.declared.faults.TextError.{TextError}
use Rattle.order_text.specs.declared.faults.TextError.TheVariants.{Faulty, Refused}

-- What a text gives, or its first fault.
pub data Reading (A : Type 0) : Type 0 where
  read : A → Reading A
  faulty : Fault → Reading A

-- Something else worked out from what is read; a fault stays.
abbrev pub on_read : {A B : Type 0} → (A → B) → Reading A → Reading B
on_read f (read x) = read (f x)
on_read f (faulty x) = faulty x

-- Reading goes on from what is read; a fault stays.
abbrev pub then_read : {A B : Type 0} → Reading A → (A → Reading B) → Reading B
then_read (read x) next = next x
then_read (faulty x) next = faulty x

-- ---- The bytes of a text

-- The length of the byte order mark of UTF-8 where a text begins with it; else 0.
abbrev pub mark_length : List ℕ → ℕ
mark_length text = cond (eqb (get_or text 0 0) 239 && eqb (get_or text 1 0) 187 && eqb (get_or text 2 0) 191) 3 0

-- A text is read from behind its mark.
abbrev pub unmarked : List ℕ → List ℕ
unmarked text = drop (mark_length text) text

abbrev pub carriage_return : ℕ
carriage_return = 13

abbrev pub hash : ℕ
hash = 35

-- What may stand right behind a figure: a space, a tab, a carriage return, a newline, the # of a comment.
abbrev pub ends_figure : ℕ → Bool
ends_figure b = eqb b 32 || eqb b 9 || eqb b carriage_return || eqb b newline || eqb b hash

-- What ends a line: a carriage return, and a newline that does not stand right behind one.
abbrev pub ends_line : Bool → ℕ → Bool
ends_line returned b = eqb b carriage_return || (eqb b newline && not returned)

-- ---- The scan

-- What the scan of a text has come to.
pub record Scan : Type 0 where
  -- the line that it is on, from 1
  pub line : ℕ
  -- how many bytes of the text are before it, those of the mark among them
  pub place : ℕ
  -- whether the last of them is a carriage return
  pub returned : Bool
  -- whether a comment is open
  pub comment : Bool
  -- whether a figure is begun, and what its digits come to; 0 where none is
  pub begun : Bool
  pub value : ℕ
  -- the figures that are read, first to last
  pub figures : List ℕ

-- The scan of a text from a place on.
abbrev pub started : ℕ → Scan
started place = record { line = 1; place = place; returned = false; comment = false; begun = false; value = 0; figures = [] }

-- A fault here is about the figure that is begun or due.
abbrev pub fault_at : Reason → Scan → Fault
fault_at reason s = record { line = s.line; place = s.place; figure = length s.figures; reason = reason }

-- Past a byte that belongs to no figure: a line ends with its comment, a # opens one.
abbrev pub passed : Scan → ℕ → Scan
passed s b =
    let ends = ends_line s.returned b in
    record {
      line = cond ends (s.line + 1) s.line;
      place = s.place + 1;
      returned = eqb b carriage_return;
      comment = not ends && (s.comment || eqb b hash);
      begun = s.begun;
      value = s.value;
      figures = s.figures;
    }

-- Past a digit: the figure that is begun comes to n.
abbrev pub with_value : Scan → ℕ → Scan
with_value s n =
    record { line = s.line; place = s.place + 1; returned = false; comment = s.comment; begun = true; value = n; figures = s.figures }

abbrev pub unless_above : Scan → Option ℕ → Reading Scan
unless_above s None = faulty (fault_at Above s)
unless_above s (Some n) = read (with_value s n)

-- A digit goes to the figure that is begun, or begins one.
abbrev pub with_digit : Scan → ℕ → Reading Scan
with_digit s b =
    let index = length s.figures in
    cond (leb figures_limit index) (faulty (fault_at Many s)) (unless_above s (pushed (limit_of index) s.value b))

-- The figure that is begun goes behind those that are read.
abbrev pub with_figure : Scan → Scan
with_figure s =
    record {
      line = s.line;
      place = s.place;
      returned = s.returned;
      comment = s.comment;
      begun = false;
      value = 0;
      figures = s.figures ++ s.value ∷ [];
    }

-- The figure that is begun, if one is, ends.
abbrev pub closed : Scan → Reading Scan
closed s =
    let stands = factor_stands (length s.figures) (get_or s.figures 3 0) s.value in
    cond s.begun (cond stands (read (with_figure s)) (faulty (fault_at Factor s))) (read s)

-- One byte more: a comment passes over it; else a digit goes to a figure, what may stand behind a figure ends one that
-- is begun, and any other byte is a fault.
abbrev pub after_byte : Scan → ℕ → Reading Scan
after_byte s b =
    cond s.comment (read (passed s b))
    (cond (is_digit b) (with_digit s b)
    (cond (ends_figure b) (on_read (λ t. passed t b) (closed s))
    (faulty (fault_at Byte s))))

unfoldable pub scanned : Scan → List ℕ → Reading Scan
scanned s [] = read s
scanned s (b ∷ bs) = then_read (after_byte s b) (λ t. scanned t bs)

-- A text from behind its mark to its end.
abbrev pub whole_scan : List ℕ → Reading Scan
whole_scan text = scanned (started (mark_length text)) (unmarked text)

-- The seven figures of the tariff and at least one demand. A text that ends with a line end ends on the line after it.
abbrev pub enough : Scan → Reading (List ℕ)
enough s = cond (leb (tariff_figures + 1) (length s.figures)) (read s.figures) (faulty (fault_at Few s))

-- The figures of a text; its end ends a figure that is begun.
unfoldable pub figures_of : List ℕ → Reading (List ℕ)
figures_of text = then_read (then_read (whole_scan text) closed) enough

-- The plain text of figures: the digits of each, and a newline.
abbrev pub plain_text : List ℕ → List ℕ
plain_text ns = bytes_of_all (λ n. ended (numeral n) newline) ns

-- ---- The word around a place

-- Where it begins: behind the last byte before the place that ends a figure, behind the mark, or where the text does.
unfoldable pub word_start : List ℕ → ℕ → ℕ
word_start text zero = 0
word_start text (suc n) = cond (eqb (suc n) (mark_length text) || ends_figure (get_or text n 0)) (suc n) (word_start text n)

-- How many bytes stand before the first that ends a figure.
unfoldable pub word_length : List ℕ → ℕ
word_length [] = 0
word_length (b ∷ bs) = cond (ends_figure b) 0 (1 + word_length bs)

-- The word around a place of the text, or around its end where the place is behind that.
abbrev pub word_around : List ℕ → ℕ → List ℕ
word_around text place =
    let rest = drop (word_start text (min place (length text))) text in
    take (word_length rest) rest

-- ---- The order

-- The order file of figures, for lent bytes of this room.
abbrev pub write_figures : ℕ → List ℕ → Answer (List ℕ)
write_figures room ns = write_order room (tariff_of ns) (demands_of ns)

-- … and of a text.
abbrev pub file_of : ℕ → List ℕ → Reading (Answer (List ℕ))
file_of room text = on_read (write_figures room) (figures_of text)

-- Document 01's number of a fault ("Refusals by number"): 3 for more or fewer demands than a trace has, 5 for any other
-- fault of a figure.
abbrev pub reason_number : Reason → ℕ
reason_number Byte = 5
reason_number Above = 5
reason_number Factor = 5
reason_number Many = 3
reason_number Few = 3

-- What a text gives in document 01's terms: a fault is the refusal by its number.
abbrev pub numbered : {A : Type 0} → Reading (Answer A) → Answer A
numbered (read a) = a
numbered (faulty x) = refused (reason_number x.reason)

abbrev pub order_of : ℕ → List ℕ → Answer (List ℕ)
order_of room text = numbered (file_of room text)

-- ---- The answer's cases

-- … with the whole fault;
abbrev pub text_says : Result ℕ TextError → Reading (Answer ℕ)
text_says (Ok n) = read (figures n)
text_says (Err (Faulty x)) = faulty x
text_says (Err (Refused x)) = read (refused (number_of x))

-- … and in document 01's values and numbers.
abbrev pub answered_by : Result ℕ TextError → Answer ℕ
answered_by r = numbered (text_says r)

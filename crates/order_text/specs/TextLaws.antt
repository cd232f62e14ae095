-- What a text gives in lent bytes: nothing on a fault, and else the order file of its figures, which reads back as them
-- and is refused only for want of bytes.
-- Assumes nothing.
use Rattle.std.specs.Prelude.{ℕ, ◌≤◌, ◌≡◌, refl, Bool, true, false, List, leb, length, take, drop}
use Rattle.std.proofs.Common.{arith, sym, ap, ap₂, ◌∙◌, leb-true, leb-false, take_at}
use Rattle.std.proofs.lemmas.List.Edits.{sets}
use Rattle.terms.specs.declared.Tariff.{Tariff}
use Rattle.terms.specs.Answer.{Answer, figures, refused, on_figures}
use Rattle.terms.specs.AnswerLaws.{figures-refused, same-figures, same_refusal, on_figures_lem}
use Rattle.terms.specs.Lent.{filled}
use Rattle.encoding.specs.StoreLaws.{sets_front}
use Rattle.order_file.specs.Order.{order_length, write_order}
use Rattle.order_file.specs.OrderLaws.{ReadsBack, write_read}
use Rattle.order_file.specs.OrderRules.{length-order}
use Rattle.typed_figures.specs.Figures.{tariff_of, demands_of}
use Rattle.order_text.specs.Text.{read, on_read, figures_of, write_figures, file_of}
use Rattle.order_text.specs.ScanLaws.{on_read_lem}
use Rattle.order_text.specs.FigureLaws.{Figures, text_figures, demands_fit, figures-written, figures-short}

-- Demands that are copied to the front of a list are its front.
pub copied_front : (xs old new : List ℕ) (n : ℕ) → n ≡ length xs → length xs ≤ length old → new ≡ sets old 0 xs → take n new ≡ xs
copied_front xs old new n l room e = ap (take n) (e ∙ sets_front xs old room) ∙ take_at xs (drop (length xs) old) n (sym l)

-- The order of these figures, written with what equals its tariff and its demands.
pub order-written : (ns old : List ℕ) (t : Tariff) (ds : List ℕ) (r : Answer ℕ) (new : List ℕ) → t ≡ tariff_of ns → ds ≡ demands_of ns
    → r ≡ on_figures length (write_order (length old) t ds) → new ≡ filled (write_order (length old) t ds) old
    → (r ≡ on_figures length (write_figures (length old) ns)) × (new ≡ filled (write_figures (length old) ns) old)
order-written ns old t ds r new et ed er e =
    let same = ap₂ (λ (u : Tariff) (xs : List ℕ). write_order (length old) u xs) et ed in
    (er ∙ ap (on_figures length) same, e ∙ ap (λ (a : Answer (List ℕ)). filled a old) same)

-- ---- The file of a text

-- A file that is written reads back as the figures of the text.
pub text_read-back : (room : ℕ) (text bs : List ℕ) → file_of room text ≡ read (figures bs) → (ns : List ℕ) × (figures_of text ≡ read ns) × ReadsBack (tariff_of ns) (demands_of ns) bs
text_read-back room text bs e =
    let a = on_read_lem (write_figures room) (figures_of text) e in
    (a.0, a.1, write_read room (tariff_of a.0) (demands_of a.0) bs (demands_fit a.0 (text_figures text a.0 a.1)) a.2)

-- What is written lies inside the bytes.
pub written-inside : (room n : ℕ) (text : List ℕ) → read (figures n) ≡ on_read (on_figures length) (file_of room text) → n ≤ room
written-inside room n text e =
    let a = on_read_lem (on_figures length) (file_of room text) (sym e) in
    let b = on_figures_lem length a.0 a.2 in
    let c = on_read_lem (write_figures room) (figures_of text) a.1 in
    let f = text_figures text c.0 c.1 in
    omega (arith, go c.0 f b.0 (c.2 ∙ b.1) (leb (order_length (length (demands_of c.0))) room) refl, b.2)
  where
    go : (ns : List ℕ) → Figures ns → (bs : List ℕ) → write_figures room ns ≡ figures bs
        → (t : Bool) → leb (order_length (length (demands_of ns))) room ≡ t → length bs ≤ room
    go ns f bs k true h =
        let l = leb-true (order_length (length (demands_of ns))) room h in
        let e = same-figures (sym (figures-written ns f room l) ∙ k) in
        omega (arith, ap length e, length-order (length (demands_of ns)) (tariff_of ns) (demands_of ns))
    go ns f bs k false h = absurd (figures-refused (sym k ∙ figures-short ns f room (leb-false _ _ h)))

-- A text that has no fault is refused only where the bytes are fewer than the file, by number 6.
pub text_refused : (room n : ℕ) (text : List ℕ) → file_of room text ≡ read (refused n) → n ≡ 6
text_refused room n text e =
    let a = on_read_lem (write_figures room) (figures_of text) e in
    let f = text_figures text a.0 a.1 in
    let size = order_length (length (demands_of a.0)) in
    go a.0 f a.2 (leb size room) refl
  where
    go : (ns : List ℕ) → Figures ns → write_figures room ns ≡ refused n → (t : Bool) → leb (order_length (length (demands_of ns))) room ≡ t → n ≡ 6
    go ns f k true h = absurd (figures-refused (sym (figures-written ns f room (leb-true _ _ h)) ∙ k))
    go ns f k false h = same_refusal (sym k ∙ figures-short ns f room (leb-false _ _ h))

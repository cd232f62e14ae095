-- The line's length is weighed first, and then the line is stored in the lent text itself.
use Prim.Native.Nat.{ℕ, ◌+◌}
use native.Mathlib.Omega.{arith}
use mathlib.Core.Path.{◌≡◌}
use lib.ListN.{length}
use Rattle.terms.specs.Refusals.{number_of}
use Rattle.terms.specs.declared.refusal.Refusal.{Refusal}
use Rattle.text.specs.Lines.{refusal_line}
use Rattle.text.specs.Numeral.{numeral}
use Rattle.text.specs.LineLaws.{refusal_length, refusals_short}
use Rattle.text.specs.FittedLaws.{put_fills}
use Rattle.text.proofs.texts.refusal_line.Goals as goal

weighed : (why : Refusal) (number count : ℕ) → number ≡ number_of why → count ≡ length (numeral number) → 9 + count ≡ length (refusal_line (number_of why))
weighed why number count e f = rw (← e) (omega (arith, f, refusal_length number))

pub overflow_add-places : goal.overflow_add-places
overflow_add-places c =
    omega (arith, weighed c.args.why _ _ c.from-number.ensures c.places.ensures, refusals_short c.args.why)

pub returns : goal.returns
returns c =
    let s = c.args in
    let fits = weighed s.why _ _ c.from-number.ensures c.places.ensures in
    let all = put_fills (refusal_line (number_of s.why)) s.text.now (omega (arith, fits, c.if-text-places.false)) _ _
    (rw c.from-number.ensures at c.put_refusal_line.ensures) in
    record { result_value = all.0; text_after = all.1 }

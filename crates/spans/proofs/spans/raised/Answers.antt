-- The library's quotient rounded up is the first rate at which the line holds.
use mathlib.Core.Path.{◌≡◌, ◌∙◌}
use Prim.Native.Nat.{◌-◌}
use Rattle.depth.specs.Walk.{ceiling}
use Rattle.depth.specs.CeilingLaws.{div_ceil-is}
use Rattle.spans.specs.SpanLaws.{raised_first, raised_some}
use Rattle.spans.proofs.spans.raised.Goals as goal

pub returns : goal.returns
unfolding ceiling
returns c =
    let a = c.args in
    let some = raised_some a.b a.c a.e a.span c.requires.span_range c.if-b-c.false c.if-c-e.false in
    let first : c.div_ceil-first.result ≡ ceiling (a.b - a.c) a.e =
    c.div_ceil-first.ensures ∙ div_ceil-is (a.b - a.c) a.e some in
    rw first (raised_first a.b a.c a.e a.span c.requires.span_range c.if-b-c.false c.if-c-e.false)

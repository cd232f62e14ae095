-- What offers that are left make of a record: the next one and those after it, or nothing more.
use Prim.Native.Nat.{ℕ, ◌+◌, ◌≤◌, ◌<◌}
use native.Mathlib.Numerals.{add-one}
use mathlib.Core.Path.{◌≡◌, sym, ap, ◌∙◌}
use mathlib.Core.List.{List, ◌∷◌}
use lib.ListN.{length, drop, get_or, drop_of_length-le}
use lib.Seq.{drop-cons}
use Rattle.terms.specs.Answer.{figures, and_then}
use Rattle.meter.specs.declared.meters.Meter.{Meter}
use Rattle.meter.specs.Meter.{record_after, offer_of, offers_of}

module _ (m : Meter) (ds : List ℕ) (i : ℕ) where
  pub offers_next : i < length ds → offers_of m (drop i ds) ≡ and_then (offer_of m (get_or ds i 0)) (λ x. offers_of (record_after m (figures x)) (drop (i + 1) ds))
  unfolding offers_of
  offers_next l = ap (offers_of m) (drop-cons ds i 0 l ∙ ap (λ (n : ℕ). get_or ds i 0 ∷ drop n ds) (sym (add-one i)))

  pub offers_none : length ds ≤ i → offers_of m (drop i ds) ≡ figures m
  unfolding offers_of
  offers_none l = ap (offers_of m) (drop_of_length-le ds l)

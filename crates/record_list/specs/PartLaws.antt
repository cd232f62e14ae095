-- Records gone through in order, beside a trace that their runs make up: which are left, where a run's part of the
-- trace begins, and that it is inside the trace.
-- Assumes nothing.
use Rattle.std.specs.Prelude.{ℕ, ◌+◌, ◌-◌, ◌≤◌, ◌<◌, ◌≡◌, List, [], ◌∷◌, length, take, drop, get_or}
use Rattle.std.proofs.Common.{arith, zero-add, add-one, sym, ◌∙◌, drop-cons, drop_of_length-le}
use Rattle.std.proofs.Math.Path.{ap}
use Rattle.terms.specs.Records.{Cutting, run_length, total}
use Rattle.record_list.specs.Held.{no_record}

module _ (records : Cutting) where
  -- The record that is next and those after it, or none.
  pub rest_next : (i : ℕ) → i < length records → drop i records ≡ get_or records i no_record ∷ drop (i + 1) records
  rest_next i l = drop-cons records i no_record l ∙ ap (λ (n : ℕ). get_or records i no_record ∷ drop n records) (sym (add-one i))

  pub rest_none : (i : ℕ) → length records ≤ i → drop i records ≡ []
  rest_none i h = drop_of_length-le records h

  module _ (ds : List ℕ) where
    -- The runs from the i-th on make up the trace from `start` on.
    abbrev pub Begins : ℕ → ℕ → Type 0
    Begins start i = start + total run_length (drop i records) ≡ length ds

    pub first_begins : total run_length records ≡ length ds → Begins 0 0
    first_begins e = zero-add _ ∙ e

    module _ (start i : ℕ) (b : Begins start i) (l : i < length records) where
      pub run_inside : start + run_length (get_or records i no_record) ≤ length ds
      unfolding total
      run_inside = omega (arith, b, ap (total run_length) (rest_next i l))

      pub next_begins : Begins (start + run_length (get_or records i no_record)) (i + 1)
      unfolding total
      next_begins = omega (arith, b, ap (total run_length) (rest_next i l))

-- The part of a trace between two places.
pub part-is : (ds : List ℕ) (start n : ℕ) → take (start + n - start) (drop start ds) ≡ take n (drop start ds)
part-is ds start n = let e : start + n - start ≡ n = omega arith in ap (λ (k : ℕ). take k (drop start ds)) e

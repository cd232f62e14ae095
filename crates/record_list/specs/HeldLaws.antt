-- An array that holds an answer's records: how long it is, what stands at its front, and that its front stored in a
-- lent list fills that list as the answer does.
-- Assumes nothing.
use Rattle.std.specs.Prelude.{ℕ, ◌≡◌, refl, length, take}
use Rattle.std.proofs.Common.{ap, ◌∙◌}
use Rattle.std.proofs.lemmas.List.{length-replicate}
use Rattle.terms.specs.declared.BucketRecord.{BucketRecord}
use Rattle.terms.specs.Answer.{Answer, figures, refused, on_figures}
use Rattle.terms.specs.Lent.{filled}
use Rattle.terms.specs.LentLaws.{filled-front}
use Rattle.terms.specs.Limits.{trace_limit}
use Rattle.terms.specs.Records.{Cutting}
use Rattle.record_list.specs.Held.{no_record, blank, held, counted}

pub length-blank : length blank ≡ trace_limit
unfolding blank
length-blank = length-replicate {A = BucketRecord} trace_limit no_record

-- An array that holds the records xs: as many as there are, taken from its front, are these.
pub held-records : (a : Answer Cutting) (records xs : Cutting) (n : ℕ) → records ≡ held a → a ≡ figures xs → n ≡ length xs → take n records ≡ xs
held-records a records xs n e f g =
    ap (take n) (e ∙ ap held f) ∙ ap (λ (m : ℕ). take m (held (figures xs))) g ∙ filled-front xs blank

-- As many of its records as the answer has fill a lent list as the answer does.
pub stored-held : (a : Answer Cutting) (records old : Cutting) (n : ℕ) → records ≡ held a → n ≡ counted length a
    → filled (figures (take n records)) old ≡ filled a old
stored-held (figures xs) records old n e f = ap (λ (ys : Cutting). filled (figures ys) old) (held-records (figures xs) records xs n e refl f)
stored-held (refused m) records old n e f = ap (λ (k : ℕ). filled (figures (take k records)) old) f

-- A number of figures that were worked out from others.
pub counted_on : {A B : Type 0} (count : B → ℕ) (f : A → B) (a : Answer A) → counted count (on_figures f a) ≡ counted (λ x. count (f x)) a
counted_on count f (figures x) = refl
counted_on count f (refused n) = refl

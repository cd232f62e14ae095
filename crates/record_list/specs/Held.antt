-- Bucket records in an array: what an array holds before any is stored, and with an answer's records.
-- Assumes nothing.
use Rattle.std.specs.Prelude.{ℕ, replicate}
use Rattle.terms.specs.declared.BucketRecord.{BucketRecord}
use Rattle.terms.specs.Answer.{Answer, figures, refused}
use Rattle.terms.specs.Lent.{filled}
use Rattle.terms.specs.Limits.{trace_limit}
use Rattle.terms.specs.Records.{Cutting, record_of}

-- A record of zeros.
abbrev pub no_record : BucketRecord
no_record = record_of 0 0 0

-- As many of them as the longest plan has records.
unfoldable pub blank : Cutting
blank = replicate trace_limit no_record

-- The array that holds an answer's records at its front; none on a refusal.
abbrev pub held : Answer Cutting → Cutting
held a = filled a blank

-- A number of an answer's figures; none on a refusal.
abbrev pub counted : {A : Type 0} → (A → ℕ) → Answer A → ℕ
counted count (figures x) = count x
counted count (refused n) = 0

-- When three lists have room, that a refusal leaves them as they were, and one figure of each record stored in a list.
-- Assumes nothing.
use Rattle.std.specs.Prelude.{ℕ, ◌+◌, min, ◌≤◌, ◌<◌, ◌≡◌, List, map, length, drop, get_or, set}
use Rattle.std.proofs.Common.{arith, le_trans, sym, ap, ◌∙◌}
use Rattle.std.proofs.Math.Nat.{min-le_left, min-le_right}
use Rattle.std.proofs.lemmas.List.{length-map}
use Rattle.terms.specs.declared.BucketRecord.{BucketRecord}
use Rattle.terms.specs.Answer.{Answer, figures, refused}
use Rattle.terms.specs.Records.{Cutting, run_length, run_rate, run_depth}
use Rattle.encoding.specs.StoreLaws.{Storing, one_stored, all_stored, sets_front}
use Rattle.record_list.specs.Held.{no_record}
use Rattle.record_list.specs.PartLaws.{rest_next, rest_none}
use Rattle.exports.specs.Lists.{RecordLists, Filled, recorded, room_of}

pub record Rooms (n : ℕ) (xs ys zs : List ℕ) : Type 0 where
  pub first : n ≤ length xs
  pub second : n ≤ length ys
  pub third : n ≤ length zs

pub rooms : (n : ℕ) (xs ys zs : List ℕ) → n ≤ room_of xs ys zs → Rooms n xs ys zs
rooms n xs ys zs h =
    let two = le_trans h (min-le_left (min (length xs) (length ys)) (length zs)) in
    record {
      first = le_trans two (min-le_left _ _);
      second = le_trans two (min-le_right (length xs) _);
      third = le_trans h (min-le_right (min (length xs) (length ys)) _);
    }

pub lists-kept : (a : Answer Cutting) (old : RecordLists) (n : ℕ) → a ≡ refused n → Filled a old old
lists-kept a old n e =
    let kept : (figure : BucketRecord → ℕ) (xs : List ℕ) → xs ≡ recorded figure a xs = λ figure xs. sym (ap (λ (b : Answer Cutting). recorded figure b xs) e) in
    (kept run_length old.runs, (kept run_rate old.rates, kept run_depth old.depths))

-- ---- One figure of each record, stored in a list

module _ (records : Cutting) (figure : BucketRecord → ℕ) where
  -- the figure of each record from the i-th on
  abbrev left : ℕ → List ℕ
  left i = map figure (drop i records)

  -- i of them are stored in `old`.
  abbrev pub Stored : List ℕ → List ℕ → ℕ → Type 0
  Stored old new i = Storing old 0 (left 0) new i (left i)

  module _ {old new : List ℕ} {i : ℕ} (s : Storing old 0 (left 0) new i (left i)) where
    pub figure_stored : i < length records → Stored old (set new i (figure (get_or records i no_record))) (i + 1)
    figure_stored l = one_stored s (figure (get_or records i no_record)) (left (i + 1)) (ap (map figure) (rest_next records i l))

    pub figures-stored : length records ≤ i → length records ≤ length old → new ≡ recorded figure (figures records) old
    figures-stored l m = all_stored s (ap (map figure) (rest_none records i l)) ∙ sets_front (left 0) old (omega (arith, length-map records figure, m))

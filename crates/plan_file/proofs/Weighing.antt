-- Records weighed one by one: those from the i-th on are the next and those after it, or none.
use Rattle.std.specs.Prelude.{ℕ, ◌+◌, ◌≤◌, ◌<◌, ◌≡◌, true, ◌&&◌, length, drop, get_or}
use Rattle.std.proofs.Math.Path.{ap}
use Rattle.terms.specs.Ranges.{record_ok}
use Rattle.terms.specs.Records.{Cutting, run_length, total}
use Rattle.record_list.specs.Held.{no_record}
use Rattle.record_list.specs.PartLaws.{rest_next, rest_none}
use Rattle.plan_file.specs.Plan.{all_ok}

-- The greatest number of 4 bytes.
abbrev pub word_limit : ℕ
word_limit = 4294967295

module _ (xs : Cutting) (i : ℕ) where
  pub ok_next : i < length xs → all_ok (drop i xs) ≡ record_ok (get_or xs i no_record) && all_ok (drop (i + 1) xs)
  unfolding all_ok
  ok_next l = ap all_ok (rest_next xs i l)

  pub lengths_next : i < length xs → total run_length (drop i xs) ≡ run_length (get_or xs i no_record) + total run_length (drop (i + 1) xs)
  unfolding total
  lengths_next l = ap (total run_length) (rest_next xs i l)

  pub ok_none : length xs ≤ i → all_ok (drop i xs) ≡ true
  unfolding all_ok
  ok_none l = ap all_ok (rest_none xs i l)

  pub lengths_none : length xs ≤ i → total run_length (drop i xs) ≡ 0
  unfolding total
  lengths_none l = ap (total run_length) (rest_none xs i l)

pub ruleset weighing = (ok_next, lengths_next, ok_none, lengths_none)

-- Records loaded one by one: as many as are loaded, and one more behind them.
use Rattle.std.specs.Prelude.{ℕ, ◌+◌, ◌*◌, ◌≡◌, List, [], ◌∷◌, ◌++◌, length}
use Rattle.std.proofs.Common.{refl}
use Rattle.encoding.specs.Number.{items_at}
use Rattle.encoding.specs.NumberLaws.{items_more, length_items}
use Rattle.plan_file.specs.Plan.{buckets_offset, record_at, records_in}

module _ (bs : List ℕ) (i : ℕ) where
  pub count_loaded : length (records_in i bs) ≡ i
  count_loaded = length_items (record_at bs) 12 i buckets_offset

  pub one_loaded : records_in (i + 1) bs ≡ records_in i bs ++ record_at bs (buckets_offset + 12 * i) ∷ []
  one_loaded = items_more (record_at bs) 12 i buckets_offset

pub none_loaded : (bs : List ℕ) → records_in 0 bs ≡ []
unfolding items_at
none_loaded bs = refl

pub ruleset loading = (count_loaded, one_loaded, none_loaded)

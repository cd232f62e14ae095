-- The records of the plan found are no more than the list has room for.
use Rattle.series.specs.CallLaws.{found_fits}
use Rattle.lent_plans.proofs.cuttings.series.Goals as goal

pub store_records-requires : goal.store_records-requires
store_records-requires c = rw c.as_slice.ensures.items (found_fits _ _ _ _ c.in_ok-found.ensures)

-- The array has as many entries as it is made of; they are not counted one by one.
use Rattle.std.proofs.Common.{ℕ, sym}
use Rattle.std.proofs.lemmas.List.{length-replicate}
use Rattle.order_edges.proofs.longest.megabyte.Goals as goal

pub slice_bounds-reading-end : goal.slice_bounds-reading-end
slice_bounds-reading-end g c = sym (length-replicate {A = ℕ} 1048576 0)

-- Each array has as many entries as it is made of; they are not counted one by one.
use Rattle.std.proofs.Common.{ℕ, sym}
use Rattle.std.proofs.lemmas.List.{length-replicate}
use Rattle.call_edges.proofs.million.runs.Goals as goal

pub slice_bounds-run-end-2 : goal.slice_bounds-run-end-2
slice_bounds-run-end-2 g c = sym (length-replicate {A = ℕ} 1000000 6)

pub slice_bounds-run-end-4 : goal.slice_bounds-run-end-4
slice_bounds-run-end-4 g c = sym (length-replicate {A = ℕ} 1000001 6)

-- After each turn the cursor, the figures and the bytes from the place reached on give what the whole text gives.
use Prim.Native.Nat.{◌+◌}
use Rattle.order_text.specs.CursorLaws.{Scanning}
use Rattle.order_text.proofs.scan.scan.Given as goal

abbrev pub invariant-loop-byte : goal.invariant-loop-byte
invariant-loop-byte l = Scanning l.text l.figures l.at (l.front + l.byte-index)

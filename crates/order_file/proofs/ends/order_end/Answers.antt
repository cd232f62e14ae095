-- Two bounds on a number: arithmetic.
use Rattle.std.proofs.Common.{arith}
use Rattle.order_file.proofs.ends.order_end.Goals as goal

pub returns : goal.returns
returns c = omega arith

pub returns-then-bytes-lt-TARIFF_OFFSET : goal.returns-then-bytes-lt-TARIFF_OFFSET
returns-then-bytes-lt-TARIFF_OFFSET c = omega arith

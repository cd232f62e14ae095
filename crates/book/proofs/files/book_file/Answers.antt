-- The lists have 512 entries each, so what is lent has room for any order.
use Rattle.std.proofs.Common.{arith, refl}
use Rattle.booking.specs.Booking.{lent}
use Rattle.booking.specs.EnoughLaws.{claim_outright}
use Rattle.book.proofs.files.book_file.Goals as goal

pub returns : goal.returns
returns c =
    record {
      before = lent c.blank_demands-demands.result c.blank_records-plan.result c.args.bytes.now c.blank_records-back.result;
      after = lent c.book.new.demands c.book.new.plan c.book.new.bytes c.book.new.back;
      demands = omega arith;
      plan = omega arith;
      back = omega arith;
      bytes_lent = refl;
      bytes_left = refl;
      claim = c.book.ensures;
      demand_3 = claim_outright _ _ _ _ c.book.ensures (record {
        demands = omega arith;
        plan = omega arith;
        bytes = omega arith;
        back = omega arith;
      });
    }

-- The numbers of 4 bytes and then the cost are stored one after the other.
use Rattle.encoding.specs.Number.{bytes_of, bytes_of_all}
use Rattle.plan_file.specs.Plan.{cost_offset, plan_words}
use Rattle.encoding.specs.NumberLaws.{length-bytes, length_all}
use Rattle.encoding.specs.StoreLaws.{sets_both}
use Rattle.plan_file.proofs.writing.put_header.Goals as goal

pub returns : goal.returns
returns c =
    let s = c.args in
    let words = plan_words s.plan.periods s.plan.buckets in
    sets_both s.bytes.now (bytes_of_all (bytes_of 4) words) (bytes_of 8 s.plan.cost) _ _ cost_offset
    (length_all (bytes_of 4) 4 (length-bytes 4) words) c.put_words.ensures c.put_number.ensures

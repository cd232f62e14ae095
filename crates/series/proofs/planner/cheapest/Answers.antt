-- The outline from the first period on is that of the whole trace: without a cost there is no cutting,
-- and else its runs are recorded.
use Rattle.std.proofs.Common.{sym, ap}
use Rattle.terms.specs.Answer.{on_figures}
use Rattle.series.specs.RecordLaws.{kept_none, kept_firsts, kept-plan}
use Rattle.series.specs.CallLaws.{found-by}
use Rattle.series.specs.Series.{found_of}
use Rattle.series.specs.SuffixLaws.{kept_start}
use Rattle.series.proofs.planner.cheapest.Goals as goal

pub cut_suffixes-requires : goal.cut_suffixes-requires
cut_suffixes-requires c =
    record {
      trace_len_bound = c.requires.periods_range.few;
      tariff_range = c.requires.tariff_range;
      kept = kept_start _ _ c.requires.periods_range.few;
    }

pub returns-then-cost-eq-UNPRICED : goal.returns-then-cost-eq-UNPRICED
returns-then-cost-eq-UNPRICED c =
    sym (ap (on_figures (found_of c.args.tariff)) (kept_none _ c.requires.tariff_range _ c.requires.periods_range.few _ _ _ c.cut_suffixes.ensures c.if-cost-eq-UNPRICED.true))

pub record_runs-records-requires : goal.record_runs-records-requires
record_runs-records-requires c = record { periods_range = c.requires.periods_range; tariff_range = c.requires.tariff_range; firsts = kept_firsts _ c.requires.tariff_range _ c.requires.periods_range.few _ _ _ c.cut_suffixes.ensures c.if-cost-eq-UNPRICED.false }

pub returns : goal.returns
returns c =
    found-by c.args.tariff _ _ _
    (kept-plan _ c.requires.tariff_range _ c.requires.periods_range.few _ _ _ c.cut_suffixes.ensures c.if-cost-eq-UNPRICED.false)
    c.record_runs-records.ensures

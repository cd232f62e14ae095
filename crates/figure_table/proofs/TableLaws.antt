-- The figures hold, by one test over the table.
-- Assumes nothing.
use Rattle.std.specs.Prelude.{◌≡◌, refl, true}
use Rattle.terms.specs.Records.{total}
use Rattle.bucket.specs.Step.{start_of}
use Rattle.bucket.specs.Trace.{sum_of, carries_from, gaps, least_of, spare_from}
use Rattle.bucket.specs.Trial.{trial_figures}
use Rattle.meter.specs.Meter.{meter_ok, offer_of, after_offers}
use Rattle.depth.specs.Depth.{first_from, depth_of}
use Rattle.causes.specs.Cause.{need_of, cause_of}
use Rattle.single.specs.Cost.{cost_of}
use Rattle.single.specs.Preference.{smaller, preferred}
use Rattle.single.specs.Single.{best_of, single_of}
use Rattle.series.specs.Cutting.{longer, wins, best_first, bests}
use Rattle.series.specs.Series.{series_of}
use Rattle.text.specs.Numeral.{digits, numeral_in}
use Rattle.sheets.specs.Sheet.{run_lines}
use Rattle.checking.specs.Check.{runs_ok}
use Rattle.figure_table.specs.Rows.{Hold}
use Rattle.figure_table.specs.RowLaws.{all_right, all_hold}
use Rattle.figure_table.specs.Table.{table}

table_right : all_right table ≡ true
unfolding table all_right start_of sum_of carries_from gaps least_of spare_from trial_figures meter_ok offer_of after_offers first_from depth_of need_of cause_of cost_of smaller preferred best_of single_of total longer wins best_first bests series_of digits numeral_in run_lines runs_ok
table_right = refl

pub figures_hold : Hold table
figures_hold = all_hold table table_right

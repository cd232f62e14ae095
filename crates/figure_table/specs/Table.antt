-- The lettered figures of document 01, "Figures to hold the definitions to", depths of traces in archive order (02,
-- job 2), what sets a depth (02, job 3) and checks of plans for the printed case (02, job 1), as one table. That it
-- holds is proved of the definitions (`TableLaws`).
-- Assumes nothing.
use Rattle.std.specs.Prelude.{ℕ, List, [], ◌∷◌, map, ℤ, pos, negsuc, length}
use Rattle.terms.specs.declared.Factor.{Factor}
use Rattle.terms.specs.declared.Tariff.{Tariff}
use Rattle.terms.specs.Answer.{Answer, figures, refused, on_figures}
use Rattle.terms.specs.Records.{Cutting, record_of}
use Rattle.bucket.specs.declared.trials.TrialFigures.{TrialFigures}
use Rattle.bucket.specs.Trial.{trial_of}
use Rattle.meter.specs.declared.meters.Meter.{Meter}
use Rattle.meter.specs.Meter.{open_of, after_offers}
use Rattle.depth.specs.Depth.{depth_from_end, depth_of}
use Rattle.causes.specs.Cause.{SetBy, nothing, opening, stretch, Explanation, explain_of}
use Rattle.single.specs.declared.costs.Priced.{Priced}
use Rattle.single.specs.Single.{bucket_of, at_rate, single_of}
use Rattle.series.specs.Series.{true_cost_of, series_of}
use Rattle.text.specs.Megabits.{megabits}
use Rattle.sheets.specs.Sheet.{sheet_text}
use Rattle.checking.specs.declared.verdicts.Verdict.{Verdict}
use Rattle.checking.specs.declared.verdicts.Verdict.TheVariants.{Yes, No}
use Rattle.checking.specs.Check.{verdict_of}
use Rattle.figure_table.specs.Rows.{Row}

-- the factor of the printed case
half : Factor
half = record { p = 1; q = 2 }

-- the seven figures in document 01's order
tariff : ℕ → ℕ → ℕ → Factor → ℕ → ℕ → Tariff
tariff rate-price depth-price F f rate-cap depth-cap =
    record {
      rate_price = record { 0 = rate-price };
      depth_price = record { 0 = depth-price };
      fee = F;
      factor = f;
      rate_cap = record { 0 = rate-cap };
      depth_cap = record { 0 = depth-cap };
    }

-- the printed case's tariff, and with another fee or another depth cap
printed : Tariff
printed = tariff 2 1 4 half 4095 1000000

with_fee : ℕ → Tariff
with_fee F = tariff 2 1 F half 4095 1000000

capped : ℕ → Tariff
capped B = tariff 2 1 4 half 4095 B

-- row D's: factor 2/3, prices 7 and 5, F = 0
uneven : Tariff
uneven = tariff 7 5 0 (record { p = 2; q = 3 }) 4095 1000000

-- full buckets: factor 1/1
full : Tariff
full = tariff 2 1 4 (record { p = 1; q = 1 }) 4095 1000000

-- row G's and H's: factor 0/1, caps 5 and 10
empty : Tariff
empty = tariff 2 1 4 (record { p = 0; q = 1 }) 5 10

case : List ℕ
case = 4 ∷ 8 ∷ 2 ∷ []

depth_row : ℕ → List ℤ
depth_row B = pos B ∷ []

-- depth, and first and last period of what sets it, or 0 for nothing
cause_row : SetBy → List ℤ
cause_row nothing = pos 0 ∷ []
cause_row (opening v) = pos 1 ∷ pos v ∷ []
cause_row (stretch u v) = pos u ∷ pos v ∷ []

explain_row : Explanation → List ℤ
explain_row x = pos x.depth ∷ cause_row x.cause

-- rate, depth and cost
single_row : Priced → List ℤ
single_row x = pos x.bucket.rate.0 ∷ pos x.bucket.depth.0 ∷ pos x.cost ∷ []

cost_row : Priced → List ℤ
cost_row x = pos x.cost ∷ []

-- run length, rate and depth of each bucket
bucket_rows : Cutting → List ℤ
bucket_rows [] = []
bucket_rows (x ∷ xs) = pos x.periods ∷ pos x.bucket.rate.0 ∷ pos x.bucket.depth.0 ∷ bucket_rows xs

-- bucket count, cost and the buckets
series_row : Tariff → Cutting → List ℤ
series_row t xs = pos (length xs) ∷ pos (true_cost_of t xs) ∷ bucket_rows xs

-- the series with as much room as periods
series_at : Tariff → List ℕ → Answer (List ℤ)
series_at t ds = on_figures (series_row t) (series_of t (length ds) ds)

trial_row : TrialFigures → List ℤ
trial_row t = t.spare ∷ pos t.over ∷ []

-- sent, over, lost and tokens of a meter after offers
meter_row : List ℕ → Meter → List ℤ
meter_row ds m = let n = after_offers m ds in pos n.sent ∷ pos n.over ∷ pos n.lost ∷ pos n.held ∷ []

-- the bytes of a text
text_row : List ℕ → Answer (List ℤ)
text_row bs = figures (map pos bs)

-- the sheet of a plan for the printed case
printed_sheet : Cutting → List ℤ
printed_sheet xs = map pos (sheet_text (record { order = record { periods = 3; tariff = printed }; demands = case; cutting = xs }))

-- the verdict on a plan of these records for a trace, at the cost that it states: 1 and the excess, or 0
verdict_row : Verdict → List ℤ
verdict_row (Yes excess) = pos 1 ∷ pos excess ∷ []
verdict_row No = pos 0 ∷ []

verdict_at : Tariff → List ℕ → ℕ → Cutting → Answer (List ℤ)
verdict_at t ds cost xs = figures (verdict_row (verdict_of t ds (record { periods = length ds; cost = cost; buckets = xs })))

-- The rows of the series stand last: they take longest, and the test ends at the first row that is wrong.
unfoldable pub table : List Row
unfolding half tariff printed with_fee capped uneven full empty case depth_row cause_row explain_row single_row cost_row bucket_rows series_row series_at trial_row meter_row text_row printed_sheet verdict_row verdict_at
table =
    -- A: 4,8,2 at rates 4, 5, 6: depths 8, 4, 2
    record { given = on_figures depth_row (depth_of printed 4 case); paper = figures (pos 8 ∷ []) }
    ∷ record { given = on_figures depth_row (depth_of printed 5 case); paper = figures (pos 4 ∷ []) }
    ∷ record { given = on_figures depth_row (depth_of printed 6 case); paper = figures (pos 2 ∷ []) }
    -- B: 4,8,2 at rate 5: depth cap 4 gives 4, cap 3 gives refusal 7
    ∷ record { given = on_figures depth_row (depth_of (capped 4) 5 case); paper = figures (pos 4 ∷ []) }
    ∷ record { given = on_figures depth_row (depth_of (capped 3) 5 case); paper = refused 7 }
    -- 02, job 2: 2,8,4 in archive order, which is A's trace, at rates 4, 5, 6: depths 8, 4, 2
    ∷ record { given = on_figures depth_row (depth_from_end printed 4 (2 ∷ 8 ∷ 4 ∷ [])); paper = figures (pos 8 ∷ []) }
    ∷ record { given = on_figures depth_row (depth_from_end printed 5 (2 ∷ 8 ∷ 4 ∷ [])); paper = figures (pos 4 ∷ []) }
    ∷ record { given = on_figures depth_row (depth_from_end printed 6 (2 ∷ 8 ∷ 4 ∷ [])); paper = figures (pos 2 ∷ []) }
    -- … 2,8 and 8,2 in archive order at rate 5: depths 6 and 3, and with factor 0/1 refusal 7 and depth 3
    ∷ record { given = on_figures depth_row (depth_from_end printed 5 (2 ∷ 8 ∷ [])); paper = figures (pos 6 ∷ []) }
    ∷ record { given = on_figures depth_row (depth_from_end printed 5 (8 ∷ 2 ∷ [])); paper = figures (pos 3 ∷ []) }
    ∷ record { given = on_figures depth_row (depth_from_end empty 5 (2 ∷ 8 ∷ [])); paper = refused 7 }
    ∷ record { given = on_figures depth_row (depth_from_end empty 5 (8 ∷ 2 ∷ [])); paper = figures (pos 3 ∷ []) }
    -- 02, job 3: 4,8,2 at rates 0, 4, 5: depths 28, 8, 4, openings of 3, 2, 2; at 6, 7: 2, 1, stretch 2–2; at 8: 0
    ∷ record { given = on_figures explain_row (explain_of printed 0 case); paper = figures (pos 28 ∷ pos 1 ∷ pos 3 ∷ []) }
    ∷ record { given = on_figures explain_row (explain_of printed 4 case); paper = figures (pos 8 ∷ pos 1 ∷ pos 2 ∷ []) }
    ∷ record { given = on_figures explain_row (explain_of printed 5 case); paper = figures (pos 4 ∷ pos 1 ∷ pos 2 ∷ []) }
    ∷ record { given = on_figures explain_row (explain_of printed 6 case); paper = figures (pos 2 ∷ pos 2 ∷ pos 2 ∷ []) }
    ∷ record { given = on_figures explain_row (explain_of printed 7 case); paper = figures (pos 1 ∷ pos 2 ∷ pos 2 ∷ []) }
    ∷ record { given = on_figures explain_row (explain_of printed 8 case); paper = figures (pos 0 ∷ pos 0 ∷ []) }
    -- … full buckets at rate 5: 0,5,7 stretch 2–3; 0,5,5,7,7 stretch 2–5; 1,7,7,1,9 stretch 2–3; 5,5,7 opening of 3
    ∷ record { given = on_figures explain_row (explain_of full 5 (0 ∷ 5 ∷ 7 ∷ [])); paper = figures (pos 2 ∷ pos 2 ∷ pos 3 ∷ []) }
    ∷ record { given = on_figures explain_row (explain_of full 5 (0 ∷ 5 ∷ 5 ∷ 7 ∷ 7 ∷ [])); paper = figures (pos 4 ∷ pos 2 ∷ pos 5 ∷ []) }
    ∷ record { given = on_figures explain_row (explain_of full 5 (1 ∷ 7 ∷ 7 ∷ 1 ∷ 9 ∷ [])); paper = figures (pos 4 ∷ pos 2 ∷ pos 3 ∷ []) }
    ∷ record { given = on_figures explain_row (explain_of full 5 (5 ∷ 5 ∷ 7 ∷ [])); paper = figures (pos 2 ∷ pos 1 ∷ pos 3 ∷ []) }
    -- … factor 0/1 at rate 5: 2,8 stretch 2–2; 8,2 refusal 7
    ∷ record { given = on_figures explain_row (explain_of empty 5 (2 ∷ 8 ∷ [])); paper = figures (pos 3 ∷ pos 2 ∷ pos 2 ∷ []) }
    ∷ record { given = on_figures explain_row (explain_of empty 5 (8 ∷ 2 ∷ [])); paper = refused 7 }
    -- C: single for 4,8,2: (5, 4), cost 46; rate 6 with depth 2 costs the same
    ∷ record { given = on_figures single_row (single_of printed case); paper = figures (pos 5 ∷ pos 4 ∷ pos 46 ∷ []) }
    ∷ record { given = on_figures single_row (at_rate printed case 6); paper = figures (pos 6 ∷ pos 2 ∷ pos 46 ∷ []) }
    -- D: trace 3: (3, 0), cost 21; rates 0, 1, 2 cost 25, 22, 24
    ∷ record { given = on_figures single_row (single_of uneven (3 ∷ [])); paper = figures (pos 3 ∷ pos 0 ∷ pos 21 ∷ []) }
    ∷ record { given = on_figures cost_row (at_rate uneven (3 ∷ []) 0); paper = figures (pos 25 ∷ []) }
    ∷ record { given = on_figures cost_row (at_rate uneven (3 ∷ []) 1); paper = figures (pos 22 ∷ []) }
    ∷ record { given = on_figures cost_row (at_rate uneven (3 ∷ []) 2); paper = figures (pos 24 ∷ []) }
    -- I: trace 0: (0, 0), cost 4; as a series below
    ∷ record { given = on_figures single_row (single_of printed (0 ∷ [])); paper = figures (pos 0 ∷ pos 0 ∷ pos 4 ∷ []) }
    -- J: meter rate 5, depth 4, offers 4,8,2,9: sent 22, over 1, lost 0, tokens 0
    ∷ record {
      given = on_figures (meter_row (4 ∷ 8 ∷ 2 ∷ 9 ∷ [])) (open_of (bucket_of 5 4) half);
      paper = figures (pos 22 ∷ pos 1 ∷ pos 0 ∷ pos 0 ∷ []);
    }
    -- K: trial of (5, 3) on 4,8,2: spare −1, over 1
    ∷ record {
      given = on_figures trial_row (trial_of (bucket_of 5 3) half case);
      paper = figures (negsuc 0 ∷ pos 1 ∷ []);
    }
    -- L: −500, 500, 0, −1,500 print -0.500, 0.500, 0.000, -1.500
    ∷ record { given = text_row (megabits (negsuc 499)); paper = text_row (45 ∷ 48 ∷ 46 ∷ 53 ∷ 48 ∷ 48 ∷ []) }
    ∷ record { given = text_row (megabits (pos 500)); paper = text_row (48 ∷ 46 ∷ 53 ∷ 48 ∷ 48 ∷ []) }
    ∷ record { given = text_row (megabits (pos 0)); paper = text_row (48 ∷ 46 ∷ 48 ∷ 48 ∷ 48 ∷ []) }
    ∷ record { given = text_row (megabits (negsuc 1499)); paper = text_row (45 ∷ 49 ∷ 46 ∷ 53 ∷ 48 ∷ 48 ∷ []) }
    -- E: series for 4,8,2 with F = 10: one bucket (5, 4), cost 52
    ∷ record { given = series_at (with_fee 10) case; paper = figures (pos 1 ∷ pos 52 ∷ pos 3 ∷ pos 5 ∷ pos 4 ∷ []) }
    -- F: the same, fee 3: three buckets (0, 8), (0, 16), (0, 4), cost 37
    ∷ record {
      given = series_at (with_fee 3) case;
      paper = figures (pos 3 ∷ pos 37 ∷ pos 1 ∷ pos 0 ∷ pos 8 ∷ pos 1 ∷ pos 0 ∷ pos 16 ∷ pos 1 ∷ pos 0 ∷ pos 4 ∷ []);
    }
    -- G: factor 0/1, caps 5 and 10, trace 2,8: one bucket (5, 3), cost 30
    ∷ record { given = series_at empty (2 ∷ 8 ∷ []); paper = figures (pos 1 ∷ pos 30 ∷ pos 2 ∷ pos 5 ∷ pos 3 ∷ []) }
    -- H: as G, trace 8,2: refusal 7
    ∷ record { given = series_at empty (8 ∷ 2 ∷ []); paper = refused 7 }
    -- I: trace 0 as a series: one bucket of one period, (0, 0), cost 4
    ∷ record { given = series_at printed (0 ∷ []); paper = figures (pos 1 ∷ pos 4 ∷ pos 1 ∷ pos 0 ∷ pos 0 ∷ []) }
    -- the printed case: two buckets (5, 4) and (0, 4), cost 40
    ∷ record { given = series_at printed case; paper = figures (pos 2 ∷ pos 40 ∷ pos 2 ∷ pos 5 ∷ pos 4 ∷ pos 1 ∷ pos 0 ∷ pos 4 ∷ []) }
    -- … and its sheet, line by line
    ∷ record {
      given = on_figures printed_sheet (series_of printed 3 case);
      paper = text_row (
          112 ∷ 108 ∷ 97 ∷ 110 ∷ 32 ∷ 51 ∷ 32 ∷ 50 ∷ 32 ∷ 52 ∷ 48 ∷ 10
          ∷ 49 ∷ 32 ∷ 50 ∷ 32 ∷ 48 ∷ 46 ∷ 48 ∷ 48 ∷ 53 ∷ 32 ∷ 48 ∷ 46 ∷ 48 ∷ 48 ∷ 52 ∷ 32 ∷ 48 ∷ 46 ∷ 48 ∷ 48 ∷ 48 ∷ 10
          ∷ 51 ∷ 32 ∷ 51 ∷ 32 ∷ 48 ∷ 46 ∷ 48 ∷ 48 ∷ 48 ∷ 32 ∷ 48 ∷ 46 ∷ 48 ∷ 48 ∷ 52 ∷ 32 ∷ 48 ∷ 46 ∷ 48 ∷ 48 ∷ 48 ∷ 10
          ∷ []
          );
    }
    -- checks for the printed case: the plan found states 40
    ∷ record { given = verdict_at printed case 40 (record_of 2 5 4 ∷ record_of 1 0 4 ∷ []); paper = figures (pos 1 ∷ pos 0 ∷ []) }
    -- … one bucket (5, 4) states 46, which is 6 more; 45 is not its true cost
    ∷ record { given = verdict_at printed case 46 (record_of 3 5 4 ∷ []); paper = figures (pos 1 ∷ pos 6 ∷ []) }
    ∷ record { given = verdict_at printed case 45 (record_of 3 5 4 ∷ []); paper = figures (pos 0 ∷ []) }
    -- … one bucket (5, 3) states its true cost and does not carry the trace
    ∷ record { given = verdict_at printed case 43 (record_of 3 5 3 ∷ []); paper = figures (pos 0 ∷ []) }
    -- … and for H, which has no plan, a no and never 7
    ∷ record { given = verdict_at empty (8 ∷ 2 ∷ []) 44 (record_of 2 5 10 ∷ []); paper = figures (pos 0 ∷ []) }
    ∷ []

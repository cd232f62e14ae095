-- Every figure that is answered is below 10^18, so that the number answered tells figures from refusals: no two answers
-- share one.
-- Assumes nothing.
use Rattle.std.specs.Prelude.{ℕ, suc, ◌+◌, ◌*◌, ◌≤◌, ◌<◌, ◌-◌, ◌^◌, ◌≡◌, refl, Bool, true, false, cond, List, [], ◌∷◌, reverse, eqb, leb, ltb, ℤ, pos, negsuc, nat_abs, length}
use Rattle.std.proofs.Common.{arith, sym, ap, subst, ◌∙◌, ltb-true}
use Rattle.std.specs.Int.Signed.{le_z}
use Rattle.terms.specs.declared.Bucket.{Bucket}
use Rattle.terms.specs.declared.Factor.{Factor}
use Rattle.terms.specs.Answer.{Answer, figures, refused, on_figures, and_then}
use Rattle.terms.specs.AnswerLaws.{same-figures, weigh-figures, on_figures_lem, then_found}
use Rattle.terms.specs.Limits.{demand_limit, depth_limit, meter_limit, rate_limit, trace_limit}
use Rattle.terms.specs.Ranges.{fresh_ok, periods_ok, tariff_ok}
use Rattle.terms.specs.RangeLaws.{fresh_range, periods_range}
use Rattle.terms.specs.Records.{Each}
use Rattle.bucket.specs.Laws.{demands-tail, start_le, sub_is}
use Rattle.bucket.specs.declared.trials.TrialFigures.{TrialFigures}
use Rattle.bucket.specs.Step.{held, start_of}
use Rattle.bucket.specs.Trace.{Demands, gap, gaps, least_of, min_z, over_all, spare_from, sum_of}
use Rattle.bucket.specs.Trial.{trial_figures}
use Rattle.meter.specs.declared.meters.Meter.{Meter}
use Rattle.meter.specs.Meter.{fresh_meter, meter_ok, offer_of, offers_of, open_of, record_after}
use Rattle.depth.specs.Depth.{depth_of}
use Rattle.depth.specs.DepthLaws.{depth-found}
use Rattle.series.specs.OutlineLaws.{carried-below}
use Rattle.encoding.specs.NumberLaws.{Bytes}
use Rattle.order_file.specs.Order.{order_length, write_order}
use Rattle.order_file.specs.OrderRules.{length-order}
use Rattle.order_file.specs.Ordered.{ordered}
use Rattle.order_file.specs.OrderedLaws.{is-ordered, ordered_range, spread-demands}
use Rattle.plan_file.specs.declared.answers.Recorded.{Recorded}
use Rattle.plan_file.specs.Plan.{fitting, plan_in, read_plan}
use Rattle.plan_file.specs.Plan as plan
use Rattle.plan_file.specs.PlanRules.{length-plan, read_rules, write_rules}
use Rattle.planning.specs.Planning.{planned}
use Rattle.planning.specs.PlannedLaws.{is-planned, planned-cheapest}
use Rattle.booking.specs.Booking.{plan_figures}
use Rattle.booking.specs.BookingLaws.{file-demands, order-demands}
use Rattle.services.specs.Services.{depth_for, depth_from_end_for, single_for, single_in, trial_for, trial_in}
use Rattle.services.specs.ServiceLaws.{single_cost, single_line-short}
use Rattle.sheets.specs.LengthLaws.{longest_sheet}
use Rattle.sheets.specs.Sheet.{sheet_in, sheet_text}
use Rattle.sheets.specs.SheetLaws.{sheet_short}
use Rattle.text.specs.Fitted.{fitted}
use Rattle.text.specs.Lines.{single_line, trial_line}
use Rattle.text.specs.LineLaws.{longest_single, longest_trial, trial_short}
use Rattle.checking.specs.declared.verdicts.Verdict.{Verdict}
use Rattle.checking.specs.declared.verdicts.Verdict.TheVariants.{Yes, No}
use Rattle.checking.specs.Check.{check_of}
use Rattle.typed_figures.specs.Figures.{tariff_figures, tariff_of}
use Rattle.exports.specs.Answers.{refused_from, coded, order_from, planned_cost, plan_file_in, verdict_code, meter_in}

-- The figures of an answer are below the refusals.
abbrev pub Below : Answer ℕ → Type 0
Below a = (n : ℕ) → a ≡ figures n → n < refused_from

pub told_apart : (a b : Answer ℕ) → Below a → Below b → coded a ≡ coded b → a ≡ b
told_apart (figures m) (figures n) h k e = ap figures e
told_apart (figures m) (refused n) h k e = absurd (omega (arith, h m refl, e))
told_apart (refused m) (figures n) h k e = absurd (omega (arith, k n refl, e))
told_apart (refused m) (refused n) h k e = let z : m ≡ n = omega (arith, e) in ap refused z

-- ---- Orders

pub order_below : (room : ℕ) (fs ds : List ℕ) → Below (on_figures length (order_from room fs ds))
unfolding order_from write_order
order_below room fs ds n e =
    let g = on_figures_lem length (order_from room fs ds) e in
    let a = weigh-figures (periods_ok (length ds)) 3 _ g.1 in
    let b = weigh-figures (eqb (length fs) tariff_figures) 5 _ a.1 in
    let c = weigh-figures (periods_ok (length ds)) 3 _ b.1 in
    let d = weigh-figures (tariff_ok (tariff_of fs)) 5 _ c.1 in
    let f = weigh-figures (leb (order_length (length ds)) room) 6 _ d.1 in
    omega (arith, ap length (same-figures f.1), length-order (length ds) (tariff_of fs) ds, g.2, (periods_range (length ds) a.0).few)

-- ---- One bucket

-- The depth for an order's demands as some list has them.
depth_of-below : (list : List ℕ → List ℕ) (r : ℕ) (bs : List ℕ) → Below (and_then (ordered trace_limit bs) (λ x. depth_of x.order.tariff r (list x.demands)))
depth_of-below list r bs n e =
    let g = then_found (ordered trace_limit bs) _ e in
    let t = (ordered_range (is-ordered trace_limit bs g.0 g.1)).1 in
    omega (arith, (depth-found g.0.order.tariff r (list g.0.demands) g.2).within, t.depth_caps)

pub depth_below : (r : ℕ) (bs : List ℕ) → Below (depth_for r bs)
depth_below = depth_of-below (λ ds. ds)

pub depth-from_end-below : (r : ℕ) (bs : List ℕ) → Below (depth_from_end_for r bs)
depth-from_end-below = depth_of-below reverse

pub single_below : (bs : List ℕ) → Below (on_figures (λ s. s.cost) (single_for bs))
single_below bs n e =
    let g = on_figures_lem (λ s. s.cost) (single_for bs) e in
    omega (arith, single_cost bs g.0 g.1, g.2)

gap-small : (r y d k : ℕ) → y + r ≤ k → d ≤ k → nat_abs (gap r y d) ≤ k
gap-small r y d k h l = rw (sub_is (y + r) d) (go (ltb (y + r) d) refl)
  where
    go : (b : Bool) → ltb (y + r) d ≡ b → nat_abs (cond b (negsuc (d - suc (y + r))) (pos (y + r - d))) ≤ k
    go true e = omega (arith, ltb-true)
    go false e = omega arith

gaps-small : (r B y : ℕ) (ds : List ℕ) (k : ℕ) → B + r ≤ k → demand_limit ≤ k → y ≤ B → Demands ds → Each (λ x. nat_abs x ≤ k) (gaps r B y ds)
unfolding gaps
gaps-small r B y [] k h l m D = tt
gaps-small r B y (d ∷ ds) k h l m D =
    (gap-small r y d k (omega arith) (omega (arith, D.each 0)), gaps-small r B (held r B y d) ds k h l (omega arith) (demands-tail D))

least-small : (k : ℕ) (z : ℤ) (xs : List ℤ) → nat_abs z ≤ k → Each (λ x. nat_abs x ≤ k) xs → nat_abs (least_of z xs) ≤ k
unfolding least_of
least-small k z [] h a = h
least-small k z (x ∷ xs) h a = least-small k (min_z z x) xs (go (le_z z x)) a.1
  where
    go : (b : Bool) → nat_abs (cond b z x) ≤ k
    go true = h
    go false = a.0

spare_small : (r B y : ℕ) (ds : List ℕ) (k : ℕ) → B + r ≤ k → demand_limit ≤ k → y ≤ B → Demands ds → nat_abs (spare_from r B y ds) ≤ k
unfolding spare_from gaps
spare_small r B y [] k h l m D = omega arith
spare_small r B y (d ∷ ds) k h l m D = let a = gaps-small r B y (d ∷ ds) k h l m D in least-small k (gap r y d) (gaps r B (held r B y d) ds) a.0 a.1

over-small : (r B y : ℕ) (ds : List ℕ) → Demands ds → over_all r B y ds ≤ demand_limit * length ds
unfolding sum_of
over-small r B y [] D = omega arith
over-small r B y (d ∷ ds) D = omega (arith, D.each 0, over-small r B (held r B y d) ds (demands-tail D))

-- What a trial answers is small. Each byte of the order is one: a demand of it has 16 bits.
trial_small : (b : Bucket) (bs : List ℕ) → Bytes bs → (t : TrialFigures) → trial_for b bs ≡ figures t → (nat_abs t.spare ≤ 2 ^ 63) × (t.over < 2 ^ 32)
unfolding trial_figures
trial_small b bs bytes t e =
    let a = then_found (ordered trace_limit bs) _ e in
    let x = a.0 in
    let f = x.order.tariff.factor in
    let p = is-ordered trace_limit bs x a.1 in
    let u = weigh-figures (periods_ok (length x.demands)) 3 _ a.2 in
    let v = weigh-figures (fresh_ok b f) 5 (figures (trial_figures b f x.demands)) u.1 in
    let w = fresh_range b f v.0 in
    let D : Demands x.demands = subst Demands (sym (sym (spread-demands p) ∙ order-demands bs x.order p.read)) (file-demands bs bytes) in
    let y = start_of f.p f.q b.depth.0 in
    let s = spare_small b.rate.0 b.depth.0 y x.demands (depth_limit + rate_limit) (omega (arith, w.bucket.rates, w.bucket.depths)) (omega arith) (start_le f.p f.q b.depth.0 w.factor.part) D in
    let o = over-small b.rate.0 b.depth.0 y x.demands D in
    let is = same-figures v.1 in (
      subst (λ (z : TrialFigures). nat_abs z.spare ≤ 2 ^ 63) is (omega (arith, s)),
      subst (λ (z : TrialFigures). z.over < 2 ^ 32) is (omega (arith, o, (periods_range (length x.demands) u.0).few)),
    )

pub trial_below : (b : Bucket) (bs : List ℕ) → Bytes bs → Below (on_figures (λ t. t.over) (trial_for b bs))
trial_below b bs bytes n e =
    let g = on_figures_lem (λ t. t.over) (trial_for b bs) e in
    omega (arith, (trial_small b bs bytes g.0 g.1).1, g.2)

-- ---- Texts

-- A line that fits its room is as long as it is.
line-below : {A : Type 0} (a : Answer A) (line : A → List ℕ) (room most : ℕ) → most < refused_from → ((x : A) → a ≡ figures x → length (line x) ≤ most)
    → Below (on_figures length (and_then a (λ x. fitted room (line x))))
line-below a line room most h short n e =
    let g = on_figures_lem length (and_then a (λ x. fitted room (line x))) e in
    let f = then_found a _ g.1 in
    let c = weigh-figures (leb (length (line f.0)) room) 6 (figures (line f.0)) f.2 in
    omega (arith, h, ap length (same-figures c.1), short f.0 f.1, g.2)

pub trial_line-below : (room : ℕ) (b : Bucket) (bs : List ℕ) → Bytes bs → Below (on_figures length (trial_in room b bs))
trial_line-below room b bs bytes =
    line-below (trial_for b bs) (λ t. trial_line t.spare t.over) room longest_trial (omega arith)
    (λ t e. let s = trial_small b bs bytes t e in trial_short t.spare t.over s.0 s.1)

pub single_line-below : (room : ℕ) (bs : List ℕ) → Below (on_figures length (single_in room bs))
single_line-below room bs = line-below (single_for bs) (λ s. single_line s.bucket s.cost) room longest_single (omega arith) (single_line-short bs)

pub sheet_below : (room : ℕ) (bs : List ℕ) → Below (on_figures length (sheet_in room bs))
sheet_below room bs =
    line-below (planned trace_limit trace_limit bs) sheet_text room longest_sheet (omega arith) (λ x e. sheet_short (is-planned trace_limit trace_limit bs x e))

-- ---- Plans

pub cost-below : (bs : List ℕ) → Below (planned_cost bs)
cost-below bs n e =
    let g = on_figures_lem _ (planned trace_limit trace_limit bs) e in
    let p = is-planned trace_limit trace_limit bs g.0 g.1 in
    let r = ordered_range p.as_ordered in
    omega (arith, carried-below g.0.order.tariff r.1 r.0.few (planned-cheapest p).carried, g.2)

pub file-below : (room : ℕ) (bs : List ℕ) → Below (on_figures length (plan_file_in room bs))
file-below room bs n e =
    let g = on_figures_lem length (plan_file_in room bs) e in
    let a = then_found (planned trace_limit trace_limit bs) _ g.1 in
    let x = plan_figures a.0 in
    let w = write_rules trace_limit room x a.0.cutting g.0 a.2 in
    omega (arith, ap length w.is, length-plan x.periods x.cost a.0.cutting, w.list, g.2)

pub plan-below : (room : ℕ) (bs : List ℕ) → Below (on_figures (λ x. x.cost) (read_plan room bs))
plan-below room bs n e =
    let g = on_figures_lem (λ x. x.cost) (read_plan room bs) e in
    let a = then_found (plan_in bs) (fitting room) g.1 in
    let w = weigh-figures (leb (length a.0.buckets) room) 6 (figures a.0) a.2 in
    let r = read_rules bs a.0 a.1 in
    omega (arith, g.2, ap (λ (x : Recorded). x.cost) (same-figures w.1), ap (λ (x : Recorded). x.cost) r.1, r.0.cost)

-- ---- Checks

verdict-small : (v : Verdict) → verdict_code v ≤ 1
verdict-small (Yes excess) = omega arith
verdict-small No = omega arith

pub check_below : (order plan : List ℕ) → Below (on_figures verdict_code (check_of order plan))
check_below order plan n e = let g = on_figures_lem verdict_code (check_of order plan) e in omega (arith, g.2, verdict-small g.0)

-- ---- Meters

offers_few : (m m' : Meter) (ds : List ℕ) → m.periods ≤ meter_limit → offers_of m ds ≡ figures m' → m'.periods ≤ meter_limit
unfolding offers_of offer_of
offers_few m m' [] l e = omega (arith, l, ap (λ (x : Meter). x.periods) (same-figures e))
offers_few m m' (d ∷ ds) l e =
    let a = then_found (offer_of m d) _ e in
    let b = weigh-figures (meter_ok m) 8 _ a.1 in
    let c = weigh-figures (ltb m.periods meter_limit) 9 _ b.1 in
    offers_few (record_after m (figures a.0)) m' ds (omega (arith, ltb-true m.periods meter_limit c.0)) a.2

pub meter_below : (room : ℕ) (b : Bucket) (f : Factor) (ds : List ℕ) → Below (on_figures (λ m. m.periods) (meter_in room b f ds))
unfolding meter_in
meter_below room b f ds n e =
    let g = on_figures_lem (λ m. m.periods) (meter_in room b f ds) e in
    let a = weigh-figures (fresh_ok b f) 5 _ g.1 in
    let c = weigh-figures (leb 5 room) 6 _ a.1 in
    let d = then_found (open_of b f) (λ m. offers_of m ds) c.1 in
    let h = weigh-figures (fresh_ok b f) 5 (figures (fresh_meter b f)) d.1 in
    let z : d.0.periods ≡ 0 = ap (λ (m : Meter). m.periods) (sym (same-figures h.1)) in
    omega (arith, offers_few d.0 g.0 ds (omega (arith, z)) d.2, g.2)

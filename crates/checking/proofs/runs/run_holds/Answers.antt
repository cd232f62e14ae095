-- A trial in its ranges is not refused, and it discards nothing exactly where the bucket carries the run.
use Rattle.std.specs.Prelude.{◌≡◌, Bool, ◌&&◌, eqb, leb}
use Rattle.std.proofs.Common.{ap, ◌∙◌, rules}
use Rattle.bucket.specs.Trial.{trial_figures}
use Rattle.bucket.specs.TrialLaws.{nothing-over}
use Rattle.checking.proofs.runs.run_holds.Goals as goal

pub returns : goal.returns
returns c =
    let b = c.args.bucket in
    let t = c.args.tariff in
    let nothing : c.is_ok_and-carried.result ≡ eqb (trial_figures b t.factor c.args.run.now).over 0 = search rules in
    ap (λ (ok : Bool). leb b.rate.0 t.rate_cap.0 && leb b.depth.0 t.depth_cap.0 && ok) (nothing ∙ nothing-over b t.factor c.args.run.now)

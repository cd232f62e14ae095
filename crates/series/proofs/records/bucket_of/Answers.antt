-- What the single call finds is the run's record; a run that has a bucket is not refused.
use Rattle.series.specs.RecordLaws.{record_single}
use Rattle.series.specs.Series.{record_for}
use Rattle.terms.specs.AnswerLaws.{figures-refused}
use Rattle.terms.specs.Refusals.{says}
use mathlib.Core.Path.{sym, ap, ◌∙◌}
use Rattle.series.proofs.records.bucket_of.Goals as goal

pub returns-in-Ok : goal.returns-in-Ok
returns-in-Ok c = record_single _ _ c.requires.tariff_range c.requires.periods_range ∙ ap (record_for _) (sym c.single.ensures ∙ ap says c.in-Ok.is)

pub returns-in-Err : goal.returns-in-Err
returns-in-Err c =
    absurd
    (figures-refused
    (sym c.requires.has_bucket.1 ∙ record_single _ _ c.requires.tariff_range c.requires.periods_range ∙ ap (record_for _) (sym c.single.ensures ∙ ap says c.in-Err.is)))

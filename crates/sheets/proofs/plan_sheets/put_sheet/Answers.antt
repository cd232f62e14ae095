-- There is room for the first line and, behind it, for those of the runs.
use Rattle.sheets.specs.SheetLaws.{sheet_put}
use Rattle.sheets.proofs.plan_sheets.put_sheet.Goals as goal

pub returns : goal.returns
returns c =
    let first = rw c.order-order.ensures at c.put_plan_line-lines.ensures in
    let runs = rw (c.order-order.ensures, c.trace-trace.ensures, c.as_slice-records.ensures.items) at c.put_runs.ensures in
    sheet_put c.requires.shown c.args.text.now c.requires.text_len _ _ first _ _ runs

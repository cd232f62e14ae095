-- A plan that was found can be printed, and what is stored is the definition's sheet.
use Rattle.sheets.specs.SheetLaws.{shown, sheet_filled}
use Rattle.sheets.proofs.printed.sheet.Goals as goal

pub fill_sheet-requires : goal.fill_sheet-requires
fill_sheet-requires c = shown _ _ c.in-Ok.ensures.answer

pub returns-in-Ok : goal.returns-in-Ok
returns-in-Ok c =
    let all = sheet_filled _ _ c.in-Ok.ensures.answer c.args.text.now _ _ c.fill_sheet.ensures in
    record { result_value = all.0; text_after = all.1 }

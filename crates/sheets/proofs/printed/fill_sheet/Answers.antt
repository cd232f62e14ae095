-- The text put together holds the longest sheet, and its front is the sheet.
use Rattle.text.specs.FittedLaws.{long, zeros, ready_count, ready_inside, ready_fills}
use Rattle.sheets.specs.LengthLaws.{longest_sheet}
use Rattle.sheets.specs.SheetLaws.{sheet_room}
use Rattle.sheets.proofs.printed.fill_sheet.Goals as goal

pub slice_bounds-ready-end : goal.slice_bounds-ready-end
slice_bounds-ready-end c = ready_inside _ _ (sheet_room c.requires (zeros longest_sheet) (long longest_sheet)) _ _ c.put_sheet-length.ensures

pub slice_bounds-fill-end : goal.slice_bounds-fill-end
slice_bounds-fill-end c = ready_count _ _ (sheet_room c.requires (zeros longest_sheet) (long longest_sheet)) _ _ c.put_sheet-length.ensures

pub returns : goal.returns
returns c =
    ready_fills _ _ (sheet_room c.requires (zeros longest_sheet) (long longest_sheet)) _ _ c.put_sheet-length.ensures
    c.args.text.now _ _ c.fill.ensures

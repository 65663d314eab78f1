use Rattle.std.proofs.Common.{◌∙◌}
use Rattle.hashbag_csv.specs.Sheets.{place, read_last}
use Rattle.hashbag_csv.proofs.LineLemmas.{no_place, only_place}
use Rattle.hashbag_csv.proofs.sheet.Sheet.column_or_empty.Goals as goal

-- the only column of the name
pub returns-in-Ok : goal.returns-in-Ok
returns-in-Ok c = only_place c.args.name.now (read_last c.args.self.now) (place c.in-Ok.column) c.in-Ok.ensures.column

-- no column has the name
pub returns-in-Err-Line-default-NoColumn : goal.returns-in-Err-Line-default-NoColumn
returns-in-Err-Line-default-NoColumn c =
    let e = c.in-Err-Line-default-NoColumn in
    let none = rw (e.field-0-is, e.field-0-1-is) at e.ensures.fault in
    c.len-place.ensures ∙ no_place c.args.name.now (read_last c.args.self.now) none

use Rattle.hashbag_csv.specs.Sheets.{place, read_last}
use Rattle.hashbag_csv.proofs.LineLemmas.{only_place}
use Rattle.hashbag_csv.proofs.lines.column_of.Goals as goal

pub returns : goal.returns
returns c = only_place c.args.name.now (read_last c.args.sheet.now) (place c.in_ok-column.column) c.in_ok-column.ensures.column

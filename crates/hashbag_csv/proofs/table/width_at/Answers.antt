use Rattle.std.proofs.Common.{arith, sym}
use Rattle.std.proofs.lemmas.List.{length-map}
use Rattle.std.specs.String.{string_bytes}
use Rattle.hashbag_csv.specs.Tables.{cell_bytes}
use Rattle.hashbag_csv.proofs.TableLemmas.{width_past}
use Rattle.hashbag_csv.proofs.table.width_at.Goals as goal

-- no cell is there
pub returns : goal.returns
returns c =
    let long = length-map c.args.cells.now.items string_bytes in
    sym (width_past (cell_bytes c.args.cells.now) c.args.index (omega (arith, long, c.len.ensures, c.if-index-len.false)))

use Rattle.std.proofs.Common.{◌≡◌, IfOk, List, map, subst, sym}
use Rattle.hashbag_core.proofs.MemberLemmas.{map-map}
use Rattle.hashbag_csv.specs.Cells.{Cells}
use Rattle.hashbag_csv.specs.Forms.{rows_in}
use Rattle.hashbag_match_lib.specs.Shown.{entry_of}
use Rattle.hashbag_match_lib.specs.Written.{cells_in, columns_in, look_of}
use Rattle.hashbag_match_lib.proofs.output.lines_text.Goals as goal

-- the cells of each row, by the bytes of its fields
pub returns : goal.returns
returns c =
    let look = look_of c.args.layout in
    subst (λ (rows : List Cells). IfOk c.rows_text.result (λ text. text.items ≡ rows_in c.args.form look.delimiter (columns_in look) rows)) (sym (map-map entry_of (cells_in look.scale) c.args.rows.now)) c.rows_text.ensures

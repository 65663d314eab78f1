use Rattle.std.proofs.Common.{◌≡◌, ◌++◌, ◌∙◌, [], arith, get_or, map, rules}
use Rattle.std.proofs.lemmas.List.{get_or-map, length-map}
use Rattle.std.proofs.lemmas.Option.{unwrap_or-slice_get}
use Rattle.std.specs.String.{string_bytes}
use Rattle.hashbag_csv.specs.Cells.{lent_cell}
use Rattle.hashbag_csv.specs.Tables.{cell_bytes, cell_text, is_text, line_text, width_in}
use Rattle.hashbag_csv.proofs.TableLemmas.{line_more}
use Rattle.hashbag_csv.proofs.table.push_line.Goals as goal

-- a cell more
pub loop-index-preserved : goal.loop-index-preserved
loop-index-preserved c =
    let cells = cell_bytes c.args.texts.now in
    let widths = c.args.widths.now.items in
    let index = c.loop-index.index in
    let texts = is_text (map lent_cell c.args.cells.now) in
    let long = length-map c.args.texts.now.items string_bytes in
    let width : c.unwrap_or-width.result ≡ get_or widths index 0 = search (rules, unwrap_or-slice_get) in
    let text : c.as_str.result.now ≡ get_or cells index [] = search (rules, get_or-map) in
    let cell = c.in_ok-push_cell.ensures ∙ λ i. string_bytes c.push_gap.new.table ++ cell_text (c.has_text.ensures i) (width i) (text i) in
    line_more texts (width_in c.args.widths.now) (string_bytes c.push_gap.new.table) (string_bytes c.push_cell.new.table)
    (string_bytes c.args.table.now ++ line_text texts (width_in c.args.widths.now) cells) (string_bytes c.loop-index.table) cells index
    (omega (arith, long, c.loop-index-test.true, c.len-index-end.ensures)) c.loop-index.invariant c.in_ok-push_gap.ensures cell

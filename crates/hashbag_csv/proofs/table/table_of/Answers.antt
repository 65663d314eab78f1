use Rattle.std.proofs.Common.{◌≡◌, ◌∷◌, ◌++◌, ◌∙◌, ap, append_assoc, flat_map, map, sym, take}
use Rattle.std.proofs.lemmas.List.{append-nil, take_all}
use Rattle.std.specs.String.{string_bytes}
use Rattle.hashbag_csv.specs.Cells.{cells_of, lent_cell}
use Rattle.hashbag_csv.specs.Tables.{cell_bytes, first_row, is_text, line_text, lines_by, row_line, shown_cell, shown_rows, title_of, width_in}
use Rattle.hashbag_csv.specs.Widths.{column_width}
use Rattle.hashbag_csv.proofs.TableLemmas.{by_widths}
use Rattle.hashbag_csv.proofs.WrittenLemmas.{flat_more, next_rows}
use Rattle.hashbag_csv.proofs.table.table_of.Goals as goal

-- the titles
pub loop-value-init : goal.loop-value-init
loop-value-init g c =
    let first : map lent_cell c.deref-2.result.now ≡ first_row (map (g.L.Listing.line c.args.listing.now) c.args.values.now) = ap (map lent_cell) c.deref-2.ensures.value ∙ c.in_ok-first_cells.ensures in
    c.in_ok-push_line.ensures ∙ (λ i. c.new-table.ensures.bytes i ++ line_text (is_text (first i)) (width_in c.in_ok-widths.widths) (cell_bytes c.in_ok-titles.titles)) ∙ sym (append-nil _)

-- a row more
pub loop-value-preserved : goal.loop-value-preserved
loop-value-preserved g c =
    let line = g.L.Listing.line c.args.listing.now in
    let values = c.args.values.now in
    let width = width_in c.in_ok-widths.widths in
    let before = map line (take c.loop-value.value-index values) in
    let head = line_text (is_text (first_row (map line values))) width (cell_bytes c.in_ok-titles.titles) in
    let cells = cells_of c.in_ok-cells.cells in
    let next = next_rows line values c.loop-value.value-index c.value-item.result cells c.loop-value-test.true c.value-item.is c.in_ok-cells.ensures in
    let aligned : map lent_cell c.deref-in-loop-value-2.result.now ≡ cells = ap (map lent_cell) c.deref-in-loop-value-2.ensures.value in
    let texts : cell_bytes c.in_ok-texts.texts ≡ map shown_cell cells = c.in_ok-texts.ensures ∙ ap (λ l. map shown_cell (map lent_cell l)) c.deref-in-loop-value.ensures.value in
    let so_far : string_bytes c.loop-value.table ≡ head ++ flat_map (row_line width) before = c.loop-value.invariant in
    c.in_ok-push_line-2.ensures ∙ (λ i. so_far i ++ line_text (is_text (aligned i)) width (texts i)) ∙ append_assoc head (flat_map (row_line width) before) (row_line width cells)
    ∙ ap (λ l. head ++ l) (sym (ap (flat_map (row_line width)) next ∙ flat_more (row_line width) before cells))

-- the widths are those of the columns
pub returns : goal.returns
returns g c =
    let line = g.L.Listing.line c.args.listing.now in
    let values = c.args.values.now in
    let rows = map line values in
    let width = width_in c.in_ok-widths.widths in
    let own = cell_bytes c.in_ok-titles.titles in
    let titles : own ≡ map title_of (g.L.Listing.columns c.args.listing.now) = c.in_ok-titles.ensures ∙ ap (λ l. map title_of (map (λ n. n.now) l)) c.deref.ensures.value ∙ ap (map title_of) c.in_ok-names.ensures in
    let lines : string_bytes c.loop-value.table ≡ line_text (is_text (first_row rows)) width own ++ flat_map (row_line width) (map line (take c.loop-value.value-index values)) = c.loop-value.invariant in
    ap (λ v. v.items) c.into_bytes.ensures.value ∙ lines
    ∙ ap (λ l. line_text (is_text (first_row rows)) width own ++ flat_map (row_line width) (map line l)) (take_all c.loop-value.value-index values c.loop-value-test.false)
    ∙ by_widths own rows (own ∷ shown_rows rows) c.in_ok-widths.widths.items c.in_ok-widths.ensures
    ∙ ap (λ t. lines_by (column_width (t ∷ shown_rows rows)) t rows) titles

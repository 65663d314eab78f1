use Rattle.std.proofs.Common.{List, [], ◌∷◌, ◌++◌, ◌∙◌, ap, map, subst, sym, take}
use Rattle.std.proofs.lemmas.List.{map-append}
use Rattle.hashbag_csv.specs.Cells.{lent_cell, text_of_cell}
use Rattle.hashbag_csv.specs.Readers.{Record}
use Rattle.hashbag_csv.specs.Written.{HasWritten}
use Rattle.hashbag_csv.proofs.WrittenLemmas.{next_rows}
use Rattle.hashbag_csv.proofs.csv_text.csv_of.Goals as goal

-- the header
pub loop-value-init : goal.loop-value-init
loop-value-init g c =
    subst (λ (r : Record). HasWritten c.args.delimiter (r ∷ []) c.push_record.new.writer) (c.in_ok-fields_of.ensures ∙ ap (map (λ n. n.now)) c.deref.ensures.value ∙ c.in_ok-names.ensures)
    (c.in_ok-push_record.ensures c.args.delimiter [] c.writer_with-writer.ensures)

-- a row more
pub loop-value-preserved : goal.loop-value-preserved
loop-value-preserved g c =
    let line = g.L.Listing.line c.args.listing.now in
    let values = c.args.values.now in
    let index = c.loop-value.value-index in
    let cells = map lent_cell c.deref-in-loop-value.result.now in
    let next = next_rows line values index c.value-item.result cells c.loop-value-test.true c.value-item.is (ap (map lent_cell) c.deref-in-loop-value.ensures.value ∙ c.in_ok-cells.ensures) in
    subst (λ (records : List Record). HasWritten c.args.delimiter (g.L.Listing.columns c.args.listing.now ∷ records) c.push_row.new.writer)
    (sym (ap (map (map text_of_cell)) next ∙ map-append (map text_of_cell) (map line (take index values)) (cells ∷ [])))
    (c.in_ok-push_row.ensures c.args.delimiter _ c.loop-value.invariant)

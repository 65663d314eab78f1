use Rattle.std.proofs.Common.{◌≡◌, ℕ, ◌+◌, List, [], ◌∷◌, ◌++◌, ◌∙◌, ap, get_or, map, max, sym, take}
use Rattle.std.proofs.Math.Nat.{max_comm}
use Rattle.std.proofs.lemmas.List.{map-append}
use Rattle.hashbag_csv.specs.Cells.{lent_cell}
use Rattle.hashbag_csv.specs.Readers.{Record}
use Rattle.hashbag_csv.specs.Tables.{cell_bytes, shown_cell, shown_rows}
use Rattle.hashbag_csv.specs.Widths.{column_width, width_of}
use Rattle.hashbag_csv.proofs.TableLemmas.{column_width_more}
use Rattle.hashbag_csv.proofs.WrittenLemmas.{next_rows}
use Rattle.hashbag_csv.proofs.table.widths_of.Goals as goal

-- the titles
pub loop-value-init : goal.loop-value-init
loop-value-init g c = λ k.
    let title = width_of (get_or (cell_bytes c.args.titles.now) k []) in
    c.in_ok-widths.ensures k ∙ ap (λ (l : List ℕ). max (get_or l k 0) title) c.new.ensures.items ∙ max_comm 0 title

-- a row more
pub loop-value-preserved : goal.loop-value-preserved
loop-value-preserved g c = λ k.
    let line = g.L.Listing.line c.args.listing.now in
    let values = c.args.values.now in
    let index = c.loop-value.value-index in
    let cells = map lent_cell c.deref.result.now in
    let next = next_rows line values index c.value-item.result cells c.loop-value-test.true c.value-item.is (ap (map lent_cell) c.deref.ensures.value ∙ c.in_ok-cells.ensures) in
    let titles = cell_bytes c.args.titles.now in
    let texts = cell_bytes c.in_ok-texts.texts in
    let before = map line (take index values) in
    let lines : shown_rows (map line (take (index + 1) values)) ≡ shown_rows before ++ texts ∷ [] =
    ap shown_rows next ∙ map-append (map shown_cell) before (cells ∷ []) ∙ ap (λ (r : Record). shown_rows before ++ r ∷ []) (sym c.in_ok-texts.ensures) in
    c.in_ok-widths-2.ensures k ∙ ap (λ (w : ℕ). max w (width_of (get_or texts k []))) (c.loop-value.invariant k)
    ∙ sym (column_width_more (titles ∷ shown_rows before) texts k) ∙ sym (ap (λ (l : List Record). column_width (titles ∷ l) k) lines)

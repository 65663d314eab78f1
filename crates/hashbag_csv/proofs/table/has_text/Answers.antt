use Rattle.std.proofs.Common.{[], ap, sym, ◌∙◌}
use Rattle.std.proofs.lemmas.List.{get_or-map}
use Rattle.hashbag_csv.specs.Cells.{holds_text, lent_cell}
use Rattle.hashbag_csv.specs.declared.cells.Cell.TheVariants.{Text}
use Rattle.hashbag_csv.proofs.table.has_text.Goals as goal

-- the cell that is there
pub returns-in-Some : goal.returns-in-Some
returns-in-Some c =
    let found = c.in-Some.ensures.lookup in
    c.is_text.ensures ∙ ap holds_text (ap lent_cell found.1 ∙ sym (get_or-map lent_cell c.args.cells.now c.args.index c.in-Some.cell.now (Text []) found.3.0))

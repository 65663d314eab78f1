use Rattle.std.proofs.Common.{◌∙◌, ap, length, sym}
use Rattle.hashbag_csv.specs.Lines.{column_numbers}
use Rattle.hashbag_csv.specs.Readers.{Record}
use Rattle.hashbag_csv.specs.Sheets.{left, read_last}
use Rattle.hashbag_csv.proofs.LineLemmas.{numbered, numbers_long}
use Rattle.hashbag_csv.proofs.sheet.Sheet.open_numbered.Goals as goal

-- the numbers of the fields of the first record, and then all records
pub returns : goal.returns
returns c =
    let first = read_last c.take_record.new.self in
    let next = rw c.if-not-branch.false at c.in_ok-take_record.ensures.next in
    let numbers = c.in_ok-sheet-2.ensures in
    record {
      records = numbered _ first _ (left c.take_record.new.self) (left c.in_ok-sheet.sheet) (c.in_ok-first.ensures.left ∙ next) (numbers ∙ ap column_numbers c.len.ensures) c.in_ok-sheet.ensures.left;
      width = (sym (ap (λ (r : Record). length r) numbers ∙ numbers_long c.len.result), c.in_ok-sheet.ensures.short);
    }

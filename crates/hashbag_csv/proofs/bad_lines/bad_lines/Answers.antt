use Rattle.std.proofs.Common.{◌∙◌, ◌≡◌, ℕ, Bool, Option, length, sym}
use Rattle.std.specs.Prelude.{option_copied, option_map}
use Rattle.hashbag_csv.specs.BadLines.{AreBadLines, IsCheckOf}
use Rattle.hashbag_csv.specs.LineColumns.{form_of, number_place}
use Rattle.hashbag_csv.specs.Lines.{list_in, place_of}
use Rattle.hashbag_csv.specs.Sheets.{is_short_allowed, left, read_last, width_of}
use Rattle.hashbag_csv.specs.declared.number_form.NumberForm.{NumberForm}
use Rattle.hashbag_csv.proofs.BadLineLemmas.{at_equal, map_copied, under_header}
use Rattle.hashbag_csv.proofs.bad_lines.bad_lines.Goals as goal

-- the records below the header, which has the sheet's width
pub returns : goal.returns
returns g c =
    let sheet = c.in-Some.sheet in
    let records = rw c.in-Some.is at c.in_ok-sheet.ensures.records in
    let width = rw c.in-Some.is at c.in_ok-sheet.ensures.width in
    let columns = c.in_ok-columns.columns in
    let scale = c.args.reading.scale in
    let header = place_of (read_last sheet) in
    let form_is : (form_of columns).number ≡ c.args.form.number = λ i. (c.in_ok-columns.ensures.form i).number in
    let number_is : number_place columns ≡ option_map header (option_copied c.args.number) = c.in_ok-columns.ensures.number ∙ sym (map_copied header c.args.number) in
    under_header scale c.args.form (option_copied c.args.number) c.args.max_errors (list_in c.args.reading.delimiter c.args.form c.args.text.now) (read_last sheet) (left sheet) c.in_ok-errors.errors.items records
    (at_equal (λ (f : NumberForm) (n : Option ℕ) (s : Bool) (w : ℕ). AreBadLines (IsCheckOf scale f n s w) c.args.max_errors (left sheet) c.in_ok-errors.errors.items)
    (form_of columns).number c.args.form.number (number_place columns) (option_map header (option_copied c.args.number)) (is_short_allowed sheet) c.args.form.allows_short (width_of sheet) (length (read_last sheet))
    form_is number_is width.1 width.0 c.in_ok-errors.ensures)

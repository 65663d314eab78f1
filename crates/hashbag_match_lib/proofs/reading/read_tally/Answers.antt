use Rattle.std.proofs.Common.{◌≡◌, [], ◌∙◌, All, ap, map, refl, sym, subst, true, ℕ}
use Rattle.std.specs.Prelude.{option_copied}
use Rattle.hashbag_csv.specs.LineColumns.{form_of, key_places, number_place}
use Rattle.hashbag_csv.specs.Lines.{lines_under}
use Rattle.hashbag_csv.specs.Readers.{Record}
use Rattle.hashbag_csv.specs.Sheets.{FitHeader, fits_header, left, read_last, width_of}
use Rattle.hashbag_match_lib.specs.Readable.{HaveNumbers}
use Rattle.hashbag_match_lib.proofs.LineLemmas.{all_lines, all_numbers}
use Rattle.hashbag_match_lib.proofs.reading.read_tally.Goals as goal

-- a list without a record has no line
pub returns-in_default-clause-lines : goal.returns-in_default-clause-lines
returns-in_default-clause-lines g c =
    let none = rw c.in_default.is at c.in_ok-sheet.ensures.records in
    let lines = ap (lines_under c.args.reading.scale c.args.form (map (λ k. k.now) c.args.keys.now) (option_copied c.args.number)) none in
    ([], sym lines, c.finish_carry.ensures.same [] c.empty_tally-tally.ensures)

-- the lines of the records below the header
pub returns-clause-lines : goal.returns-clause-lines
returns-clause-lines g c =
    let (L, are, is) = c.in_ok-add_lines.ensures.lines [] ([], refl, c.empty_tally-tally.ensures) in
    let columns = c.in_ok-columns.columns in
    let sheet = c.in-Some.sheet in
    let records = rw c.in-Some.is at c.in_ok-sheet.ensures.records in (
      L,
      are ∙ all_lines c.args.reading.scale c.args.form c.args.keys.now c.args.number _ (read_last sheet) (left sheet) (form_of columns) (key_places columns) (number_place columns)
          records c.in_ok-columns.ensures.form c.in_ok-columns.ensures.keys c.in_ok-columns.ensures.number,
      c.finish_carry-2.ensures.same L is,
    )

-- a list without a record is readable
pub returns-in_default-clause-readable : goal.returns-in_default-clause-readable
returns-in_default-clause-readable g c =
    let none = rw c.in_default.is at c.in_ok-sheet.ensures.records in
    record {
      fits = subst (FitHeader c.args.form.allows_short) (sym none) tt;
      numbers = subst (HaveNumbers c.args.reading.scale c.args.form (option_copied c.args.number)) (sym none) tt;
    }

-- the records below the header, which has the sheet's width
pub returns-clause-readable : goal.returns-clause-readable
returns-clause-readable g c =
    let columns = c.in_ok-columns.columns in
    let sheet = c.in-Some.sheet in
    let records = rw c.in-Some.is at c.in_ok-sheet.ensures.records in
    let (width, short) = rw c.in-Some.is at c.in_ok-sheet.ensures.width in
    record {
      fits = subst (FitHeader c.args.form.allows_short) (sym records)
          (subst (λ (w : ℕ). All (λ (r : Record). fits_header c.args.form.allows_short w r ≡ true) (left sheet)) width
          (subst (λ (s : _). All (λ (r : Record). fits_header s (width_of sheet) r ≡ true) (left sheet)) short c.in_ok-add_lines.ensures.fits));
      numbers = all_numbers c.args.reading.scale c.args.form (form_of columns) c.args.number (number_place columns) _ (read_last sheet) (left sheet)
          records c.in_ok-columns.ensures.form c.in_ok-columns.ensures.number c.in_ok-add_lines.ensures.numbers;
    }

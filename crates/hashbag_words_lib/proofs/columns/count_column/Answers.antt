use Rattle.std.proofs.Common.{◌≡◌, Bool, ℕ, List, All, map, sym, subst, true, false}
use Rattle.hashbag_csv.specs.Readers.{Record}
use Rattle.hashbag_csv.specs.Sheets.{FitHeader, fits_header, left, place, read_last, width_of}
use Rattle.hashbag_csv.proofs.LineLemmas.{only_place}
use Rattle.hashbag_words_lib.specs.Columns.{HasColumn}
use Rattle.hashbag_words_lib.specs.Counts.{HasTokens, Takes}
use Rattle.hashbag_words_lib.specs.Tokens.{token_of}
use Rattle.hashbag_words_lib.proofs.ColumnLemmas.{all_fields}
use Rattle.hashbag_words_lib.proofs.columns.count_column.Goals as goal

-- the fields of the records below the header
pub returns-clause-counts : goal.returns-clause-counts
returns-clause-counts g c =
    let sheet = c.in_ok-sheet.sheet in
    let name = c.args.name.now in
    let p = place c.in_ok-column.column in
    let at = only_place name (read_last sheet) p c.in_ok-column.ensures.column in
    subst (λ (l : List (List ℕ)). Takes HasTokens c.args.bag.now c.add_records.new.bag (map (token_of c.args.fold) l))
    (all_fields name _ (read_last sheet) (left sheet) p c.in_ok-sheet.ensures.records at) c.in_ok-add_records.ensures.counts

pub returns-clause-named : goal.returns-clause-named
returns-clause-named g c =
    subst (HasColumn c.args.name.now) (sym c.in_ok-sheet.ensures.records) (place c.in_ok-column.column, c.in_ok-column.ensures.column)

-- the records below the header, which has the sheet's width
pub returns-clause-fits : goal.returns-clause-fits
returns-clause-fits g c =
    let sheet = c.in_ok-sheet.sheet in
    let (width, short) = c.in_ok-sheet.ensures.width in
    subst (FitHeader false) (sym c.in_ok-sheet.ensures.records)
    (subst (λ (w : ℕ). All (λ (r : Record). fits_header false w r ≡ true) (left sheet)) width
    (subst (λ (s : Bool). All (λ (r : Record). fits_header s (width_of sheet) r ≡ true) (left sheet)) short c.in_ok-add_records.ensures.fits))

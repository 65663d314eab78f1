-- What a counter of rows has added of the files that it was given, however they were cut.
use Rattle.std.specs.Prelude.{◌≡◌, ℕ, ◌+◌, ◌-◌, ◌^◌, nat_eq, List, [], ◌∷◌, ◌++◌, length, min, if◌then◌else◌}
use Rattle.std.specs.Str.Lines.{lines}
use Rattle.hashbag_words_lib.specs.Counted.{NoLineFeed}
use Rattle.hashbag_words_lib.specs.Counts.{TakesRows}
use Rattle.hashbag_words_lib.specs.LineEnds.{EndsLine}
use Rattle.hashbag_words_lib.specs.Rows.{IsNoRow, IsRowOf}
use Rattle.hashbag_words_lib.specs.Tokens.{without_mark}
use Rattle.hashbag_words_lib.specs.declared.lines.BadLines.{BadLines}
use Rattle.hashbag_words_lib.specs.declared.lines.BadLines.TheVariants.{Rejected, Skipped}
use Rattle.hashbag_words_lib.specs.declared.lines.LinesRead.{LinesRead}
use Rattle.hashbag_words_lib.specs.declared.row_counter.RowCounter.{RowCounter}
use Rattle.hashbag_words_lib.specs.declared.rows.RowForm.{RowForm}

-- the line is read as the one row of this list; or the line is no row and is skipped, and the list is empty
abbrev pub IsReadAs : RowForm → BadLines → List ℕ → List (List ℕ × ℕ) → Type 0
IsReadAs form bad_lines line [] = (bad_lines ≡ Skipped) × IsNoRow form line
IsReadAs form bad_lines line (row ∷ []) = IsRowOf form line row
IsReadAs form bad_lines line (row ∷ other ∷ rows) = ⊥

-- these lines are read as these rows, in order; a line that is no row is skipped, if bad lines are skipped
abbrev pub AreReadAs : RowForm → BadLines → List (List ℕ) → List (List ℕ × ℕ) → Type 0
AreReadAs form bad_lines [] rows = rows ≡ []
AreReadAs form bad_lines (line ∷ lines) rows =
    (now : List (List ℕ × ℕ)) × (later : List (List ℕ × ℕ)) × (rows ≡ now ++ later) × IsReadAs form bad_lines line now × AreReadAs form bad_lines lines later

-- a line of a file, after n earlier lines of the file. A byte order mark at the beginning of the first line is removed
abbrev pub line_at : ℕ → List ℕ → List ℕ
line_at n line = if nat_eq n 0 then without_mark line else line

-- these lines, the first one without a byte order mark at its beginning
abbrev pub unmarked : List (List ℕ) → List (List ℕ)
unmarked [] = []
unmarked (line ∷ lines) = without_mark line ∷ lines

-- these are the rows of the lines of a whole file. A last line without a line feed is skipped; with `Rejected` there is none
pub record AreRowsOf (form : RowForm) (bad_lines : BadLines) (text : List ℕ) (rows : List (List ℕ × ℕ)) : Type 0 where
  pub ended : List ℕ
  pub rest : List ℕ
  pub cut : text ≡ ended ++ rest
  pub ends : EndsLine ended
  pub unended : NoLineFeed rest
  pub read : AreReadAs form bad_lines (unmarked (lines ended)) rows
  pub whole : bad_lines ≡ Rejected → rest ≡ []

-- the line that was read last is the first line of the text that is no row, and bad lines are rejected
pub record IsFirstNoRow (form : RowForm) (text : List ℕ) (reading : LinesRead) : Type 0 where
  pub front : List (List ℕ)
  pub bad : List ℕ
  pub rest : List (List ℕ)
  pub rows : List (List ℕ × ℕ)
  pub cut : unmarked (lines text) ≡ front ++ bad ∷ rest
  pub read : AreReadAs form Rejected front rows
  pub is : IsNoRow form bad
  pub line : reading.line ≡ min (length front + 1) (2 ^ 64 - 1)
  pub rejected : reading.bad_lines ≡ Rejected

-- the line is no row in this form, and bad lines are rejected
abbrev pub RejectsLine : RowForm → LinesRead → List ℕ → Type 0
RejectsLine form reading line = (reading.bad_lines ≡ Rejected) × IsNoRow form (line_at reading.line line)

-- ---- what a sink has of files. `has shown sink rows`: the sink has these rows; if it writes them, it shows them as `shown` says

module _ {M K : Type 0} (has : M → K → List (List ℕ × ℕ) → Type 0) where
  -- `text` is `ended` followed by `partial`, the bytes after the last line feed. The sink has the rows `before` and the rows of `ended`
  pub record Added (form : RowForm) (shown : M) (before : List (List ℕ × ℕ)) (sink : K) (partial : List ℕ) (reading : LinesRead) (text : List ℕ) : Type 0 where
    pub ended : List ℕ
    pub cut : text ≡ ended ++ partial
    pub ends : EndsLine ended
    pub unended : NoLineFeed partial
    pub rows : List (List ℕ × ℕ)
    pub read : AreReadAs form reading.bad_lines (unmarked (lines ended)) rows
    pub counts : has shown sink (before ++ rows)
    pub line : reading.line ≡ min (length (lines ended)) (2 ^ 64 - 1)

  -- the counter has added the rows `before` and then this text so far
  abbrev pub HasAdded : M → List (List ℕ × ℕ) → RowCounter K → List ℕ → Type 0
  HasAdded shown before counter text = Added counter.form shown before counter.sink counter.partial.items counter.reading text

  -- the counter has added the rows `before` and then this whole file
  abbrev pub HasAddedAll : M → List (List ℕ × ℕ) → BadLines → List ℕ → RowCounter K → Type 0
  HasAddedAll shown before bad_lines text counter = (rows : List (List ℕ × ℕ)) × AreRowsOf counter.form bad_lines text rows × has shown counter.sink (before ++ rows)

  -- the counter has added the rows `before` and then this whole file, and the next bytes are of another file
  abbrev pub HasEndedFile : M → List (List ℕ × ℕ) → BadLines → List ℕ → RowCounter K → Type 0
  HasEndedFile shown before bad_lines text counter = (rows : List (List ℕ × ℕ)) × AreRowsOf counter.form bad_lines text rows × HasAdded shown (before ++ rows) counter []

  -- the line is read in this form, and the sink was given its rows
  abbrev pub AddsRowsOfLine : K → K → RowForm → LinesRead → List ℕ → Type 0
  AddsRowsOfLine old new form reading line =
      (rows : List (List ℕ × ℕ)) × IsReadAs form reading.bad_lines (line_at reading.line line) rows × TakesRows has old new rows

  -- ---- what a call changes, for any way to show rows, any rows that were added before, and any text of the file so far

  -- if the old counter had added `text`, the new counter has added `text` and then these bytes
  abbrev pub AddsBytes : RowCounter K → RowCounter K → List ℕ → Type 0
  AddsBytes old new bytes = (shown : M) → (before : List (List ℕ × ℕ)) → (text : List ℕ) → HasAdded shown before old text → HasAdded shown before new (text ++ bytes)

  -- if the old counter had added `text` of a file, the new counter has added `text` as the whole file
  abbrev pub AddsWholeFile : RowCounter K → RowCounter K → Type 0
  AddsWholeFile old new = (shown : M) → (before : List (List ℕ × ℕ)) → (text : List ℕ) → HasAdded shown before old text → HasAddedAll shown before old.reading.bad_lines text new

  -- the rows of the file now belong to `before`, and another file begins
  abbrev pub EndsFile : RowCounter K → RowCounter K → Type 0
  EndsFile old new = (shown : M) → (before : List (List ℕ × ℕ)) → (text : List ℕ) → HasAdded shown before old text → HasEndedFile shown before old.reading.bad_lines text new

  -- the file ends within a line
  abbrev pub IsCutOff : RowCounter K → Type 0
  IsCutOff counter = (shown : M) → (before : List (List ℕ × ℕ)) → (text : List ℕ) → HasAdded shown before counter text → EndsLine text → ⊥

  -- the line that the new counter read last is the first line that is no row, in the text and then these bytes
  abbrev pub IsFirstNoRowOfFileWith : RowCounter K → RowCounter K → List ℕ → Type 0
  IsFirstNoRowOfFileWith old new bytes =
      (shown : M) → (before : List (List ℕ × ℕ)) → (text : List ℕ) → HasAdded shown before old text → IsFirstNoRow old.form (text ++ bytes) new.reading

  -- the line that the new counter read last is the first line that is no row, in the text, then these bytes, then any bytes
  abbrev pub IsFirstNoRowWhateverFollows : RowCounter K → RowCounter K → List ℕ → Type 0
  IsFirstNoRowWhateverFollows old new bytes =
      (shown : M) → (before : List (List ℕ × ℕ)) → (text : List ℕ) → HasAdded shown before old text → (more : List ℕ) → IsFirstNoRow old.form ((text ++ bytes) ++ more) new.reading

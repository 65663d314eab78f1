-- Rows as a table.
use Rattle.std.specs.Prelude.{◌≡◌, ℕ, ◌+◌, ◌-◌, ◌==◌, Bool, List, [], ◌∷◌, ◌++◌, String, flat_map, get_or, if◌then◌else◌, map, replicate}
use Rattle.std.specs.Global.{Global, Vec}
use Rattle.std.specs.String.{string_bytes}
use Rattle.std.specs.StrCase.Upper.{str_to_uppercase}
use Rattle.hashbag_csv.specs.Cells.{CellBytes, Cells, holds_text, text_of_cell}
use Rattle.hashbag_csv.specs.Escaped.{escaped_text}
use Rattle.hashbag_csv.specs.Readers.{Record}
use Rattle.hashbag_csv.specs.Widths.{column_width, width_of}
use Rattle.hashbag_csv.specs.declared.cells.Cell.TheVariants.{Text}

-- ---- cells

-- the title of a column: its name in capitals, with control characters escaped
abbrev pub title_of : List ℕ → List ℕ
title_of name = escaped_text (str_to_uppercase name)

-- whether there is no cell k, or it is a text
abbrev pub is_text : Cells → ℕ → Bool
is_text cells k = holds_text (get_or cells k (Text []))

-- a cell as a table shows it: a text has its control characters escaped
abbrev pub shown_cell : CellBytes → List ℕ
shown_cell cell = if holds_text cell then escaped_text (text_of_cell cell) else text_of_cell cell

-- the same of each cell of each row
abbrev pub shown_rows : List Cells → List Record
shown_rows rows = map (map shown_cell) rows

-- the cells of the first row; none if there is no row
abbrev pub first_row : List Cells → Cells
first_row rows = get_or rows 0 []

-- the bytes of cells
abbrev pub cell_bytes : Vec (String Global) → Record
cell_bytes cells = map string_bytes cells.items

-- ---- text

abbrev pub spaces : ℕ → List ℕ
spaces n = replicate n 32

-- what is before a cell: two spaces, but nothing before the first
abbrev pub gap : ℕ → List ℕ
gap k = if k == 0 then [] else spaces 2

-- a cell in a column of this width: a text is aligned left, a number right
abbrev pub cell_text : Bool → ℕ → List ℕ → List ℕ
cell_text is_text width cell = if is_text then cell ++ spaces (width - width_of cell) else spaces (width - width_of cell) ++ cell

-- the cells of a line from the column k on, and a line feed
abbrev pub line_from : (ℕ → Bool) → (ℕ → ℕ) → ℕ → Record → List ℕ
line_from texts width k [] = 10 ∷ []
line_from texts width k (cell ∷ cells) = gap k ++ (cell_text (texts k) (width k) cell ++ line_from texts width (k + 1) cells)

-- a line, by the widths of its columns
abbrev pub line_text : (ℕ → Bool) → (ℕ → ℕ) → Record → List ℕ
line_text texts width cells = line_from texts width 0 cells

-- the width of the column k; 0 if there is none
abbrev pub width_in : Vec ℕ → ℕ → ℕ
width_in widths k = get_or widths.items k 0

-- a line of texts is appended to a table, whose columns have these widths; each text is aligned as the cell at its place
abbrev pub AppendsLine : Vec ℕ → Cells → Vec (String Global) → String Global → String Global → Type 0
AppendsLine widths cells texts old new = string_bytes new ≡ string_bytes old ++ line_text (is_text cells) (width_in widths) (cell_bytes texts)

-- the line of a row, by the widths of the columns
abbrev pub row_line : (ℕ → ℕ) → Cells → List ℕ
row_line width cells = line_text (is_text cells) width (map shown_cell cells)

-- a line of titles, each aligned as the first cell below it, and the line of each row
abbrev pub lines_by : (ℕ → ℕ) → Record → List Cells → List ℕ
lines_by width titles rows = line_text (is_text (first_row rows)) width titles ++ flat_map (row_line width) rows

-- these lines, each column as wide as its widest cell
abbrev pub table_text : Record → List Cells → List ℕ
table_text names rows = lines_by (column_width (map title_of names ∷ shown_rows rows)) (map title_of names) rows

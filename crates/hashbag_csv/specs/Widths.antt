-- How wide the columns of a table are.
use Rattle.std.specs.Prelude.{◌≡◌, ℕ, List, [], ◌∷◌, false, get_or, max, chars}
use Rattle.unicode_width.specs.Width.{str_width}
use Rattle.hashbag_csv.specs.Readers.{Record}

-- how many columns of a terminal a cell takes
abbrev pub width_of : List ℕ → ℕ
width_of cell = str_width false (chars cell)

-- the width of the column k, counted from 0, of these lines: the width of the column's widest cell
abbrev pub column_width : List Record → ℕ → ℕ
column_width [] k = 0
column_width (line ∷ lines) k = max (width_of (get_or line k [])) (column_width lines k)

-- the widths of the columns of these lines
abbrev pub AreWidths : List Record → List ℕ → Type 0
AreWidths lines widths = (k : ℕ) → get_or widths k 0 ≡ column_width lines k

-- `wide` are the widths of the columns after a line of these cells is added
abbrev pub AreWidened : List ℕ → Record → List ℕ → Type 0
AreWidened widths cells wide = (k : ℕ) → get_or wide k 0 ≡ max (get_or widths k 0) (width_of (get_or cells k []))

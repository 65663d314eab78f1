-- Rows of cells.
use Rattle.std.specs.Prelude.{ℕ, Bool, true, false, List, ◌∷◌, decimal, map}
use Rattle.std.specs.Borrow.{Bor}
use Rattle.std.specs.Global.{Vec}
use Rattle.hashbag_csv.specs.Scales.{number_text}
use Rattle.hashbag_csv.specs.declared.cells.Cell.{Cell}
use Rattle.hashbag_csv.specs.declared.cells.Cell.TheVariants.{Text, Count, Number, Below}
use Rattle.hashbag_csv.specs.declared.scale.Scale.{Scale}

-- a cell, with the bytes of its text
abbrev pub CellBytes : Type 0
CellBytes = Cell (List ℕ) Scale

abbrev pub lent_cell : Cell (Bor (List ℕ)) Scale → CellBytes
lent_cell (Text text) = Text text.now
lent_cell (Count n) = Count n
lent_cell (Number n scale) = Number n scale
lent_cell (Below n scale) = Below n scale

-- the cells of a row
abbrev pub Cells : Type 0
Cells = List CellBytes

abbrev pub cells_of : Vec (Cell (Bor (List ℕ)) Scale) → Cells
cells_of cells = map lent_cell cells.items

-- the text of a cell: a number has all decimals of its scale, and below 0 a `-` before
abbrev pub text_of_cell : CellBytes → List ℕ
text_of_cell (Text text) = text
text_of_cell (Count n) = decimal n
text_of_cell (Number n scale) = number_text scale n
text_of_cell (Below n scale) = 45 ∷ number_text scale n

-- whether a cell is a text
abbrev pub holds_text : CellBytes → Bool
holds_text (Text text) = true
holds_text (Count n) = false
holds_text (Number n scale) = false
holds_text (Below n scale) = false

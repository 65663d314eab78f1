-- A row of cells, each empty or with a value.
use Rattle.std.specs.Prelude.{◌≡◌, ℕ, Bool, List, [], ◌∷◌, slice_index_or, if◌then◌else◌, Option, Some, None}

module _ {T : Type 0} where
  -- the cell at a place, and an empty one past the end
  abbrev pub cell_at : List (Option T) → ℕ → Option T
  cell_at cs p = slice_index_or cs p None

  -- the cell at the place has a value
  abbrev pub IsFilled : List (Option T) → ℕ → Type 0
  IsFilled cs p = (v : T) × (cell_at cs p ≡ Some v)

  -- no cell has a value
  abbrev pub IsBlank : List (Option T) → Type 0
  IsBlank cs = (p : ℕ) → cell_at cs p ≡ None

  -- the cells of a row with the values xs and the flags fs: each value, or None if its flag is false
  abbrev pub filled_values : List T → List Bool → List (Option T)
  filled_values [] fs = []
  filled_values (x ∷ xs) [] = []
  filled_values (x ∷ xs) (f ∷ fs) = (if f then Some x else None) ∷ filled_values xs fs

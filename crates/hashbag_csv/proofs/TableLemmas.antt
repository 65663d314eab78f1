-- The widths of columns, and lines that are appended cell by cell.
use Rattle.std.proofs.Common.{◌≡◌, ℕ, ◌+◌, ◌<◌, ◌≤◌, Bool, false, List, [], ◌∷◌, ◌++◌, length, get_or, drop, max, flat_map, sym, ap, ◌∙◌, arith, inl, inr, append_assoc}
use Rattle.std.proofs.Math.Nat.{max_comm}
use Rattle.std.proofs.lemmas.Bool.{cases_lt}
use Rattle.std.proofs.lemmas.List.{drop_all, drop_more, get_or_past}
use Rattle.std.proofs.lemmas.Str.{chars-nil}
use Rattle.unicode_width.specs.Width.{str_width}
use Rattle.hashbag_csv.specs.Cells.{Cells}
use Rattle.hashbag_csv.specs.Readers.{Record}
use Rattle.hashbag_csv.specs.Tables.{cell_text, gap, line_from, lines_by}
use Rattle.hashbag_csv.specs.Widths.{AreWidened, AreWidths, column_width, width_of}

-- ---- widths

-- no text has no width
pub no_width : width_of [] ≡ 0
unfolding str_width
no_width = ap (str_width false) chars-nil

-- a place past the last cell has no width
pub width_past : (cells : Record) (k : ℕ) → length cells ≤ k → width_of (get_or cells k []) ≡ 0
width_past cells k past = ap width_of (get_or_past cells k [] past) ∙ no_width

max_more : (a b c : ℕ) → max a (max b c) ≡ max (max a b) c
max_more a b c = grind arith

-- a line more
pub column_width_more : (lines : List Record) (line : Record) (k : ℕ) → column_width (lines ++ line ∷ []) k ≡ max (column_width lines k) (width_of (get_or line k []))
column_width_more [] line k = max_comm (width_of (get_or line k [])) 0
column_width_more (first ∷ lines) line k = ap (max (width_of (get_or first k []))) (column_width_more lines line k) ∙ max_more (width_of (get_or first k [])) (column_width lines k) (width_of (get_or line k []))

-- the widths of columns that have these cells too, one for each column
pub all_widened : (widths wide : List ℕ) (cells : Record) (n : ℕ) → length wide ≡ n → length widths ≤ n → length cells ≤ n
    → ((k : ℕ) → k < n → get_or wide k 0 ≡ max (get_or widths k 0) (width_of (get_or cells k []))) → AreWidened widths cells wide
all_widened widths wide cells n long few_widths few_cells each k = elim (cases_lt k n) [
  | inl below ↦ each k below
  | inr past ↦
      get_or_past wide k 0 (omega (arith, long, past))
      ∙ λ i. max (sym (get_or_past widths k 0 (omega (arith, few_widths, past))) i) (sym (width_past cells k (omega (arith, few_cells, past))) i)
]

-- ---- lines

module _ (texts : ℕ → Bool) (width : ℕ → ℕ) where
  -- a cell more
  pub line_more : (before after here table : List ℕ) (cells : Record) (k : ℕ) → k < length cells → table ++ line_from texts width k (drop k cells) ≡ here
      → before ≡ table ++ gap k → after ≡ before ++ cell_text (texts k) (width k) (get_or cells k []) → after ++ line_from texts width (k + 1) (drop (k + 1) cells) ≡ here
  line_more before after here table cells k below so_far gap_is cell_is =
      let rest = line_from texts width (k + 1) (drop (k + 1) cells) in
      let cell = cell_text (texts k) (width k) (get_or cells k []) in
      ap (λ l. l ++ rest) (cell_is ∙ ap (λ l. l ++ cell) gap_is ∙ append_assoc table (gap k) cell) ∙ append_assoc table (gap k ++ cell) rest
      ∙ ap (λ l. table ++ l) (append_assoc (gap k) cell rest ∙ sym (ap (line_from texts width k) (drop_more cells k [] below))) ∙ so_far

  -- no cell is left
  pub line_ends : (here table : List ℕ) (cells : Record) (k : ℕ) → length cells ≤ k → table ++ line_from texts width k (drop k cells) ≡ here → table ++ 10 ∷ [] ≡ here
  line_ends here table cells k all so_far = ap (λ l. table ++ line_from texts width k l) (sym (drop_all k cells all)) ∙ so_far

-- lines by widths that are those of the columns
pub by_widths : (titles : Record) (rows : List Cells) (lines : List Record) (widths : List ℕ) → AreWidths lines widths → lines_by (λ k. get_or widths k 0) titles rows ≡ lines_by (column_width lines) titles rows
by_widths titles rows lines widths are = λ i. lines_by (λ k. are k i) titles rows

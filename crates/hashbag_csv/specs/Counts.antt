-- The lines of a list of articles, each with a number.
use Rattle.std.specs.Prelude.{◌≡◌, ℕ, List, [], ◌∷◌, map, String, string_bytes, Some, None, false}
use Rattle.std.specs.Global.{Global}
use Rattle.hashbag_csv.specs.Lines.{lines_in}
use Rattle.hashbag_csv.specs.Readers.{Record}
use Rattle.hashbag_csv.specs.declared.counts.Reading.{Reading}
use Rattle.hashbag_csv.specs.declared.line_form.LineForm.{LineForm}

-- the plain form: articles are compared as they are, numbers aren't empty and have no group marks, and the list has a header
abbrev pub plain_form : LineForm
plain_form = record { key = record { trim = false; fold = false }; number = record { blank_is_zero = false; group = None }; allows_short = false; no_header = false }

-- a line as bytes: its article, and its number
abbrev pub count_line : String Global × ℕ → Record × ℕ
count_line line = (string_bytes line.0 ∷ [], line.1)

-- the lines of a text, whose columns of articles and of numbers have these names
abbrev pub counts_in : Reading → List ℕ → List ℕ → List ℕ → List (Record × ℕ)
counts_in reading article number text = lines_in reading plain_form (article ∷ []) (Some number) text

-- a list of articles with numbers has the lines of a text, in their order
abbrev pub AreCountsIn : Reading → List ℕ → List ℕ → List ℕ → List (String Global × ℕ) → Type 0
AreCountsIn reading article number text counts = map count_line counts ≡ counts_in reading article number text

-- For each article, the fields that its first line has in other columns.
use Rattle.std.specs.Prelude.{◌≡◌, ℕ, Bool, false, List, [], ◌∷◌, ◌++◌, map, option_map, unwrap_or, String}
use Rattle.std.specs.Global.{Global, Vec}
use Rattle.std.specs.HashMap.{HashMap, get}
use Rattle.std.specs.Map.{lookup}
use Rattle.std.specs.String.{string_bytes}
use Rattle.hashbag_csv.specs.Articles.{same_article}
use Rattle.hashbag_csv.specs.Lines.{fields_at, list_in, place_of}
use Rattle.hashbag_csv.specs.Readers.{Record}
use Rattle.hashbag_csv.specs.Sheets.{left, place, read_last}
use Rattle.hashbag_csv.specs.declared.delimiter.Delimiter.{Delimiter}
use Rattle.hashbag_csv.specs.declared.first_lines.CarriedColumns.{CarriedColumns}
use Rattle.hashbag_csv.specs.declared.first_lines.Names.{Names}
use Rattle.hashbag_csv.specs.declared.key_form.KeyForm.{KeyForm}
use Rattle.hashbag_csv.specs.declared.line_form.LineForm.{LineForm}
use Rattle.hashbag_csv.specs.declared.sheet.Sheet.{Sheet}

-- the form of fields that are read as they are
abbrev pub as_it_is : KeyForm
as_it_is = record { trim = false; fold = false }

-- the fields of a record's article, and its carried fields
abbrev pub Carried : Type 0
Carried = Record × Record

-- the article and carried fields of a record, by the places `keys` and `carried`
abbrev pub carried_at : KeyForm → List ℕ → List ℕ → Record → Carried
carried_at form keys carried r = (fields_at form keys r, fields_at as_it_is carried r)

-- the article and carried fields of a record, by these columns
abbrev pub carried_by : KeyForm → CarriedColumns → Record → Carried
carried_by form columns = carried_at form (map place columns.keys.items) (map place columns.carried.items)

-- the article and carried fields of the record that was read last, in a list
abbrev pub carried_last : KeyForm → CarriedColumns → Sheet → List Carried
carried_last form columns s = carried_by form columns (read_last s) ∷ []

-- the articles and carried fields of the records that aren't read
abbrev pub carried_left : KeyForm → CarriedColumns → Sheet → List Carried
carried_left form columns s = map (carried_by form columns) (left s)

-- the articles and carried fields below a header, which is the first of these records; `keys` and `carried` name its columns; a column that
-- the header lacks is empty in each record
abbrev pub carried_under : KeyForm → List (List ℕ) → List (List ℕ) → List Record → List Carried
carried_under form keys carried [] = []
carried_under form keys carried (header ∷ records) = map (carried_at form (map (place_of header) keys) (map (place_of header) carried)) records

-- the articles and carried fields of the lines of a text; `keys` and `carried` name its columns
abbrev pub carried_in : Delimiter → LineForm → List (List ℕ) → List (List ℕ) → List ℕ → List Carried
carried_in delimiter form keys carried text = carried_under form.key keys carried (list_in delimiter form text)

-- the articles and carried fields of the lines of a text, with the names of columns in `names`
abbrev pub carried_named : Names → Delimiter → LineForm → List ℕ → List Carried
carried_named names delimiter form text = carried_in delimiter form (map (λ k. k.now) names.keys.now) (map (λ k. k.now) names.carried.now) text

-- the carried fields of an article: the fields of the first line that has it, and none if no line has it
abbrev pub first_of : Record → List Carried → Record
first_of article lines = unwrap_or (lookup (same_article article) lines) []

-- a map has each article of `lines` and no other, with the carried fields of the first line that has the article
abbrev pub HasFirsts : {A S : Type 0} → (A → A → Bool) → (A → Record) → List Carried → HashMap A (Vec (String Global)) S → Type 0
HasFirsts {A} eq fields lines m = (v : A) → option_map (λ t. map string_bytes t.items) (get eq m v) ≡ lookup (same_article (fields v)) lines

-- if the map `old` has the first fields of lines K (`HasFirsts`), `new` has the first fields of K followed by `added`
abbrev pub AddsFirsts : {A S : Type 0} → (A → A → Bool) → (A → Record) → List Carried → HashMap A (Vec (String Global)) S → HashMap A (Vec (String Global)) S → Type 0
AddsFirsts eq fields added old new = (K : List Carried) → HasFirsts eq fields K old → HasFirsts eq fields (K ++ added) new

-- the lines of a text are added, with the names of columns in `names`
abbrev pub AddsFirstsOf : {A S : Type 0} → (A → A → Bool) → (A → Record) → Names → Delimiter → LineForm → List ℕ → HashMap A (Vec (String Global)) S → HashMap A (Vec (String Global)) S → Type 0
AddsFirstsOf eq fields names delimiter form text old new = AddsFirsts eq fields (carried_named names delimiter form text) old new

-- if the map has the first fields of lines K, `found` are the carried fields of the first line of K with this article
abbrev pub AreFirstFields : {A S : Type 0} → (A → A → Bool) → (A → Record) → HashMap A (Vec (String Global)) S → A → List (String Global) → Type 0
AreFirstFields eq fields firsts article found = (K : List Carried) → HasFirsts eq fields K firsts → map string_bytes found ≡ first_of (fields article) K

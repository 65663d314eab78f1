-- Which rows are written, and the bytes of their fields.
use Rattle.std.specs.Prelude.{◌≡◌, ℕ, Bool, true, List, [], ◌∷◌, String, bytes_eq, codes, filter, map, nat_lt, not}
use Rattle.std.specs.Borrow.{Bor}
use Rattle.std.specs.Global.{Global, Vec}
use Rattle.std.specs.HashMap.{HashMap}
use Rattle.std.specs.Option.{unwrap_or}
use Rattle.std.specs.String.{string_bytes}
use Rattle.hashbag_csv.specs.FirstLines.{Carried, HasFirsts, first_of}
use Rattle.hashbag_csv.specs.Readers.{Record}
use Rattle.hashbag_text.specs.Names.{named_in}
use Rattle.hashbag_match_lib.specs.Matching.{agrees, missing_of, surplus_of}
use Rattle.hashbag_match_lib.specs.declared.matching.Row.{Row}
use Rattle.hashbag_match_lib.specs.declared.shown.Fields.{Fields}
use Rattle.hashbag_match_lib.specs.declared.shown.Only.{Only}
use Rattle.hashbag_match_lib.specs.declared.shown.Only.TheVariants as only

-- the names of the choices; any other name means all rows
abbrev pub only_named : List ℕ → Only
only_named name =
    unwrap_or (named_in ((codes "missing", only.Missing) ∷ (codes "surplus", only.Surplus) ∷ (codes "differing", only.Differing) ∷ []) (bytes_eq name)) only.All

module _ {T : Type 0} where
  -- whether a row is written
  abbrev pub is_shown : Only → Row T → Bool
  is_shown only.Missing row = nat_lt 0 (missing_of row)
  is_shown only.Surplus row = nat_lt 0 (surplus_of row)
  is_shown only.Differing row = not (agrees row)
  is_shown only.All row = true

  -- the rows that are written
  abbrev pub shown_rows : Only → List (Row T) → List (Row T)
  shown_rows which rows = filter (is_shown which) rows

-- the row of an article, with the bytes of its fields
abbrev pub bytes_row : {A : Type 0} → (A → Record) → Row (Bor A) → Row Record
bytes_row fields row = record { article = fields row.article.now; ordered = row.ordered; delivered = row.delivered }

-- a row of fields, as bytes: the fields of its article, and the carried fields
abbrev pub Entry : Type 0
Entry = Row Carried

-- the bytes of the fields of a row
abbrev pub entry_of : Row Fields → Entry
entry_of row = record {
  article = (map string_bytes row.article.article.now, map string_bytes row.article.carried.now);
  ordered = row.ordered;
  delivered = row.delivered;
}

-- the same of each row
abbrev pub entries_of : List (Row Fields) → List Entry
entries_of rows = map entry_of rows

-- a row with the carried fields of the first line with its article
abbrev pub with_first : List Carried → Row Record → Entry
with_first K row = record { article = (row.article, first_of row.article K); ordered = row.ordered; delivered = row.delivered }

module _ {A S : Type 0} (eq : A → A → Bool) (fields : A → Record) (firsts : HashMap A (Vec (String Global)) S) where
  -- if the map has the first fields of lines K, `texts` are the carried fields of the first line of K with this article
  abbrev pub AreFieldsAlong : A → List (String Global) → Type 0
  AreFieldsAlong article texts = (K : List Carried) → HasFirsts eq fields K firsts → map string_bytes texts ≡ first_of (fields article) K

  -- `shown` are the rows that are written, each with the carried fields of the first line with its article
  abbrev pub AreShownRows : Only → List (Row (Bor A)) → List (Row Fields) → Type 0
  AreShownRows which rows shown =
      (K : List Carried) → HasFirsts eq fields K firsts → entries_of shown ≡ map (with_first K) (shown_rows which (map (bytes_row fields) rows))

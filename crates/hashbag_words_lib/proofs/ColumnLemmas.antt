-- The fields of a column, record by record.
use Rattle.std.proofs.Common.{◌≡◌, ℕ, List, [], ◌∷◌, ◌++◌, sym, ◌∙◌, ap, append_assoc}
use Rattle.hashbag_csv.specs.Lines.{place_of}
use Rattle.hashbag_csv.specs.Readers.{Record}
use Rattle.hashbag_words_lib.specs.Columns.{column_at, column_under}

-- one record more was read
pub field_read : (p : ℕ) (all D : List (List ℕ)) (before after : List Record) (r : Record) (field : List ℕ)
    → all ≡ D ++ column_at p before → before ≡ r ∷ after → column_at p (r ∷ []) ≡ field ∷ [] → all ≡ (D ++ field ∷ []) ++ column_at p after
field_read p all D before after r field is next same =
    is ∙ ap (λ (l : List Record). D ++ column_at p l) next ∙ ap (λ (l : List (List ℕ)). D ++ (l ++ column_at p after)) same ∙ sym (append_assoc D (field ∷ []) (column_at p after))

-- the fields below the header, by the place of the column
pub all_fields : (name : List ℕ) (all : List Record) (header : Record) (records : List Record) (p : ℕ)
    → all ≡ header ∷ records → p ≡ place_of header name → column_at p records ≡ column_under name all
all_fields name all header records p is at = ap (λ (q : ℕ). column_at q records) at ∙ ap (column_under name) (sym is)

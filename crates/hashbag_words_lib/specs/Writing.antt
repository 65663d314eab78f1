-- The bytes that are written of rows.
use Rattle.std.specs.Prelude.{ℕ, ◌-◌, ◌^◌, Bool, true, false, List, [], ◌∷◌, ◌++◌, decimal}
use Rattle.std.specs.Fmt.{format_spec, styled_decimal}
use Rattle.json.specs.Print.{print}
use Rattle.json.specs.Token.{Token, begin_array, end_array, string, number}
use Rattle.hashbag_words_lib.specs.Rows.{row}
use Rattle.hashbag_words_lib.specs.Shares.{hundredths_of, two_decimals}
use Rattle.hashbag_words_lib.specs.declared.writing.Format.{Format}
use Rattle.hashbag_words_lib.specs.declared.writing.Format.TheVariants.{Tsv, Shares, Json, Uniq}

-- the row, a tab, the count as percent of the total, and a line feed
abbrev pub shares_text : ℕ → List ℕ × ℕ → List ℕ
shares_text total r = row r.0 r.1 ++ 9 ∷ (two_decimals (hundredths_of total r.1) ++ 10 ∷ [])

-- the count as `{:7}` prints it, a space, the token, and a line feed
abbrev pub uniq_text : List ℕ × ℕ → List ℕ
uniq_text r = styled_decimal (format_spec 32 0 0 7 (2 ^ 64 - 1)) r.1 ++ 32 ∷ (r.0 ++ 10 ∷ [])

-- an array of the token and the count
abbrev pub pair_tokens : List ℕ × ℕ → List Token
pair_tokens r = begin_array ∷ string r.0 ∷ number (decimal r.1) ∷ end_array ∷ []

-- the text of an array of the token and the count, without a space
abbrev pub pair_text : List ℕ × ℕ → List ℕ
pair_text r = print (pair_tokens r)

-- the text of a row
abbrev pub row_text : Format → List ℕ × ℕ → List ℕ
row_text Tsv r = row r.0 r.1 ++ 10 ∷ []
row_text (Shares total) r = shares_text total r
row_text Json r = pair_text r
row_text Uniq r = uniq_text r

-- what comes before a row: in JSON a comma, unless the row is the first
abbrev pub comma : Format → Bool → List ℕ
comma Tsv first = []
comma (Shares total) first = []
comma Json true = []
comma Json false = 44 ∷ []
comma Uniq first = []

-- the text of a row with what comes before it; `first` says whether it is the first row of all
abbrev pub next_row_text : Format → Bool → List ℕ × ℕ → List ℕ
next_row_text format first r = comma format first ++ row_text format r

-- what comes before all rows
abbrev pub head_text : Format → List ℕ
head_text Tsv = []
head_text (Shares total) = []
head_text Json = 91 ∷ []
head_text Uniq = []

-- what comes after all rows
abbrev pub end_text : Format → List ℕ
end_text Tsv = []
end_text (Shares total) = []
end_text Json = 93 ∷ 10 ∷ []
end_text Uniq = []

-- the text of rows; `first` says whether they begin with the first row of all
abbrev pub rows_text : Format → Bool → List (List ℕ × ℕ) → List ℕ
rows_text format first [] = []
rows_text format first (r ∷ rows) = (comma format first ++ row_text format r) ++ rows_text format false rows

-- the whole text of rows
abbrev pub text_of : Format → List (List ℕ × ℕ) → List ℕ
text_of format rows = head_text format ++ (rows_text format true rows ++ end_text format)

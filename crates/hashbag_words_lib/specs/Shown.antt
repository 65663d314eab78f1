-- Which of the counted texts are shown, and the bytes that show them.
use Rattle.std.specs.Prelude.{◌≡◌, ◌<◌, ℕ, List, [], All, length, sum_by, take, String}
use Rattle.std.specs.Global.{Global}
use Rattle.std.specs.List.{IsDistinct}
use Rattle.std.specs.List.Sorted.{IsStrictlySortedBy}
use Rattle.std.specs.Map.{keys_of}
use Rattle.std.specs.Str.{bytes_eq}
use Rattle.hashbag_core.specs.Bag.{Bag}
use Rattle.hashbag_core.specs.Occurrences.{count}
use Rattle.hashbag_ops.specs.Order.{rank}
use Rattle.hashbag_words_lib.specs.Bars.{bars_text}
use Rattle.hashbag_words_lib.specs.Choice.{shown_count, KeepsShown}
use Rattle.hashbag_words_lib.specs.Counts.{HasTokens}
use Rattle.hashbag_words_lib.specs.RowText.{bytes_left}
use Rattle.hashbag_words_lib.specs.Sorted.{text_cmp, times_in, Rises}
use Rattle.hashbag_words_lib.specs.Writing.{text_of}
use Rattle.hashbag_words_lib.specs.declared.choice.Choice.{Choice}
use Rattle.hashbag_words_lib.specs.declared.choice.Order.{Order}
use Rattle.hashbag_words_lib.specs.declared.choice.Order.TheVariants.{Ascending, MostCommon}
use Rattle.hashbag_words_lib.specs.declared.shown_text.Look.{Look}
use Rattle.hashbag_words_lib.specs.declared.shown_text.Look.TheVariants.{Rows as InRows, Shares as WithShares, Bars as WithBars}
use Rattle.hashbag_words_lib.specs.declared.shown_text.Shown.{Shown}
use Rattle.hashbag_words_lib.specs.declared.shown_text.Shown.TheVariants.{Rows, Bars}
use Rattle.hashbag_words_lib.specs.declared.writing.Format.TheVariants.{Shares}

-- the rows have each text of the list that `choice` shows, once, with its count in the list, which is at least 1, and no other text
pub record HasShown (choice : Choice) (texts : List (List ℕ)) (rows : List (List ℕ × ℕ)) : Type 0 where
  pub once : IsDistinct bytes_eq (keys_of rows)
  pub counts : (text : List ℕ) → times_in text rows ≡ shown_count choice text (count bytes_eq text texts)
  pub positive : All (λ r. 0 < r.1) rows

-- these rows are shown. `Ascending`: all, with tokens in ascending order. `MostCommon k`: the first k of all, the most common first, and rows with
-- equal counts in ascending order of tokens
abbrev pub AreShown : Order → Choice → List (List ℕ) → List (List ℕ × ℕ) → Type 0
AreShown Ascending choice texts rows = HasShown choice texts rows × Rises rows
AreShown (MostCommon k) choice texts rows =
    (all : List (List ℕ × ℕ)) × HasShown choice texts all × IsStrictlySortedBy (rank text_cmp) all × (rows ≡ take k all)

-- the bytes show these tokens, as `choice` says, and `written` is the text of rows
pub record IsShownAs (choice : Choice) (written : List (List ℕ × ℕ) → List ℕ) (texts : List (List ℕ)) (bytes : List ℕ) : Type 0 where
  pub rows : List (List ℕ × ℕ)
  pub shown : AreShown choice.order choice texts rows
  pub is : bytes ≡ written rows

-- for any list of tokens: if the bag has exactly the tokens of the list that are shown, with their counts, the bytes show the list
abbrev pub ShowsKept : {S : Type 0} → Choice → (List (List ℕ × ℕ) → List ℕ) → Bag (String Global) S → List ℕ → Type 0
ShowsKept choice written bag bytes = (texts : List (List ℕ)) → KeepsShown choice texts bag → IsShownAs choice written texts bytes

-- the bytes show these tokens, as `choice` and `look` say. A share is of the number of all tokens, shown or not
abbrev pub ShowsTexts : Choice → Look → List (List ℕ) → List ℕ → Type 0
ShowsTexts choice (InRows format) texts bytes = IsShownAs choice (text_of format) texts bytes
ShowsTexts choice WithShares texts bytes = IsShownAs choice (text_of (Shares (length texts))) texts bytes
ShowsTexts choice (WithBars width) texts bytes = IsShownAs choice (bars_text width) texts bytes

-- the bytes show the tokens that the bag has
abbrev pub ShowsCounted : {S : Type 0} → Choice → Look → Bag (String Global) S → List ℕ → Type 0
ShowsCounted choice look bag bytes = (texts : List (List ℕ)) → HasTokens bag texts → ShowsTexts choice look texts bytes

-- the rows count exactly these tokens
abbrev pub CountTexts : List (List ℕ × ℕ) → List (List ℕ) → Type 0
CountTexts rows texts = (text : List ℕ) → times_in text rows ≡ count bytes_eq text texts

-- all bytes of a text
abbrev pub shown_bytes : Shown → List ℕ
shown_bytes (Rows text) = bytes_left text
shown_bytes (Bars text) = text.items

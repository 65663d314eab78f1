-- Sums of sorted rows that are written as they come.
use Rattle.std.specs.Prelude.{◌≡◌, ◌≢◌, ℕ, ◌+◌, ◌<◌, Bool, true, false, List, [], ◌∷◌, ◌++◌, All, filter, String, string_bytes, Option, None, Some}
use Rattle.std.specs.Global.{Global}
use Rattle.std.specs.List.{AllByRecursion}
use Rattle.std.specs.List.Sorted.{IsStrictlySortedBy}
use Rattle.std.specs.Map.{keys_of}
use Rattle.std.specs.declared.cmp.Ordering.{Ordering}
use Rattle.std.specs.declared.cmp.Ordering.TheVariants.{Less, Greater}
use Rattle.hashbag_words_lib.specs.Choice.{shows}
use Rattle.hashbag_words_lib.specs.Rows.{escaped}
use Rattle.hashbag_words_lib.specs.Sorted.{of_row, row_of, text_cmp, times_in}
use Rattle.hashbag_words_lib.specs.Writing.{head_text, rows_text, text_of}
use Rattle.hashbag_words_lib.specs.declared.choice.Choice.{Choice}
use Rattle.hashbag_words_lib.specs.declared.sums.Sums.{Sums}
use Rattle.hashbag_words_lib.specs.declared.writing.Format.{Format}

-- the beginning of the line of a token in `tsv`: the token as it is written, and the tab
abbrev pub line_start : List ℕ → List ℕ
line_start token = escaped token ++ 9 ∷ []

-- the order of lines of `tsv` by `LC_ALL=C sort`, if their tokens differ
abbrev pub line_cmp : List ℕ → List ℕ → Ordering
line_cmp x y = text_cmp (line_start x) (line_start y)

-- `sums` has each token that these rows count, once, with the sum of its counts, in the order of lines, and no token with the sum 0
pub record AreSums (rows sums : List (List ℕ × ℕ)) : Type 0 where
  pub rises : IsStrictlySortedBy line_cmp (keys_of sums)
  pub counts : (text : List ℕ) → times_in text sums ≡ times_in text rows
  pub some : All (λ row. 0 < row.1) sums

-- the rows that are shown
abbrev pub chosen_of : Choice → List (List ℕ × ℕ) → List (List ℕ × ℕ)
chosen_of choice rows = filter (shows choice) rows

-- whether there are no rows
abbrev pub is_none : List (List ℕ × ℕ) → Bool
is_none [] = true
is_none (row ∷ rows) = false

-- ---- how far the sums are

-- what the held row counts of a text
abbrev pub held_count : List ℕ → Option (String Global × ℕ) → ℕ
held_count text None = 0
held_count text (Some row) = of_row text (row_of row)

-- each of these tokens comes before the line that begins so; or none comes after it
abbrev pub AreBefore : List ℕ → List (List ℕ × ℕ) → Type 0
AreBefore start rows = AllByRecursion (λ token. text_cmp (line_start token) start ≡ Less) (keys_of rows)

abbrev pub AreUpTo : List ℕ → List (List ℕ × ℕ) → Type 0
AreUpTo start rows = AllByRecursion (λ token. text_cmp (line_start token) start ≢ Greater) (keys_of rows)

-- the held row is of this token
abbrev pub IsHeld : Option (String Global × ℕ) → List ℕ → Type 0
IsHeld None token = ⊥
IsHeld (Some row) token = string_bytes row.0 ≡ token

-- `start` is the beginning of the line of the held token, and the tokens that are done come before it. If none is held, none was given
abbrev pub HoldsLast : Option (String Global × ℕ) → List ℕ → List (List ℕ × ℕ) → Type 0
HoldsLast None start done = done ≡ []
HoldsLast (Some row) start done = (start ≡ line_start (string_bytes row.0)) × AreBefore start done

-- the bytes are the text of those of these rows that are shown, without its end, and `is_empty` says whether none is
pub record AreBuilt (shown : Choice × Format) (bytes : List ℕ) (is_empty : Bool) (done : List (List ℕ × ℕ)) : Type 0 where
  pub built : bytes ≡ head_text shown.1 ++ rows_text shown.1 true (chosen_of shown.0 done)
  pub none : is_empty ≡ is_none (chosen_of shown.0 done)

-- these rows were given: `done` and the held row are their sums, and the bytes show `done`
pub record IsSummed (shown : Choice × Format) (bytes : List ℕ) (is_empty : Bool) (held : Option (String Global × ℕ)) (start : List ℕ) (rows : List (List ℕ × ℕ)) : Type 0 where
  pub done : List (List ℕ × ℕ)
  pub rises : IsStrictlySortedBy line_cmp (keys_of done)
  pub some : All (λ row. 0 < row.1) done
  pub counts : (text : List ℕ) → times_in text done + held_count text held ≡ times_in text rows
  pub last : HoldsLast held start done
  pub are : AreBuilt shown bytes is_empty done

-- these rows were given, and `done` are their sums: none is held
pub record IsDone (shown : Choice × Format) (bytes : List ℕ) (is_empty : Bool) (start : List ℕ) (rows : List (List ℕ × ℕ)) : Type 0 where
  pub done : List (List ℕ × ℕ)
  pub sums_are : AreSums rows done
  pub up_to : AreUpTo start done
  pub are : AreBuilt shown bytes is_empty done

-- the rows that were given are summed, and shown by this choice in this format
abbrev pub HasSums : {W : Type 0} → (W → List ℕ) → Option (Choice × Format) → Sums W → List (List ℕ × ℕ) → Type 0
HasSums written None sums rows = ⊥
HasSums written (Some shown) sums rows =
    (sums.choice ≡ shown.0) × (sums.format ≡ shown.1) × IsSummed shown (written sums.to ++ sums.part.items) sums.is_empty sums.held sums.start.items rows

-- the same once none is held
abbrev pub HasDone : {W : Type 0} → (W → List ℕ) → Option (Choice × Format) → Sums W → List (List ℕ × ℕ) → Type 0
HasDone written None sums rows = ⊥
HasDone written (Some shown) sums rows =
    (sums.choice ≡ shown.0) × (sums.format ≡ shown.1) × IsDone shown (written sums.to ++ sums.part.items) sums.is_empty sums.start.items rows

-- ---- what a call changes

-- whatever rows were given, the held one is done
abbrev pub EndsRow : {W : Type 0} → (W → List ℕ) → Sums W → Sums W → Type 0
EndsRow written old new = (shown : Option (Choice × Format)) → (rows : List (List ℕ × ℕ)) → HasSums written shown old rows → HasDone written shown new rows

-- these bytes are the text of the sums of these rows, of which those are shown that the choice shows
pub record IsTextOfSums (shown : Choice × Format) (rows : List (List ℕ × ℕ)) (bytes : List ℕ) : Type 0 where
  pub sums : List (List ℕ × ℕ)
  pub sums_are : AreSums rows sums
  pub is : bytes ≡ text_of shown.1 (chosen_of shown.0 sums)

-- whatever rows were given, their text is written whole: to this output
abbrev pub EndsSumsIn : {W : Type 0} → (W → List ℕ) → Sums W → W → Type 0
EndsSumsIn written old to =
    (shown : Choice × Format) → (rows : List (List ℕ × ℕ)) → HasSums written (Some shown) old rows → IsTextOfSums shown rows (written to)

abbrev pub EndsSums : {W : Type 0} → (W → List ℕ) → Sums W → Sums W → Type 0
EndsSums written old new = EndsSumsIn written old new.to

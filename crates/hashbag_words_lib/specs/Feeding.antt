-- What a counter has of texts that are fed in blocks.
use mathlib.Core.Logic.{inl, inr}
use Rattle.std.specs.Prelude.{◌≡◌, ◌⊎◌, ℕ, List, [], ◌∷◌, ◌++◌, All, flat_map, Option}
use Rattle.std.specs.Str.Lines.{lines}
use Rattle.hashbag_words_lib.specs.Added.{AreRowsOf, HasAdded}
use Rattle.hashbag_words_lib.specs.Counted.{HasCounted, NoneIsBad}
use Rattle.hashbag_words_lib.specs.Tokens.{tokens_of}
use Rattle.hashbag_words_lib.specs.declared.choice.Choice.{Choice}
use Rattle.hashbag_words_lib.specs.declared.counter.TextCounter.{TextCounter}
use Rattle.hashbag_words_lib.specs.declared.lines.BadLines.{BadLines}
use Rattle.hashbag_words_lib.specs.declared.lines.BadLines.TheVariants.{Rejected}
use Rattle.hashbag_words_lib.specs.declared.row_counter.RowCounter.{RowCounter}
use Rattle.hashbag_words_lib.specs.declared.rows.RowForm.{RowForm}
use Rattle.hashbag_words_lib.specs.declared.rule.Rule.{Rule}
use Rattle.hashbag_words_lib.specs.declared.writing.Format.{Format}

-- how texts are counted: by a rule; or as files of counts, whose lines have this form. Bad lines are errors, or are skipped. If rows are written as
-- they come, the last part says which ones, and in which format
abbrev pub How : Type 0
How = (Rule × BadLines) ⊎ (RowForm × BadLines × Option (Choice × Format))

-- if bad lines are rejected, no line of these texts is bad
abbrev pub ArePassed : Rule → BadLines → List (List ℕ) → Type 0
ArePassed rule bad_lines texts = bad_lines ≡ Rejected → All (λ (text : List ℕ). NoneIsBad rule (lines text)) texts

-- these are the rows of whole files, in turn
abbrev pub AreRowsOfAll : RowForm → BadLines → List (List ℕ) → List (List ℕ × ℕ) → Type 0
AreRowsOfAll form bad_lines [] rows = rows ≡ []
AreRowsOfAll form bad_lines (text ∷ texts) rows =
    (first : List (List ℕ × ℕ)) × (later : List (List ℕ × ℕ)) × AreRowsOf form bad_lines text first × AreRowsOfAll form bad_lines texts later × (rows ≡ first ++ later)

-- ---- what a counter has: of texts that ended, and of one that has begun. `has sink items`: the sink has these tokens, or these rows

-- the counter has the tokens of `texts`, which ended, and has counted `text` so far
pub record HasCountedTokens {K : Type 0} (has : K → List (List ℕ) → Type 0) (rule : Rule) (bad_lines : BadLines) (counter : TextCounter K) (texts : List (List ℕ)) (text : List ℕ) : Type 0 where
  pub same_rule : counter.rule ≡ rule
  pub same_lines : counter.reading.bad_lines ≡ bad_lines
  pub passed : ArePassed rule bad_lines texts
  pub counted : HasCounted has (flat_map (tokens_of rule) texts) counter text

abbrev pub HasCountedTexts : {K : Type 0} → (K → List (List ℕ) → Type 0) → How → TextCounter K → List (List ℕ) → List ℕ → Type 0
HasCountedTexts has (inl tokens) counter texts text = HasCountedTokens has tokens.0 tokens.1 counter texts text
HasCountedTexts has (inr lines) counter texts text = ⊥

-- the counter has the rows of `texts`, which ended, and has added `text` so far
pub record HasAddedRows {K : Type 0} (has : Option (Choice × Format) → K → List (List ℕ × ℕ) → Type 0) (form : RowForm) (bad_lines : BadLines) (shown : Option (Choice × Format)) (counter : RowCounter K) (texts : List (List ℕ)) (text : List ℕ) : Type 0 where
  pub same_form : counter.form ≡ form
  pub same_lines : counter.reading.bad_lines ≡ bad_lines
  pub rows : List (List ℕ × ℕ)
  pub are : AreRowsOfAll form bad_lines texts rows
  pub added : HasAdded has shown rows counter text

abbrev pub HasAddedTexts : {K : Type 0} → (Option (Choice × Format) → K → List (List ℕ × ℕ) → Type 0) → How → RowCounter K → List (List ℕ) → List ℕ → Type 0
HasAddedTexts has (inl tokens) counter texts text = ⊥
HasAddedTexts has (inr lines) counter texts text = HasAddedRows has lines.0 lines.1 lines.2 counter texts text

-- ---- what a call changes, for any texts that ended, and any text that has begun. `has` says what a counter has

module _ {C : Type 0} (has : How → C → List (List ℕ) → List ℕ → Type 0) where
  -- the new counter has these bytes of the text too
  abbrev pub AddsFed : C → C → List ℕ → Type 0
  AddsFed old new bytes = (how : How) → (texts : List (List ℕ)) → (text : List ℕ) → has how old texts text → has how new texts (text ++ bytes)

  -- the new counter has the text among those that ended, and none has begun
  abbrev pub EndsText : C → C → Type 0
  EndsText old new = (how : How) → (texts : List (List ℕ)) → (text : List ℕ) → has how old texts text → has how new (texts ++ text ∷ []) []

  -- the new counter has all of these texts too, from their beginnings to their ends
  abbrev pub CountsTexts : C → C → List (List ℕ) → Type 0
  CountsTexts old new more = (how : How) → (texts : List (List ℕ)) → has how old texts [] → has how new (texts ++ more) []

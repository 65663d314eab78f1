-- What a counter has counted of the texts that it was given, however they were cut.
use Rattle.std.specs.Prelude.{◌≡◌, ◌≢◌, ℕ, ◌+◌, ◌-◌, ◌^◌, Bool, true, false, List, [], ◌∷◌, ◌++◌, All, length, min, filter}
use Rattle.std.specs.Str.Lines.{lines}
use Rattle.hashbag_words_lib.specs.LineEnds.{EndsLine}
use Rattle.hashbag_words_lib.specs.Tokens.{is_bad, is_replaced, tokens_of}
use Rattle.hashbag_words_lib.specs.declared.counter.TextCounter.{TextCounter}
use Rattle.hashbag_words_lib.specs.declared.lines.BadLines.TheVariants.{Rejected}
use Rattle.hashbag_words_lib.specs.declared.lines.LinesRead.{LinesRead}
use Rattle.hashbag_words_lib.specs.declared.rule.Rule.{Rule}

-- no byte is a line feed
abbrev pub NoLineFeed : List ℕ → Type 0
NoLineFeed xs = All (λ x. x ≢ 10) xs

-- how many of these lines pass the test
abbrev pub how_many : (List ℕ → Bool) → List (List ℕ) → ℕ
how_many test texts = length (filter test texts)

-- no line is bad
abbrev pub NoneIsBad : Rule → List (List ℕ) → Type 0
NoneIsBad rule texts = All (λ line. is_bad rule line ≡ false) texts

-- one line more was skipped, up to `u64::MAX`
abbrev pub SkipsLine : LinesRead → LinesRead → Type 0
SkipsLine old new = new.skipped ≡ min (old.skipped + 1) (2 ^ 64 - 1)

-- the bytes of one line more were replaced, up to `u64::MAX`
abbrev pub ReplacesLine : LinesRead → LinesRead → Type 0
ReplacesLine old new = new.replaced ≡ min (old.replaced + 1) (2 ^ 64 - 1)

-- the line that was read last is the first bad line of the text, and bad lines are rejected
pub record IsFirstBad (rule : Rule) (text : List ℕ) (reading : LinesRead) : Type 0 where
  pub front : List (List ℕ)
  pub bad : List ℕ
  pub rest : List (List ℕ)
  pub cut : lines text ≡ front ++ bad ∷ rest
  pub good : NoneIsBad rule front
  pub is : is_bad rule bad ≡ true
  pub line : reading.line ≡ min (length front + 1) (2 ^ 64 - 1)
  pub rejected : reading.bad_lines ≡ Rejected

-- how the lines of a whole text were read
pub record IsReadingOf (rule : Rule) (text : List ℕ) (reading : LinesRead) : Type 0 where
  pub line : reading.line ≡ min (length (lines text)) (2 ^ 64 - 1)
  pub skipped : reading.skipped ≡ min (how_many (is_bad rule) (lines text)) (2 ^ 64 - 1)
  pub replaced : reading.replaced ≡ min (how_many (is_replaced rule) (lines text)) (2 ^ 64 - 1)
  pub passed : reading.bad_lines ≡ Rejected → NoneIsBad rule (lines text)

-- ---- what a sink has of texts. `has sink tokens`: the sink has these tokens

module _ {K : Type 0} (has : K → List (List ℕ) → Type 0) where
  -- `text` is `ended` followed by `partial`, the bytes after the last line feed. The sink has the tokens `before`, of earlier texts, and the tokens of
  -- `ended`
  pub record Counted (rule : Rule) (before : List (List ℕ)) (sink : K) (partial : List ℕ) (reading : LinesRead) (text : List ℕ) : Type 0 where
    pub ended : List ℕ
    pub cut : text ≡ ended ++ partial
    pub ends : EndsLine ended
    pub unended : NoLineFeed partial
    pub counts : has sink (before ++ tokens_of rule ended)
    pub line : reading.line ≡ min (length (lines ended)) (2 ^ 64 - 1)
    pub skipped : reading.skipped ≡ min (how_many (is_bad rule) (lines ended)) (2 ^ 64 - 1)
    pub replaced : reading.replaced ≡ min (how_many (is_replaced rule) (lines ended)) (2 ^ 64 - 1)
    pub passed : reading.bad_lines ≡ Rejected → NoneIsBad rule (lines ended)

  -- the counter has counted the tokens `before` and then this text so far
  abbrev pub HasCounted : List (List ℕ) → TextCounter K → List ℕ → Type 0
  HasCounted before counter text = Counted counter.rule before counter.sink counter.partial.items counter.reading text

  -- the counter has counted the tokens `before` and then this whole text
  abbrev pub HasEnded : Rule → List (List ℕ) → TextCounter K → List ℕ → Type 0
  HasEnded rule before counter text = has counter.sink (before ++ tokens_of rule text) × IsReadingOf rule text counter.reading

  -- ---- what a call changes, for any tokens that were counted before, and any text so far

  -- if the old counter had counted `text`, the new counter has counted `text` and then these bytes
  abbrev pub CountsBytes : TextCounter K → TextCounter K → List ℕ → Type 0
  CountsBytes old new bytes = (before : List (List ℕ)) → (text : List ℕ) → HasCounted before old text → HasCounted before new (text ++ bytes)

  -- if the old counter had counted `text`, the new counter has counted `text` as a whole text
  abbrev pub CountsWholeText : TextCounter K → TextCounter K → Type 0
  CountsWholeText old new = (before : List (List ℕ)) → (text : List ℕ) → HasCounted before old text → HasEnded old.rule before new text

  -- the tokens of the text now belong to `before`, and another text begins. If bad lines are rejected, the text has none
  abbrev pub EndsWholeText : TextCounter K → TextCounter K → Type 0
  EndsWholeText old new =
      (before : List (List ℕ)) → (text : List ℕ) → HasCounted before old text → HasCounted (before ++ tokens_of old.rule text) new []
      × (old.reading.bad_lines ≡ Rejected → NoneIsBad old.rule (lines text))

  -- `reading` says how the lines of the text were read
  abbrev pub IsReadingOfText : TextCounter K → LinesRead → Type 0
  IsReadingOfText old reading = (before : List (List ℕ)) → (text : List ℕ) → HasCounted before old text → IsReadingOf old.rule text reading

  -- the line that the new counter read last is the first bad line of the text
  abbrev pub IsFirstBadOfText : TextCounter K → TextCounter K → Type 0
  IsFirstBadOfText old new = (before : List (List ℕ)) → (text : List ℕ) → HasCounted before old text → IsFirstBad old.rule text new.reading

  -- the line that the new counter read last is the first bad line of the text and then these bytes
  abbrev pub IsFirstBadOfTextWith : TextCounter K → TextCounter K → List ℕ → Type 0
  IsFirstBadOfTextWith old new bytes =
      (before : List (List ℕ)) → (text : List ℕ) → HasCounted before old text → IsFirstBad old.rule (text ++ bytes) new.reading

  -- the line that the new counter read last is the first bad line of the text, then these bytes, then any bytes
  abbrev pub IsFirstBadWhateverFollows : TextCounter K → TextCounter K → List ℕ → Type 0
  IsFirstBadWhateverFollows old new bytes =
      (before : List (List ℕ)) → (text : List ℕ) → HasCounted before old text → (more : List ℕ) → IsFirstBad old.rule ((text ++ bytes) ++ more) new.reading

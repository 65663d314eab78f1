-- Whole jobs: from the bytes of all inputs to the bytes that are written.
use denote.MutBor.{MutBor}
use denote.Triple.Both.{Both}
use Rattle.std.specs.Borrow.{Bor}
use Rattle.std.specs.Global.{Global}
use Rattle.std.specs.Prelude.{◌≡◌, ℕ, List, [], flat_map, Option, String}
use Rattle.hashbag_core.specs.Bag.{Bag}
use Rattle.hashbag_text.specs.declared.encoding.Encoding.{Encoding}
use Rattle.hashbag_words_lib.specs.Counts.{HasRows, HasTokens}
use Rattle.hashbag_words_lib.specs.Feeding.{ArePassed, AreRowsOfAll}
use Rattle.hashbag_words_lib.specs.Inputs.{AreRead, Changed}
use Rattle.hashbag_words_lib.specs.Shown.{shown_bytes, CountTexts, ShowsTexts}
use Rattle.hashbag_words_lib.specs.Sums.{IsTextOfSums}
use Rattle.hashbag_words_lib.specs.TokenLines.{token_lines}
use Rattle.hashbag_words_lib.specs.Tokens.{tokens_of}
use Rattle.hashbag_words_lib.specs.declared.choice.Choice.{Choice}
use Rattle.hashbag_words_lib.specs.declared.jobs.Reading.{Reading}
use Rattle.hashbag_words_lib.specs.declared.lines.BadLines.{BadLines}
use Rattle.hashbag_words_lib.specs.declared.rows.RowForm.{RowForm}
use Rattle.hashbag_words_lib.specs.declared.rows.RowForm.TheVariants.{Tsv}
use Rattle.hashbag_words_lib.specs.declared.rule.Rule.{Rule}
use Rattle.hashbag_words_lib.specs.declared.shown_text.Look.{Look}
use Rattle.hashbag_words_lib.specs.declared.shown_text.Shown.{Shown}
use Rattle.hashbag_words_lib.specs.declared.writing.Format.{Format}

-- `before` and `after`: the name and all bytes of each input that was read to its end
module _ (reading : Reading) (names : List (Bor (List ℕ))) (before after : List (List ℕ × List ℕ)) where
  -- the inputs of these names were read to their ends. The bag, which was empty, has the tokens of their texts. If bad lines are rejected, there are none
  pub record TokensCounted {S : Type 0} (rule : Rule) (bag bag' : Bag (String Global) S) : Type 0 where
    pub texts : List (List ℕ)
    pub read_all : AreRead reading.encoding names before after texts
    pub counts : bag.items ≡ [] → ArePassed rule reading.bad_lines texts × HasTokens bag' (flat_map (tokens_of rule) texts)

  -- the inputs of these names were read to their ends. The bag, which was empty, has the rows of these files
  pub record RowsAdded {S : Type 0} (form : RowForm) (bag bag' : Bag (String Global) S) : Type 0 where
    pub texts : List (List ℕ)
    pub read_all : AreRead reading.encoding names before after texts
    pub counts : bag.items ≡ [] → (rows : List (List ℕ × ℕ)) × AreRowsOfAll form reading.bad_lines texts rows × HasRows bag' rows

  -- the inputs of these names were read to their ends. If nothing was written before, the lines of their tokens were written, in order, and no more. If
  -- bad lines are rejected, there are none. `old` and `new`: all bytes that were written before, and after
  pub record LinesWritten (rule : Rule) (old new : List ℕ) : Type 0 where
    pub texts : List (List ℕ)
    pub read_all : AreRead reading.encoding names before after texts
    pub written : old ≡ [] → ArePassed rule reading.bad_lines texts × (new ≡ token_lines (flat_map (tokens_of rule) texts))

  -- the inputs of these names were read to their ends. If nothing was written before, the text of the sums of their rows was written, and no more
  pub record SumsWritten (shown : Choice × Format) (old new : List ℕ) : Type 0 where
    pub texts : List (List ℕ)
    pub read_all : AreRead reading.encoding names before after texts
    pub written : old ≡ [] → (rows : List (List ℕ × ℕ)) × AreRowsOfAll Tsv reading.bad_lines texts rows × IsTextOfSums shown rows new

  module _ (choice : Choice) (look : Look) where
    -- the inputs of these names were read to their ends. What was made shows the tokens of their texts, wherever blocks were cut. If bad lines are
    -- rejected, there are none
    pub record TokensWritten {S : Type 0} (rule : Rule) (bag : Bag (String Global) S) (made : Shown) : Type 0 where
      pub texts : List (List ℕ)
      pub read_all : AreRead reading.encoding names before after texts
      pub written : bag.items ≡ [] → ArePassed rule reading.bad_lines texts × ShowsTexts choice look (flat_map (tokens_of rule) texts) (shown_bytes made)

    -- the inputs of these names were read to their ends. What was made shows the tokens that the rows of these files count
    pub record RowsWritten {S : Type 0} (form : RowForm) (bag : Bag (String Global) S) (made : Shown) : Type 0 where
      pub texts : List (List ℕ)
      pub read_all : AreRead reading.encoding names before after texts
      pub written : bag.items ≡ [] → (rows : List (List ℕ × ℕ)) × AreRowsOfAll form reading.bad_lines texts rows
          × ((tokens : List (List ℕ)) → CountTexts rows tokens → ShowsTexts choice look tokens (shown_bytes made))

-- the same for the parameters of a job
module _ {B S X : Type 0} (ended : B → List (List ℕ × List ℕ)) (reading : Reading) (names : Both (Bor (List (Bor (List ℕ)))) X) (inputs : Changed B) where
  abbrev pub CountsTokens : {Y : Type 0} → Both Rule Y → Changed (Bag (String Global) S) → Type 0
  CountsTokens rule bag = TokensCounted reading names.entry.now (ended inputs.entry.now) (ended inputs.exit.now) rule.entry bag.entry.now bag.exit.now

  abbrev pub AddsFileRows : RowForm → Changed (Bag (String Global) S) → Type 0
  AddsFileRows form bag = RowsAdded reading names.entry.now (ended inputs.entry.now) (ended inputs.exit.now) form bag.entry.now bag.exit.now

abbrev pub WritesLines : {B W X Y : Type 0} → (B → List (List ℕ × List ℕ)) → (W → List ℕ) → Reading → Both (Bor (List (Bor (List ℕ)))) X → Changed B → Both Rule Y → W → W → Type 0
WritesLines ended written reading names inputs rule old new =
    LinesWritten reading names.entry.now (ended inputs.entry.now) (ended inputs.exit.now) rule.entry (written old) (written new)

abbrev pub WritesSums : {B W X Y : Type 0} → (B → List (List ℕ × List ℕ)) → (W → List ℕ) → Reading → Both (Bor (List (Bor (List ℕ)))) X → Changed B → Both Choice Y → Format → W → W → Type 0
WritesSums ended written reading names inputs choice format old new =
    SumsWritten reading names.entry.now (ended inputs.entry.now) (ended inputs.exit.now) (choice.entry, format) (written old) (written new)

module _ {B S X Y Z : Type 0} (ended : B → List (List ℕ × List ℕ)) (choice : Both Choice X) (look : Look) (reading : Reading) (names : Both (Bor (List (Bor (List ℕ)))) Y) (inputs : Changed B) where
  abbrev pub WritesTokens : {V : Type 0} → Both Rule V → Both (MutBor (Bag (String Global) S)) Z → Shown → Type 0
  WritesTokens rule bag made = TokensWritten reading names.entry.now (ended inputs.entry.now) (ended inputs.exit.now) choice.entry look rule.entry bag.entry.now made

  abbrev pub WritesRows : RowForm → Both (MutBor (Bag (String Global) S)) Z → Shown → Type 0
  WritesRows form bag made = RowsWritten reading names.entry.now (ended inputs.entry.now) (ended inputs.exit.now) choice.entry look form bag.entry.now made

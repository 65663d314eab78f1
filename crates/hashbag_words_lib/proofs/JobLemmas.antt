-- From the bytes of inputs to the bytes that are written.
use Rattle.std.proofs.Common.{◌≡◌, inl, inr, ℕ, List, [], ◌++◌, flat_map, String, Bor, Option, None, Some, Result, IfOk, refl, sym, ◌∙◌, ap, subst}
use Rattle.std.proofs.lemmas.List.Elements.{All-nil}
use Rattle.std.proofs.lemmas.Result.{IfOk-weaker}
use Rattle.std.specs.Global.{Global}
use Rattle.std.specs.Str.Lines.{lines}
use Rattle.hashbag_core.specs.Bag.{Bag}
use Rattle.hashbag_words_lib.specs.Added.{HasAdded}
use Rattle.hashbag_words_lib.specs.Counted.{HasCounted, NoneIsBad}
use Rattle.hashbag_words_lib.specs.Counts.{HasRows, HasTokens}
use Rattle.hashbag_words_lib.specs.Feeding.{HasAddedTexts, HasCountedTexts}
use Rattle.hashbag_words_lib.specs.Inputs.{AreRead, CountsInputs}
use Rattle.hashbag_words_lib.specs.Jobs.{LinesWritten, RowsAdded, RowsWritten, SumsWritten, TokensCounted, TokensWritten}
use Rattle.hashbag_words_lib.specs.Shown.{shown_bytes, ShowsCounted}
use Rattle.hashbag_words_lib.specs.Sums.{EndsSumsIn, HasSums}
use Rattle.hashbag_words_lib.specs.TokenLines.{HasLines}
use Rattle.hashbag_words_lib.specs.Tokens.{tokens_of}
use Rattle.hashbag_words_lib.specs.declared.choice.Choice.{Choice}
use Rattle.hashbag_words_lib.specs.declared.counter.TextCounter.{TextCounter}
use Rattle.hashbag_words_lib.specs.declared.jobs.Reading.{Reading}
use Rattle.hashbag_words_lib.specs.declared.row_counter.RowCounter.{RowCounter}
use Rattle.hashbag_words_lib.specs.declared.rows.RowForm.{RowForm}
use Rattle.hashbag_words_lib.specs.declared.rows.RowForm.TheVariants.{Tsv}
use Rattle.hashbag_words_lib.specs.declared.rule.Rule.{Rule}
use Rattle.hashbag_words_lib.specs.declared.shown_text.Look.{Look}
use Rattle.hashbag_words_lib.specs.declared.shown_text.Shown.{Shown}
use Rattle.hashbag_words_lib.specs.declared.sums.Sums.{Sums}
use Rattle.hashbag_words_lib.specs.declared.token_lines.TokenLines.{TokenLines}
use Rattle.hashbag_words_lib.specs.declared.writing.Format.{Format}
use Rattle.hashbag_words_lib.proofs.CountLemmas.{no_rows, no_tokens}

module _ {B : Type 0} (ended : B → List (List ℕ × List ℕ)) (reading : Reading) (names : List (Bor (List ℕ))) (inputs inputs' : B) where
  -- ---- what was counted

  module _ {S : Type 0} (bag bag' : Bag (String Global) S) where
    -- tokens, in a bag
    pub tokens_counted : (rule : Rule) (first last : TextCounter (Bag (String Global) S)) → first.rule ≡ rule → first.reading.bad_lines ≡ reading.bad_lines
        → ((before : List (List ℕ)) → HasTokens bag before → HasCounted HasTokens before first []) → ((before : List (List ℕ)) → HasCounted HasTokens before last [] → HasTokens bag' before)
        → CountsInputs (HasCountedTexts HasTokens) ended reading.encoding names inputs inputs' first last → TokensCounted reading names (ended inputs) (ended inputs') rule bag bag'
    tokens_counted rule first last same_rule same_lines begins has counts = record {
      texts = counts.texts;
      read_all = counts.read;
      counts = λ empty.
          let all = counts.counts (inl (rule, reading.bad_lines)) [] (record {
            same_rule = same_rule;
            same_lines = same_lines;
            passed = λ rejected. All-nil (λ (text : List ℕ). NoneIsBad rule (lines text));
            counted = begins [] (no_tokens bag empty);
          }) in
          (all.passed, has (flat_map (tokens_of rule) counts.texts) all.counted);
    }

    -- rows, in a bag
    pub rows_added : (form : RowForm) (first last : RowCounter (Bag (String Global) S)) → first.form ≡ form → first.reading.bad_lines ≡ reading.bad_lines
        → ((before : List (List ℕ × ℕ)) → HasRows bag before → HasAdded (λ (shown : Option (Choice × Format)) bag rows. HasRows bag rows) None before first [])
        → ((before : List (List ℕ × ℕ)) → HasAdded (λ (shown : Option (Choice × Format)) bag rows. HasRows bag rows) None before last [] → HasRows bag' before)
        → CountsInputs (HasAddedTexts (λ shown bag rows. HasRows bag rows)) ended reading.encoding names inputs inputs' first last → RowsAdded reading names (ended inputs) (ended inputs') form bag bag'
    rows_added form first last same_form same_lines begins has counts = record {
      texts = counts.texts;
      read_all = counts.read;
      counts = λ empty.
          let all = counts.counts (inr (form, reading.bad_lines, None)) [] (record {
            same_form = same_form;
            same_lines = same_lines;
            rows = [];
            are = refl;
            added = begins [] (no_rows bag empty);
          }) in
          (all.rows, all.are, has all.rows all.added);
    }

  -- ---- what was written as it came

  module _ {W : Type 0} (written : W → List ℕ) (old new : W) where
    -- tokens
    pub lines_written : (rule : Rule) (first last : TextCounter (TokenLines W)) (sink : TokenLines W) → first.rule ≡ rule → first.reading.bad_lines ≡ reading.bad_lines
        → (written old ≡ [] → HasCounted (HasLines written) [] first []) → ((before : List (List ℕ)) → HasCounted (HasLines written) before last [] → HasLines written sink before)
        → written new ≡ written sink.to ++ sink.part.items
        → CountsInputs (HasCountedTexts (HasLines written)) ended reading.encoding names inputs inputs' first last → LinesWritten reading names (ended inputs) (ended inputs') rule (written old) (written new)
    lines_written rule first last sink same_rule same_lines begins has is counts = record {
      texts = counts.texts;
      read_all = counts.read;
      written = λ none.
          let all = counts.counts (inl (rule, reading.bad_lines)) [] (record {
            same_rule = same_rule;
            same_lines = same_lines;
            passed = λ rejected. All-nil (λ (text : List ℕ). NoneIsBad rule (lines text));
            counted = begins none;
          }) in
          (all.passed, is ∙ has (flat_map (tokens_of rule) counts.texts) all.counted);
    }

    -- sums
    pub sums_written : (shown : Choice × Format) (first last : RowCounter (Sums W)) (sink : Sums W) → first.form ≡ Tsv → first.reading.bad_lines ≡ reading.bad_lines
        → (written old ≡ [] → HasAdded (HasSums written) (Some shown) [] first []) → ((before : List (List ℕ × ℕ)) → HasAdded (HasSums written) (Some shown) before last [] → HasSums written (Some shown) sink before)
        → EndsSumsIn written sink new
        → CountsInputs (HasAddedTexts (HasSums written)) ended reading.encoding names inputs inputs' first last → SumsWritten reading names (ended inputs) (ended inputs') shown (written old) (written new)
    sums_written shown first last sink same_form same_lines begins has ends counts = record {
      texts = counts.texts;
      read_all = counts.read;
      written = λ none.
          let all = counts.counts (inr (Tsv, reading.bad_lines, Some shown)) [] (record {
            same_form = same_form;
            same_lines = same_lines;
            rows = [];
            are = refl;
            added = begins none;
          }) in
          (all.rows, all.are, ends shown all.rows (has all.rows all.added));
    }

-- ---- what was counted was written

module _ {B S E : Type 0} (ended : B → List (List ℕ × List ℕ)) (choice : Choice) (look : Look) (reading : Reading) (names : List (Bor (List ℕ))) (before after last : B) (bag bag' : Bag (String Global) S)
    (result : Result Shown E) (shows : IfOk result (λ shown. ShowsCounted choice look bag' (shown_bytes shown))) (same : ended last ≡ ended after) where
  still_read : (texts : List (List ℕ)) → AreRead reading.encoding names (ended before) (ended after) texts → AreRead reading.encoding names (ended before) (ended last) texts
  still_read texts are = subst (λ (l : List (List ℕ × List ℕ)). AreRead reading.encoding names (ended before) l texts) (sym same) are

  pub tokens_written : (rule : Rule) → TokensCounted reading names (ended before) (ended after) rule bag bag'
      → IfOk result (TokensWritten reading names (ended before) (ended last) choice look rule bag)
  tokens_written rule counts =
      IfOk-weaker result (λ shown. ShowsCounted choice look bag' (shown_bytes shown)) (TokensWritten reading names (ended before) (ended last) choice look rule bag) (λ made shown. record {
        texts = counts.texts;
        read_all = still_read counts.texts counts.read_all;
        written = λ empty. let all = counts.counts empty in (all.0, shown (flat_map (tokens_of rule) counts.texts) all.1);
      }) shows

  pub rows_written : (form : RowForm) → RowsAdded reading names (ended before) (ended after) form bag bag'
      → IfOk result (RowsWritten reading names (ended before) (ended last) choice look form bag)
  rows_written form adds =
      IfOk-weaker result (λ shown. ShowsCounted choice look bag' (shown_bytes shown)) (RowsWritten reading names (ended before) (ended last) choice look form bag) (λ made shown. record {
        texts = adds.texts;
        read_all = still_read adds.texts adds.read_all;
        written = λ empty. let all = adds.counts empty in (all.0, all.1, λ tokens counts. shown tokens (λ text. all.2 text ∙ counts text));
      }) shows

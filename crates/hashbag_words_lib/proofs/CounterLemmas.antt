-- What counters have of texts, when a call changes them.
use Rattle.std.proofs.Common.{◌≡◌, inl, inr, ℕ, List, [], ◌∷◌, ◌++◌, All, flat_map, Option, refl, sym, ◌∙◌, ap, subst, append_assoc}
use Rattle.std.proofs.lemmas.Grind.{flat_map-append}
use Rattle.std.proofs.lemmas.List.{append-nil}
use Rattle.std.proofs.lemmas.List.Elements.{All-nil, All-append, All-cons}
use Rattle.std.specs.Str.Lines.{lines}
use Rattle.hashbag_words_lib.specs.Added.{AddsBytes, AreRowsOf, EndsFile}
use Rattle.hashbag_words_lib.specs.Counted.{CountsBytes, EndsWholeText, HasCounted, NoneIsBad}
use Rattle.hashbag_words_lib.specs.Feeding.{AreRowsOfAll, EndsText, HasAddedTexts, AddsFed, HasCountedTexts}
use Rattle.hashbag_words_lib.specs.Tokens.{tokens_of}
use Rattle.hashbag_words_lib.specs.declared.choice.Choice.{Choice}
use Rattle.hashbag_words_lib.specs.declared.counter.TextCounter.{TextCounter}
use Rattle.hashbag_words_lib.specs.declared.lines.BadLines.{BadLines}
use Rattle.hashbag_words_lib.specs.declared.row_counter.RowCounter.{RowCounter}
use Rattle.hashbag_words_lib.specs.declared.rows.RowForm.{RowForm}
use Rattle.hashbag_words_lib.specs.declared.rule.Rule.{Rule}
use Rattle.hashbag_words_lib.specs.declared.writing.Format.{Format}

-- ---- tokens of texts

tokens_more : (rule : Rule) (texts : List (List ℕ)) (text : List ℕ) → flat_map (tokens_of rule) texts ++ tokens_of rule text ≡ flat_map (tokens_of rule) (texts ++ text ∷ [])
tokens_more rule texts text =
    sym (flat_map-append (tokens_of rule) texts (text ∷ []) ∙ ap (λ (l : List (List ℕ)). flat_map (tokens_of rule) texts ++ l) (append-nil (tokens_of rule text)))

module _ {K : Type 0} (has : K → List (List ℕ) → Type 0) (old new : TextCounter K) (rule_is : new.rule ≡ old.rule) (lines_are : new.reading.bad_lines ≡ old.reading.bad_lines) where
  pub text_fed : (bytes : List ℕ) → CountsBytes has old new bytes → AddsFed (HasCountedTexts has) old new bytes
  text_fed bytes counts (inl how) texts text h =
      record { same_rule = rule_is ∙ h.same_rule; same_lines = lines_are ∙ h.same_lines; passed = h.passed; counted = counts (flat_map (tokens_of how.0) texts) text h.counted }
  text_fed bytes counts (inr how) texts text h = h

  pub text_ended : EndsWholeText has old new → EndsText (HasCountedTexts has) old new
  text_ended ends (inl how) texts text h =
      let did = ends (flat_map (tokens_of how.0) texts) text h.counted in
      record {
        same_rule = rule_is ∙ h.same_rule;
        same_lines = lines_are ∙ h.same_lines;
        passed = λ rejected.
            let good : List ℕ → Type 0 = λ t. NoneIsBad how.0 (lines t) in
            All-append good texts (text ∷ []) (h.passed rejected)
            (All-cons good text [] (subst (λ (r : Rule). NoneIsBad r (lines text)) h.same_rule (did.1 (h.same_lines ∙ rejected))) (All-nil good));
        counted = subst (λ (tokens : List (List ℕ)). HasCounted has tokens new [])
            (ap (λ (r : Rule). flat_map (tokens_of how.0) texts ++ tokens_of r text) h.same_rule ∙ tokens_more how.0 texts text) did.0;
      }
  text_ended ends (inr how) texts text h = h

-- ---- rows of files

all_more : (form : RowForm) (bad_lines : BadLines) (texts : List (List ℕ)) (text : List ℕ) (rows more : List (List ℕ × ℕ)) → AreRowsOfAll form bad_lines texts rows → AreRowsOf form bad_lines text more → AreRowsOfAll form bad_lines (texts ++ text ∷ []) (rows ++ more)
all_more form bad_lines [] text rows more none one = (more, [], one, refl, ap (λ (l : List (List ℕ × ℕ)). l ++ more) none ∙ sym (append-nil more))
all_more form bad_lines (t ∷ texts) text rows more (first, later, of_first, of_later, is) one =
    (first, later ++ more, of_first, all_more form bad_lines texts text later more of_later one, ap (λ (l : List (List ℕ × ℕ)). l ++ more) is ∙ append_assoc first later more)

module _ {K : Type 0} (has : Option (Choice × Format) → K → List (List ℕ × ℕ) → Type 0) (old new : RowCounter K) (form : new.form ≡ old.form) (bad_lines : new.reading.bad_lines ≡ old.reading.bad_lines) where
  pub file_fed : (bytes : List ℕ) → AddsBytes has old new bytes → AddsFed (HasAddedTexts has) old new bytes
  file_fed bytes adds (inl how) texts text h = h
  file_fed bytes adds (inr how) texts text h =
      record { same_form = form ∙ h.same_form; same_lines = bad_lines ∙ h.same_lines; rows = h.rows; are = h.are; added = adds how.2 h.rows text h.added }

  pub file_ended : EndsFile has old new → EndsText (HasAddedTexts has) old new
  file_ended ends (inl how) texts text h = h
  file_ended ends (inr how) texts text h =
      let ended = ends how.2 h.rows text h.added in
      record {
        same_form = form ∙ h.same_form;
        same_lines = bad_lines ∙ h.same_lines;
        rows = h.rows ++ ended.0;
        are = all_more how.0 how.1 texts text h.rows ended.0 h.are
            (subst (λ (f : RowForm). AreRowsOf f how.1 text ended.0) (form ∙ h.same_form) (subst (λ (b : BadLines). AreRowsOf new.form b text ended.0) h.same_lines ended.1));
        added = ended.2;
      }

-- Two files, and the lists that were read from them.
use Rattle.std.specs.Prelude.{◌≡◌, ◌⊎◌, ℕ, Bool, List, ◌++◌, String, option_copied, ⊤}
use Rattle.std.specs.Global.{Global, Vec}
use Rattle.std.specs.HashMap.{HashMap}
use Rattle.hashbag_csv.specs.BadLines.{AreBadLinesOf}
use Rattle.hashbag_csv.specs.FirstLines.{AddsFirsts, HasFirsts}
use Rattle.hashbag_csv.specs.Readers.{Record}
use Rattle.hashbag_csv.specs.declared.fault.SheetError.{SheetError}
use Rattle.hashbag_shell.specs.Inputs.{IsTextRead}
use Rattle.hashbag_match_lib.specs.Asks.{carried_along, delivered_in, lines_asked, ordered_in}
use Rattle.hashbag_match_lib.specs.Fields.{TalliesLines}
use Rattle.hashbag_match_lib.specs.Matched.{IsStatusOfTexts}
use Rattle.hashbag_match_lib.specs.Readable.{IsReadableAs}
use Rattle.hashbag_match_lib.specs.Texts.{IsTextOfTexts}
use Rattle.hashbag_match_lib.specs.declared.ask.Ask.{Ask}
use Rattle.hashbag_match_lib.specs.declared.ask.Columns.{Columns}
use Rattle.hashbag_match_lib.specs.declared.files.Source.{Source}
use Rattle.hashbag_match_lib.specs.declared.files.TwoFiles.{TwoFiles}
use Rattle.hashbag_match_lib.specs.declared.files.Unmatched.{Unmatched}
use Rattle.hashbag_match_lib.specs.declared.files.Unmatched.TheVariants.{BadLines, Trouble}
use Rattle.hashbag_match_lib.specs.declared.tally.Tally.{Tally}
use Rattle.hashbag_match_lib.specs.declared.texts.Findings.{Findings}
use Rattle.hashbag_match_lib.specs.declared.texts.Lists.{Lists}

-- a predicate on the name of a file and the bytes of the file
abbrev pub Gives : Type 1
Gives = List ℕ → List ℕ → Type 0

-- `tally` is of the list in a file, and the carried fields of the list's lines were added to the map `old`, which became `new`
pub record IsListOf {A S H : Type 0} (eq : A → A → Bool) (fields : A → Record) (gives : Gives) (ask : Ask) (source : Source)
    (old new : HashMap A (Vec (String Global)) S) (tally : Tally A S H) : Type 0 where
  pub text : List ℕ
  pub given : IsTextRead gives source.encoding source.file.now text
  pub lines : TalliesLines eq fields (lines_asked ask source.columns.now text) tally
  pub readable : IsReadableAs ask source.columns.now text
  pub carried : AddsFirsts eq fields (carried_along ask source.columns.now text) old new

-- the lists of two files. The carried fields of an article are from its first line; the lines of what was ordered come first
pub record AreListsOf {A S H : Type 0} (eq : A → A → Bool) (fields : A → Record) (gives : Gives) (files : TwoFiles) (ask : Ask) (lists : Lists A S H) : Type 0 where
  pub first : List ℕ
  pub second : List ℕ
  pub given_first : IsTextRead gives files.encodings.0 files.ordered.now first
  pub given_second : IsTextRead gives files.encodings.1 files.delivered.now second
  pub ordered_lines : TalliesLines eq fields (ordered_in ask first) lists.ordered
  pub delivered_lines : TalliesLines eq fields (delivered_in ask second) lists.delivered
  pub readable_first : IsReadableAs ask ask.ordered first
  pub readable_second : IsReadableAs ask ask.delivered second
  pub carried : HasFirsts eq fields (carried_along ask ask.ordered first ++ carried_along ask ask.delivered second) lists.firsts

-- two files were read, and each record of both could be. `made` has the status: 0 exactly if their texts name the same quantity of each article, else 1. `made` also has the text of
-- the rows of both lists
pub record AreMatchedFiles (Rising : List Record → Type 0) (gives : Gives) (files : TwoFiles) (ask : Ask) (made : Vec ℕ × Findings) : Type 0 where
  pub first : List ℕ
  pub second : List ℕ
  pub given_first : IsTextRead gives files.encodings.0 files.ordered.now first
  pub given_second : IsTextRead gives files.encodings.1 files.delivered.now second
  pub readable_first : IsReadableAs ask ask.ordered first
  pub readable_second : IsReadableAs ask ask.delivered second
  pub status_is : IsStatusOfTexts ask first second made.1.status
  pub text_is : IsTextOfTexts Rising ask first second made.0.items

-- the errors of the bad lines of a text, at most `ask.max_errors`
abbrev pub AreErrorsIn : Ask → Columns → List ℕ → List SheetError → Type 0
AreErrorsIn ask c text errors = AreBadLinesOf c.reading ask.line_form (option_copied c.number) ask.max_errors text errors

-- if the error is `BadLines`, it has this file's name and the errors of this text
abbrev pub NamesLinesOfText : Ask → Columns → List ℕ → List ℕ → Unmatched → Type 0
NamesLinesOfText ask c file text (Trouble trouble) = ⊤
NamesLinesOfText ask c file text (BadLines name errors) = (name.now ≡ file) × AreErrorsIn ask c text errors.items

-- the same for some text of which `given` holds
abbrev pub NamesGiven : (List ℕ → Type 0) → Ask → Columns → List ℕ → Unmatched → Type 0
NamesGiven given ask c file (Trouble trouble) = ⊤
NamesGiven given ask c file (BadLines name errors) = (text : List ℕ) × given text × NamesLinesOfText ask c file text (BadLines name errors)

-- the same for the text of a file
abbrev pub NamesLinesOfSource : Gives → Ask → Source → Unmatched → Type 0
NamesLinesOfSource gives ask source why = NamesGiven (IsTextRead gives source.encoding source.file.now) ask source.columns.now source.file.now why

-- the same for one of two files
abbrev pub NamesLinesOfEither : Gives → TwoFiles → Ask → Unmatched → Type 0
NamesLinesOfEither gives files ask why =
    NamesGiven (IsTextRead gives files.encodings.0 files.ordered.now) ask ask.ordered files.ordered.now why
    ⊎ NamesGiven (IsTextRead gives files.encodings.1 files.delivered.now) ask ask.delivered files.delivered.now why

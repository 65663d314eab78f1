use Rattle.std.proofs.Common.{List, ℕ, Some, refl, sym, ◌∙◌, ap}
use Rattle.csv.specs.Reading.{strip_bom}
use Rattle.hashbag_csv.proofs.ReaderLemmas.{cut_is, unread}
use Rattle.hashbag_csv.proofs.sheet.Sheet.open_unread.Goals as goal

-- all records of the text without its mark
pub returns-clause-left : goal.returns-clause-left
returns-clause-left c =
    let cut = cut_is c.args.text.now c.strip_prefix.result c.args.text c.unwrap_or-text.result refl c.strip_prefix.ensures.cases c.unwrap_or-text.ensures in
    let source = c.from_reader.ensures.source ∙ ap (λ (s : List ℕ). Some (strip_bom s)) cut in
    sym (unread c.args.delimiter c.from_reader.result (strip_bom (strip_bom c.args.text.now)) c.from_reader.ensures.state source)

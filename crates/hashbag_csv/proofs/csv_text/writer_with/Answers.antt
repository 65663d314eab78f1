use Rattle.std.proofs.Common.{ℕ, ◌∙◌, ap}
use Rattle.csv.specs.Writing.{default_writer, with_delimiter}
use Rattle.hashbag_csv.proofs.WrittenLemmas.{byte_is, none_written}
use Rattle.hashbag_csv.proofs.csv_text.writer_with.Goals as goal

pub returns : goal.returns
returns c =
    let from = c.from_writer.ensures in
    let byte = byte_is c.args.delimiter c.byte.result c.byte.ensures.comma c.byte.ensures.semicolon c.byte.ensures.tab in
    none_written c.args.delimiter c.from_writer.result _ _ from.cfg (rw c.new.ensures at c.delimiter.ensures ∙ ap (λ (b : ℕ). with_delimiter default_writer b) byte) from.fields from.wrote from.wtr c.new-2.ensures.items from.empty

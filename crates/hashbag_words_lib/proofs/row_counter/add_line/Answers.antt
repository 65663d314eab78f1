use Rattle.std.proofs.Common.{[], ◌∷◌, subst}
use Rattle.hashbag_words_lib.specs.Rows.{IsNoRow, IsRowOf}
use Rattle.hashbag_words_lib.specs.Added.{line_at}
use Rattle.hashbag_words_lib.proofs.AddedLemmas.{skipped_line}
use Rattle.hashbag_words_lib.proofs.row_counter.add_line.Goals as goal

-- the line is a row
pub returns-in-Ok-clause-rows : goal.returns-in-Ok-clause-rows
returns-in-Ok-clause-rows g c =
    let did = c.in-Ok.ensures.line in (
      (did.token, did.count) ∷ [],
      subst (λ l. IsRowOf c.args.form l (did.token, did.count)) c.past_mark_at-line.ensures did.read,
      did.takes,
    )

-- it is none
pub returns-in-Err-Line-clause-rows : goal.returns-in-Err-Line-clause-rows
returns-in-Err-Line-clause-rows g c =
    let none = c.in-Err-Line.ensures in
    skipped_line g.K.RowSink.has c.pass_over.result c.args.form c.args.reading.now.bad_lines c.count_line.new.self.bad_lines (line_at c.args.reading.now.line c.args.line.now) c.args.sink.now c.add_row.new.sink
    c.pass_over.ensures.only_passed c.count_line.ensures.bad_lines (subst (IsNoRow c.args.form) c.past_mark_at-line.ensures (none.bad c.in-Err-Line.bad c.in-Err-Line.field-0-is)) (none.kept c.in-Err-Line.bad c.in-Err-Line.field-0-is)

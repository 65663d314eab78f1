use Rattle.std.proofs.lemmas.Result.{on_ok_weaker}
use Rattle.hashbag_words_lib.proofs.AddedLemmas.{Added-kept}
use Rattle.hashbag_words_lib.proofs.CountedLemmas.{told, told_same}
use Rattle.hashbag_words_lib.proofs.row_counter.RowCounter.feed.Goals as goal

-- the lines were added, and what the sink has stays
pub returns-clause-added : goal.returns-clause-added
returns-clause-added g c =
    let to = c.add_lines.new.self in
    on_ok_weaker c.flush.result
    (λ keeps shown before text h. Added-kept g.K.RowSink.has to.form shown before to.sink c.flush.new.self to.partial.items to.reading _ keeps (c.in_ok-add_lines.ensures.added shown before text h))
    c.flush.ensures.same

pub returns-clause-bad : goal.returns-clause-bad
returns-clause-bad g c = told c.flush.result (λ none. absurd none) c.flush.ensures.line

pub returns-in_err-add_lines-clause-bad : goal.returns-in_err-add_lines-clause-bad
returns-in_err-add_lines-clause-bad g c = told_same c.from_residual.result c.in_err-add_lines.field-0.0 c.from_residual.ensures.1 c.in_err-add_lines.ensures.bad

use Rattle.std.proofs.lemmas.Result.{on_ok_weaker}
use Rattle.hashbag_words_lib.proofs.CountedLemmas.{Counted-kept, told, told_same}
use Rattle.hashbag_words_lib.proofs.counter.TextCounter.feed.Goals as goal

-- the lines were added, and what the sink has stays
pub returns-clause-counted : goal.returns-clause-counted
returns-clause-counted g c =
    let to = c.add_lines.new.self in
    on_ok_weaker c.flush.result
    (λ keeps before text h. Counted-kept g.K.TokenSink.has to.rule before to.sink c.flush.new.self to.partial.items to.reading _ keeps (c.in_ok-add_lines.ensures.counted before text h))
    c.flush.ensures.same

pub returns-clause-bad : goal.returns-clause-bad
returns-clause-bad g c = told c.flush.result (λ none. absurd none) c.flush.ensures.line

pub returns-in_err-add_lines-clause-bad : goal.returns-in_err-add_lines-clause-bad
returns-in_err-add_lines-clause-bad g c = told_same c.from_residual.result c.in_err-add_lines.field-0.0 c.from_residual.ensures.1 c.in_err-add_lines.ensures.bad
